use Rattle.std.proofs.Common.{◌≡◌, ◌*◌, ◌++◌, take}
use Rattle.replay.specs.Messages.{digits}
use Rattle.written.specs.Writers.{written, Moved}
use Rattle.sheets.proofs.hex.put_hex.Given as goal

abbrev pub invariant-loop-b : goal.invariant-loop-b
invariant-loop-b l =
    Moved l.fn.w l.w (2 * l.b-index)
    × (written l.w ≡ written l.fn.w ++ digits (take l.b-index l.bytes))
