use Rattle.std.proofs.Common.{◌≡◌, ◌-◌, ◌*◌}
use Rattle.sha256.specs.Sha256.{K, extended, rounds}
use Rattle.sha256.specs.Working.{window}
use Rattle.sha256.proofs.compression.all_rounds.Given as goal

-- the window moves at the start of each turn but the first
abbrev pub invariant-loop-j : goal.invariant-loop-j
invariant-loop-j l =
    (l.v ≡ rounds l.fn.hash K (extended l.fn.first 48) (16 * l.j)) × (l.w ≡ window l.fn.first (16 * (l.j - 1)))
