use Rattle.std.proofs.Common.{◌≡◌, ◌++◌, drop, string_bytes}
use Rattle.account.specs.Words.{hex_of}
use Rattle.account.proofs.words.push_hex.Given as goal

abbrev pub invariant-loop-b : goal.invariant-loop-b
invariant-loop-b l = string_bytes l.initial.out ++ hex_of l.bytes ≡ string_bytes l.out ++ hex_of (drop l.b-index l.bytes)
