use Rattle.std.proofs.Common.{◌≡◌, length}
use Rattle.format.specs.Walks.{risen}
use Rattle.proof.proofs.levels.Levels.rise.Given as goal

abbrev pub invariant-loop-level : goal.invariant-loop-level
invariant-loop-level l = risen l.self ≡ risen l.initial.self

abbrev pub decreases-loop-level : goal.decreases-loop-level
decreases-loop-level l = length l.self
