use Rattle.replay.proofs.Digits.{Turning}
use Rattle.replay.proofs.operations.hexlify.Given as goal

abbrev pub invariant-loop-i : goal.invariant-loop-i
invariant-loop-i l = Turning l.initial.work l.size l.work l.i
