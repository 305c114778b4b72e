use Rattle.std.proofs.Common.{◌≡◌, ℕ, length}
use Rattle.written.specs.Writers.{written}
use Rattle.written.proofs.writer.Writer.number.Given as goal
use Rattle.written.proofs.Numbers.{Going}

abbrev pub invariant-loop-left : goal.invariant-loop-left
invariant-loop-left l =
    (l.self.out.ghost_name ≡ l.fn.self.out.ghost_name) × ((length l.self.out.now ≡ length l.fn.self.out.now)
    × ((k : ℕ) × Going (written l.fn.self) l.fn.self.at l.n (written l.self) l.self.at l.left k))

abbrev pub decreases-loop-left : goal.decreases-loop-left
decreases-loop-left l = l.left
