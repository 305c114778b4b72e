use Rattle.std.proofs.Common.{◌≡◌, ◌++◌, length, vec_items}
use Rattle.report.specs.Requests.{pieces_of}
use Rattle.report.proofs.requests.pieces.Given as goal

abbrev pub invariant-loop-left : goal.invariant-loop-left
invariant-loop-left l = vec_items l.initial.pieces ++ pieces_of l.initial.left ≡ vec_items l.pieces ++ pieces_of l.left

abbrev pub decreases-loop-left : goal.decreases-loop-left
decreases-loop-left l = length l.left
