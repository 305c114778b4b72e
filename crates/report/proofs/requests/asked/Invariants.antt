use Rattle.std.proofs.Common.{◌≡◌, length}
use Rattle.report.specs.Requests.{request_from}
use Rattle.report.proofs.requests.asked.Given as goal

abbrev pub invariant-loop-left : goal.invariant-loop-left
invariant-loop-left l = request_from l.initial.request l.initial.left ≡ request_from l.request l.left

abbrev pub decreases-loop-left : goal.decreases-loop-left
decreases-loop-left l = length l.left
