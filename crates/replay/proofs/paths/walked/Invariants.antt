use Rattle.std.proofs.Common.{◌≡◌, ◌≤◌, true, length, take, drop}
use Rattle.replay.specs.Messages.{fits, replay}
use Rattle.replay.specs.Paths.{ops}
use Rattle.replay.proofs.paths.walked.Given as goal

abbrev pub invariant-loop-link : goal.invariant-loop-link
invariant-loop-link l =
    (length l.work ≡ 4096)
    × (l.size ≤ 4096)
    × (fits (ops (drop l.link-index l.path)) (take l.size l.work) ≡ true)
    × (replay (ops (drop l.link-index l.path)) (take l.size l.work) ≡ replay (ops l.path) (take l.initial.size l.initial.work))
