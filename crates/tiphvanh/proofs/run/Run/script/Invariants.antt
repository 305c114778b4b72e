use Rattle.std.proofs.Common.{◌-◌, length}
use Rattle.tiphvanh.proofs.run.Run.script.Given as goal

-- fewer lines are left each time
abbrev pub decreases-loop-from : goal.decreases-loop-from
decreases-loop-from l = length l.lines.items - l.from
