use Rattle.replay.proofs.Leaving.{guards_leave}
use Rattle.replay.proofs.guards_leave.Goals as goal

pub returns : goal.returns
returns c = guards_leave
