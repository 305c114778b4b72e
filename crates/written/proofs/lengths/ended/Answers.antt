use Rattle.written.proofs.Ends.{branches_end}
use Rattle.written.proofs.lengths.ended.Goals as goal

pub returns : goal.returns
returns c = branches_end c.args.b.now c.is_none.result c.is_none.ensures
