use Rattle.claim_trees.proofs.written_is_read.Goals as goal
use Rattle.claim_trees.proofs.WrittenFiles.{written_law}

pub returns : goal.returns
returns c = written_law
