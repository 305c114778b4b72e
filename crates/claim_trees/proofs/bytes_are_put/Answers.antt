use Rattle.claim_trees.proofs.bytes_are_put.Goals as goal
use Rattle.claim_trees.proofs.Lengths.{onto_law}

pub returns : goal.returns
returns c = onto_law
