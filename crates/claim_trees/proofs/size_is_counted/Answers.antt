use Rattle.claim_trees.proofs.size_is_counted.Goals as goal
use Rattle.claim_trees.proofs.Sizes.{size_law}

pub returns : goal.returns
returns c = size_law
