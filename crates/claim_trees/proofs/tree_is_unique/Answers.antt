use Rattle.claim_trees.proofs.tree_is_unique.Goals as goal
use Rattle.claim_trees.proofs.Unions.{unique_law}

pub returns : goal.returns
returns c = unique_law
