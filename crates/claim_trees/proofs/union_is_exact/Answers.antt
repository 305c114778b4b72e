use Rattle.claim_trees.proofs.union_is_exact.Goals as goal
use Rattle.claim_trees.proofs.Unions.{union_law}

pub returns : goal.returns
returns c = union_law
