use Rattle.claim_trees.proofs.shortest_is_least.Goals as goal
use Rattle.claim_trees.proofs.Shortest.{number_law}

pub returns : goal.returns
returns c = number_law
