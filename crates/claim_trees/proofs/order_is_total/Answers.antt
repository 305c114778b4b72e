use Rattle.claim_trees.proofs.order_is_total.Goals as goal
use Rattle.claim_trees.proofs.Ascending.{order_law}

pub returns : goal.returns
returns c = order_law
