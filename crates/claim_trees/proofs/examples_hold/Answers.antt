use Rattle.claim_trees.proofs.examples_hold.Goals as goal
use Rattle.claim_trees.proofs.ExamplesHold.{examples}

pub returns : goal.returns
returns c = examples
