use Rattle.claim_trees.proofs.claims_are_listed.Goals as goal
use Rattle.claim_trees.proofs.Listing.{listed}

pub returns : goal.returns
returns c = listed
