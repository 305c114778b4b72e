use Rattle.format.proofs.WalkLaw.{items_determine_claims}
use Rattle.format.proofs.items_determine_claims.Goals as goal

pub returns : goal.returns
returns c = items_determine_claims
