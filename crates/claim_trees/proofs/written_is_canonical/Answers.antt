use Rattle.claim_trees.proofs.written_is_canonical.Goals as goal
use Rattle.claim_trees.proofs.CanonicalFiles.{canonical_law}

pub returns : goal.returns
returns c = canonical_law
