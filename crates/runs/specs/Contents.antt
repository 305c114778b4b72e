-- What a dossier holds: nothing, or a digest and the tree of its claims.
use Rattle.std.specs.Prelude.{ℕ, List, [], Some, None, Option}
use Rattle.format.specs.Nodes.{Claim}
use Rattle.claim_trees.specs.Tree.{Held, claims, blank as no_claims}

-- the file hash is always SHA-256
pub data Content : Type 0 where
  blank : Content
  about : (digest : List ℕ) (tree : Held) → Content

abbrev pub tree_in : Content → Held
tree_in blank = no_claims
tree_in (about digest tree) = tree

-- the claims in written order
abbrev pub claims_in : Content → List Claim
claims_in blank = []
claims_in (about digest tree) = claims tree.marks tree.branches

abbrev pub digest_in : Content → Option (List ℕ)
digest_in blank = None
digest_in (about digest tree) = Some digest

-- the message at the top, from which every path is replayed
abbrev pub top_in : Content → List ℕ
top_in blank = []
top_in (about digest tree) = digest

-- a dossier is open or settled
pub data Dossier : Type 0 where
  opened : Content → Dossier
  settled : Content → Dossier

abbrev pub content : Dossier → Content
content (opened s) = s
content (settled s) = s
