-- The one sorted tree of a list of claims.
use Rattle.std.specs.Prelude.{◌≡◌, ℕ, true, List, [], ◌∷◌}
use Rattle.format.specs.Operations.{Op}
use Rattle.format.specs.Attestations.{Att}
use Rattle.format.specs.Nodes.{Claim}
use Rattle.claim_trees.specs.Tree.{end, more, Held, held, blank, claims, Alike}
use Rattle.claim_trees.specs.Order.{ascends, sorted}
use Rattle.claim_trees.specs.Union.{union}
use Rattle.claim_trees.specs.Bytes.{file_bytes}

-- the tree of one claim
unfoldable pub line : List Op → Att → Held
line [] a = held (a ∷ []) end
line (o ∷ os) a = held [] (more o (line os a).marks (line os a).branches end)

unfoldable pub gathered : List Claim → Held
gathered [] = blank
gathered (c ∷ cs) = union (line c.path c.attestation) (gathered cs)

-- the file that is written for a digest and these claims, in whatever order and however often they are listed
abbrev pub written : List ℕ → List Claim → List ℕ
written digest cs = file_bytes digest (gathered cs).marks (gathered cs).branches

-- sorted, no operation over an empty node, and exactly these claims
pub record Holds (x : Held) (cs : List Claim) : Type 0 where
  pub marks : ascends x.marks ≡ true
  pub branches : sorted x.branches ≡ true
  pub claims : Alike (claims x.marks x.branches) cs
