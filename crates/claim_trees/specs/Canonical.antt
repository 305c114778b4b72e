-- The canonical file of a digest and a set of claims, in terms of its bytes alone.
use Rattle.std.specs.Prelude.{◌≡◌, ℕ, List, [], ◌∷◌, ◌++◌, map}
use Rattle.std.specs.declared.cmp.Ordering.TheVariants.{Less}
use Rattle.std.specs.List.{AllByRecursion}
use Rattle.format.specs.Operations.{Op}
use Rattle.format.specs.Attestations.{Att}
use Rattle.format.specs.Nodes.{Claim, under}
use Rattle.claim_trees.specs.Tree.{here, Alike}
use Rattle.claim_trees.specs.Order.{op_order, claim_order}
use Rattle.claim_trees.specs.Bytes.{op_bytes, att_bytes, file_of}

-- a path that goes on through a later operation than o
abbrev pub Later : Op → List Op → Type 0
Later o [] = ⊥
Later o (p ∷ ps) = op_order o p ≡ Less

mutual
  -- the operations of a node, ascending, each once and over the claims that go on through it
  pub data Operations : List Claim → List ℕ → Type 0 where
    last_operation : (o : Op) {cs : List Claim} {bs : List ℕ} → Items cs bs → Operations (map (under o) cs) (op_bytes o ++ bs)
    operation : (o : Op) {cs ds : List Claim} {bs es : List ℕ}
        → Items cs bs → AllByRecursion (λ d. Later o d.path) ds → Operations ds es
        → Operations (map (under o) cs ++ ds) (0xff ∷ ((op_bytes o ++ bs) ++ es))

  -- a node: the attestations first, ascending, each once; then the operations
  pub data Items : List Claim → List ℕ → Type 0 where
    operations : {cs : List Claim} {bs : List ℕ} → Operations cs bs → Items cs bs
    last_attestation : (a : Att) → Items (here a ∷ []) (att_bytes a)
    attestation : (a : Att) {cs : List Claim} {bs : List ℕ}
        → AllByRecursion (λ c. claim_order (here a) c ≡ Less) cs → Items cs bs
        → Items (here a ∷ cs) (0xff ∷ (att_bytes a ++ bs))

-- bytes that say exactly these claims of the digest, in canonical form
pub record Canonical (digest : List ℕ) (cs : List Claim) (bytes : List ℕ) : Type 0 where
  pub listed : List Claim
  pub node : List ℕ
  pub members : Alike listed cs
  pub items : Items listed node
  pub is : bytes ≡ file_of digest node
