-- The size of a set of claims: its operations, attestations and bytes.
use Rattle.std.specs.Prelude.{◌≡◌, ℕ, ◌+◌, Bool, true, ◌&&◌, List, [], ◌∷◌, ◌++◌, length, nat_le}
use Rattle.format.specs.Operations.{Op}
use Rattle.format.specs.Attestations.{Att}
use Rattle.format.specs.Nodes.{Claim}
use Rattle.format.specs.FirstFault.{Iff}
use Rattle.claim_trees.specs.Tree.{Tree, end, more, claims, In, Alike, Apart}
use Rattle.claim_trees.specs.Order.{argument_of, op_order, att_order, ascends, sorted}
use Rattle.claim_trees.specs.Union.{choose, unite, unify}
use Rattle.claim_trees.specs.Bytes.{payload_of}
use Rattle.claim_trees.specs.Gathered.{gathered}

pub record Size : Type 0 where
  pub operations : ℕ
  pub attestations : ℕ
  pub bytes : ℕ

abbrev pub size : ℕ → ℕ → ℕ → Size
size operations attestations bytes = record { operations = operations; attestations = attestations; bytes = bytes }

-- what a dossier holds at most
abbrev pub operation_limit : ℕ
operation_limit = 1024

abbrev pub attestation_limit : ℕ
attestation_limit = 128

abbrev pub byte_limit : ℕ
byte_limit = 32768

abbrev pub within : Size → Bool
within s = nat_le s.operations operation_limit && (nat_le s.attestations attestation_limit && nat_le s.bytes byte_limit)

-- ---- the size of a set

-- a list of exactly what P says, each once
pub record Lists {A : Type 0} (P : A → Type 0) (xs : List A) : Type 0 where
  pub members : (x : A) → Iff (In x xs) (P x)
  pub apart : Apart xs

-- b is a beginning of the path of one of the claims, and not empty
abbrev pub Begins : List Op → List Claim → Type 0
Begins [] cs = ⊥
Begins (o ∷ os) cs = (c : Claim) × (rest : List Op) × In c cs × (c.path ≡ (o ∷ os) ++ rest)

abbrev pub total : {A : Type 0} → (A → ℕ) → List A → ℕ
total f [] = 0
total f (x ∷ xs) = f x + total f xs

-- how long the argument of the last operation is
abbrev pub last_argument : List Op → ℕ
last_argument [] = 0
last_argument (o ∷ []) = length (argument_of o)
last_argument (o ∷ (p ∷ ps)) = last_argument (p ∷ ps)

abbrev pub payload_bytes : Claim → ℕ
payload_bytes c = length (payload_of c.attestation)

-- the size of a set of claims, by lists of its beginnings and of its claims
pub record Sized (cs : List Claim) (s : Size) : Type 0 where
  pub beginnings : List (List Op)
  pub members : List Claim
  pub lists_beginnings : Lists (λ b. Begins b cs) beginnings
  pub lists_members : Lists (λ c. In c cs) members
  pub operations : s.operations ≡ length beginnings
  pub attestations : s.attestations ≡ length members
  pub bytes : s.bytes ≡ total last_argument beginnings + total payload_bytes members

-- ---- the size of a tree

-- how many bytes the payloads have in their shortest form
abbrev pub payloads : List Att → ℕ
payloads [] = 0
payloads (a ∷ marks) = length (payload_of a) + payloads marks

abbrev pub ops_in : Tree → ℕ
ops_in end = 0
ops_in (more o marks below rest) = 1 + (ops_in below + ops_in rest)

abbrev pub atts_in : Tree → ℕ
atts_in end = 0
atts_in (more o marks below rest) = length marks + (atts_in below + atts_in rest)

abbrev pub bytes_in : Tree → ℕ
bytes_in end = 0
bytes_in (more o marks below rest) = length (argument_of o) + (payloads marks + (bytes_in below + bytes_in rest))

abbrev pub size_of : List Att → Tree → Size
size_of marks branches = size (ops_in branches) (length marks + atts_in branches) (payloads marks + bytes_in branches)

-- ---- the size of a union, both walked together and nothing built

-- attestations, each with its weight
abbrev pub place_total : (Att → ℕ) → Att → List Att → (List Att → ℕ) → List Att → ℕ
place_total w x xs f [] = w x + total w xs
place_total w x xs f (y ∷ ys) = choose (att_order x y) (w x + f (y ∷ ys)) (w x + f ys) (w y + place_total w x xs f ys)

abbrev pub unite_total : (Att → ℕ) → List Att → List Att → ℕ
unite_total w [] ys = total w ys
unite_total w (x ∷ xs) ys = place_total w x xs (unite_total w xs) ys

abbrev pub marks_both : List Att → List Att → ℕ
marks_both m n = unite_total (λ _. 1) m n

abbrev pub payloads_both : List Att → List Att → ℕ
payloads_both m n = unite_total (λ a. length (payload_of a)) m n

-- branches: tree counts those that one has alone, one an operation with the attestations below it, both one that both have
abbrev pub graft_total : (Tree → ℕ) → (Op → List Att → ℕ) → (Op → List Att → List Att → ℕ)
    → Op → List Att → Tree → Tree → (Tree → ℕ) → (Tree → ℕ) → Tree → ℕ
graft_total tree one both o marks below rest f g end = tree (more o marks below rest)
graft_total tree one both o marks below rest f g (more p others low far) =
    choose (op_order o p)
    (one o marks + (tree below + g (more p others low far)))
    (both o marks others + (f low + g far))
    (one p others + (tree low + graft_total tree one both o marks below rest f g far))

abbrev pub unify_total : (Tree → ℕ) → (Op → List Att → ℕ) → (Op → List Att → List Att → ℕ) → Tree → Tree → ℕ
unify_total tree one both end t = tree t
unify_total tree one both (more o marks below rest) t =
    graft_total tree one both o marks below rest (unify_total tree one both below) (unify_total tree one both rest) t

abbrev pub ops_both : Tree → Tree → ℕ
ops_both t u = unify_total ops_in (λ _ _. 1) (λ _ _ _. 1) t u

abbrev pub atts_both : Tree → Tree → ℕ
atts_both t u = unify_total atts_in (λ _ m. length m) (λ _ m n. marks_both m n) t u

abbrev pub bytes_both : Tree → Tree → ℕ
bytes_both t u =
    unify_total bytes_in (λ o m. length (argument_of o) + payloads m) (λ o m n. length (argument_of o) + payloads_both m n) t u

abbrev pub size_of_both : List Att → Tree → List Att → Tree → Size
size_of_both m t n u = size (ops_both t u) (marks_both m n + atts_both t u) (payloads_both m n + bytes_both t u)

-- ---- laws

pub record SizeLaw : Type 0 where
  -- a set of claims has one size
  pub one : (cs ds : List Claim) (s t : Size) → Alike cs ds → Sized cs s → Sized ds t → s ≡ t
  -- the size of a sorted tree is that of its claims
  pub tree : (marks : List Att) (branches : Tree) → ascends marks ≡ true → sorted branches ≡ true
      → Sized (claims marks branches) (size_of marks branches)
  pub gathers : (cs : List Claim) → Sized cs (size_of (gathered cs).marks (gathered cs).branches)
  -- two sorted trees walked together give the size of both sets of claims
  pub both : (m n : List Att) (t u : Tree) → ascends m ≡ true → sorted t ≡ true → ascends n ≡ true → sorted u ≡ true
      → Sized (claims m t ++ claims n u) (size_of_both m t n u)
  -- which is that of their union
  pub union : (m n : List Att) (t u : Tree) → size_of_both m t n u ≡ size_of (unite m n) (unify t u)
