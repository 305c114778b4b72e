-- Trees that hold claims, and the claims in them.
use Rattle.std.specs.Prelude.{◌≡◌, Bool, true, false, ◌⊎◌, List, [], ◌∷◌, ◌++◌, map}
use Rattle.format.specs.Operations.{Op}
use Rattle.format.specs.Attestations.{Att}
use Rattle.format.specs.Nodes.{Claim, claim, under}
use Rattle.format.specs.FirstFault.{Iff}

-- the branches of a node: an operation, the attestations and the branches of the node below it, and the branches that follow
pub data Tree : Type 0 where
  end : Tree
  more : Op → List Att → Tree → Tree → Tree

-- what a node holds: its attestations and its branches
pub record Held : Type 0 where
  pub marks : List Att
  pub branches : Tree

abbrev pub held : List Att → Tree → Held
held marks branches = record { marks = marks; branches = branches }

-- the node of no claim
abbrev pub blank : Held
blank = held [] end

-- a claim of the node itself
abbrev pub here : Att → Claim
here a = claim [] a

-- the claims through the branches, in written order
unfoldable pub through : Tree → List Claim
through end = []
through (more o marks below rest) = map (under o) (map here marks ++ through below) ++ through rest

-- the claims of a node in written order: its attestations, then what goes on through each branch
abbrev pub claims : List Att → Tree → List Claim
claims marks branches = map here marks ++ through branches

abbrev pub In : {A : Type 0} → A → List A → Type 0
In x [] = ⊥
In x (y ∷ ys) = (x ≡ y) ⊎ In x ys

-- lists with the same members
abbrev pub Alike : {A : Type 0} → List A → List A → Type 0
Alike {A} xs ys = (x : A) → Iff (In x xs) (In x ys)

-- no member twice
abbrev pub Apart : {A : Type 0} → List A → Type 0
Apart [] = Unit {0}
Apart (x ∷ xs) = (In x xs → ⊥) × Apart xs

-- some branch has the operation o, and P holds of the node below it
abbrev pub Through : Op → (List Att → Tree → Type 0) → Tree → Type 0
Through o P end = ⊥
Through o P (more p marks below rest) = ((o ≡ p) × P marks below) ⊎ Through o P rest

-- the node claims a through the operations
abbrev pub Claims : List Op → Att → List Att → Tree → Type 0
Claims [] a marks branches = In a marks
Claims (o ∷ os) a marks branches = Through o (Claims os a) branches

-- something stands in the node
abbrev pub filled : List Att → Tree → Bool
filled (a ∷ marks) branches = true
filled [] end = false
filled [] (more o marks below rest) = true

-- the claims in written order are exactly what the node claims
abbrev pub ClaimsAreListed : Type 0
ClaimsAreListed = (path : List Op) (a : Att) (marks : List Att) (branches : Tree)
    → Iff (In (claim path a) (claims marks branches)) (Claims path a marks branches)
