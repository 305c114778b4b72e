-- A walk over a file: one item after another, each with its depth.
use Rattle.std.specs.Prelude.{◌≡◌, ℕ, zero, suc, ◌-◌, Bool, true, false, cond, List, [], ◌∷◌, ◌++◌, length, take, Some, None, Option, nat_le}
use Rattle.format.specs.declared.Level.{Level}
use Rattle.format.specs.Outcome.{Outcome, got, fault, then}
use Rattle.format.specs.Operations.{Op, op_of, result_size}
use Rattle.format.specs.Items.{Piece, operation, attestation, item_at}
use Rattle.format.specs.Nodes.{Claim, claim, more_at}
use Rattle.format.specs.Files.{Head, said, file_limit, head_at, end_at, file_at}

abbrev pub level : Bool → ℕ → Level
level more size = record { more = more; size = size }

-- where a walk stands: in a node under the levels above it, over a message of size bytes; or behind the top node
pub data Place : Type 0 where
  inside : List Level → ℕ → Place
  behind : Place

-- a node has ended: go up to the next one that goes on
abbrev pub risen : List Level → Place
risen [] = behind
risen (l ∷ ls) = cond l.more (inside ls l.size) (risen ls)

-- the place after an item
abbrev pub after : Bool → Piece → List Level → ℕ → Place
after more (operation kind argument offset first) levels size = inside (level more size ∷ levels) (result_size kind size (length argument))
after true (attestation a payload offset first) levels size = inside levels size
after false (attestation a payload offset first) levels size = risen levels

-- an item handed out, with its depth: the number of operations above it
pub record Step : Type 0 where
  pub depth : ℕ
  pub item : Piece

abbrev pub step : ℕ → Piece → Step
step depth item = record { depth = depth; item = item }

-- the item at a place, and the place after it
pub record Handed : Type 0 where
  pub step : Step
  pub place : Place

abbrev pub handed : Step → Place → Handed
handed s place = record { step = s; place = place }

-- the next item of the node under these levels
abbrev pub step_at : List Level → ℕ → List ℕ → ℕ → Outcome Handed
step_at levels size file at =
    then (more_at file at) (λ more next.
    then (item_at (length levels) size file next) (λ p end.
    got (handed (step (length levels) p) (after more p levels size)) end))

-- the next item at a place, if one is left
abbrev pub next_at : Place → List ℕ → ℕ → Outcome (Option Handed)
next_at (inside levels size) file at = then (step_at levels size file at) (λ h next. got (Some h) next)
next_at behind file at = end_at file None at

-- the items from a place to the end of the file. Each takes a byte at least, so with no byte left the file ends inside a node
unfoldable pub steps_from : Place → ℕ → List ℕ → ℕ → Outcome (List Step)
steps_from behind k file at = end_at file [] at
steps_from (inside levels size) zero file at = fault 2 (length file)
steps_from (inside levels size) (suc k) file at =
    then (step_at levels size file at) (λ h next.
    then (steps_from h.place k file next) (λ ss last.
    got (h.step ∷ ss) last))

unfoldable pub steps_at : Place → List ℕ → ℕ → Outcome (List Step)
steps_at place file at = steps_from place (length file - at) file at

-- the top of a walk
abbrev pub top : Place
top = inside [] 32

-- head and items of a file
pub record Walked : Type 0 where
  pub head : Head
  pub steps : List Step

abbrev pub walked : Head → List Step → Walked
walked h ss = record { head = h; steps = ss }

unfoldable pub walk_at : List ℕ → Outcome Walked
walk_at file = cond (nat_le (length file) file_limit) (then (head_at file) (λ h at. then (steps_at top file at) (λ ss last. got (walked h ss) last))) (fault 1 file_limit)

-- the operations above the items that follow one at this depth
abbrev pub path_after : List Op → ℕ → Piece → List Op
path_after path depth (operation kind argument offset first) = take depth path ++ (op_of kind argument ∷ [])
path_after path depth (attestation a payload offset first) = path

-- an attestation claims under as many operations as it is deep
abbrev pub claims_here : List Op → ℕ → Piece → List Claim
claims_here path depth (operation kind argument offset first) = []
claims_here path depth (attestation a payload offset first) = claim (take depth path) a ∷ []

-- the claims that items and their depths determine, where the operations on path came last
unfoldable pub claims_of : List Op → List Step → List Claim
claims_of path [] = []
claims_of path (s ∷ ss) = claims_here path s.depth s.item ++ claims_of (path_after path s.depth s.item) ss

-- the items handed out, with their depths, determine exactly what the file says, and a fault of the one is a fault of the other
abbrev pub ItemsDetermineClaims : Type 0
ItemsDetermineClaims = (file : List ℕ) → file_at file ≡ then (walk_at file) (λ w last. got (said w.head (claims_of [] w.steps)) last)
