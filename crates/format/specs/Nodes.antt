-- A node: items with ff before each, then a last one without; and its claims.
use Rattle.std.specs.Prelude.{ℕ, zero, suc, ◌+◌, ◌-◌, Bool, true, false, cond, ◌&&◌, List, [], ◌∷◌, ◌++◌, map, length, ◌==◌, nat_lt, slice_index}
use Rattle.format.specs.Outcome.{Outcome, got, fault, then}
use Rattle.format.specs.Operations.{Op, op_of, result_size}
use Rattle.format.specs.Attestations.{Att}
use Rattle.format.specs.Items.{Piece, operation, attestation, item_at}

-- an attestation with the operations from the top down to it
pub record Claim : Type 0 where
  pub path : List Op
  pub attestation : Att

abbrev pub claim : List Op → Att → Claim
claim path a = record { path = path; attestation = a }

-- the claim, one operation further down
abbrev pub under : Op → Claim → Claim
under o c = claim (o ∷ c.path) c.attestation

-- whether another item follows the next one
abbrev pub more_at : List ℕ → ℕ → Outcome Bool
more_at file at = cond (nat_lt at (length file) && slice_index file at == 0xff) (got true (at + 1)) (got false at)

-- how the nodes below are read: under depth operations, over a message of size bytes
abbrev pub Reading : Type 0
Reading = ℕ → ℕ → List ℕ → ℕ → Outcome (List Claim)

-- the claims through an item that has been read
abbrev pub below_by : Reading → Piece → Reading
below_by f (operation kind argument offset first) depth size file at =
    then (f (depth + 1) (result_size kind size (length argument)) file at) (λ cs last. got (map (under (op_of kind argument)) cs) last)
below_by f (attestation a payload offset first) depth size file at = got (claim [] a ∷ []) at

-- an item, and the node below it where it is an operation
abbrev pub branch_by : Reading → Reading
branch_by f depth size file at = then (item_at depth size file at) (λ p end. below_by f p depth size file end)

-- one branch, and the others where there are more
abbrev pub node_by : Reading → Reading
node_by f depth size file at =
    then (more_at file at) (λ more next.
    then (branch_by f depth size file next) (λ cs after.
    cond more (then (f depth size file after) (λ rest last. got (cs ++ rest) last)) (got cs after)))

-- k bounds the nesting. Each branch takes a byte at least, so with no byte left the file ends inside the node
unfoldable pub node_from : ℕ → Reading
node_from zero depth size file at = fault 2 (length file)
node_from (suc k) depth size file at = node_by (node_from k) depth size file at

-- the claims of the node at an offset, in the order of the file
unfoldable pub node_at : Reading
node_at depth size file at = node_from (length file - at) depth size file at
