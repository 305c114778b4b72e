-- A node by the nodes in it, without the bound on the nesting.
use Rattle.std.proofs.Common.{◌≡◌, ℕ, zero, suc, ◌+◌, ◌-◌, ◌≤◌, true, false, cond, ◌&&◌, eqb, ltb, List, ◌++◌, map, length, get_or, sym, refl, ap, ◌∙◌, subst, le_refl, arith}
use Rattle.std.proofs.lemmas.Bool.{cond-false, le-ltb, and_left}
use Rattle.format.specs.Outcome.{Outcome, got, fault, then}
use Rattle.format.specs.Numbers.{byte_at}
use Rattle.format.specs.Operations.{op_of, result_size}
use Rattle.format.specs.Items.{Piece, operation, attestation, item_at}
use Rattle.format.specs.Nodes.{under, more_at, Reading, below_by, branch_by, node_by, node_from, node_at}
use Rattle.format.proofs.Progress.{From, from_then, from_cond, from_weaker, item_from}

-- past the end
pub byte_past : (file : List ℕ) (at : ℕ) → length file ≤ at → byte_at file at ≡ fault 2 (length file)
byte_past file at h = cond-false _ _ _ (le-ltb at (length file) h)

pub item_past : (depth size : ℕ) (file : List ℕ) (at : ℕ) → length file ≤ at → item_at depth size file at ≡ fault 2 (length file)
item_past depth size file at h = rw (byte_past file at h)

pub more_past : (file : List ℕ) (at : ℕ) → length file ≤ at → more_at file at ≡ got false at
more_past file at h = cond-false _ _ _ (and_left (ltb at (length file)) _ (le-ltb at (length file) h))

pub node_past : (f : Reading) (depth size : ℕ) (file : List ℕ) (at : ℕ) → length file ≤ at → node_by f depth size file at ≡ fault 2 (length file)
node_past f depth size file at h = rw (more_past file at h, item_past depth size file at h)

-- offsets
pub more_from : (file : List ℕ) (at : ℕ) → From at (more_at file at)
more_from file at =
    from_cond at (ltb at (length file) && eqb (get_or file at 0) 0xff) (got true (at + 1)) (got false at) (let h : at ≤ at + 1 = omega arith in h) (le_refl at)

below_from : (f : Reading) (p : Piece) (depth size : ℕ) (file : List ℕ) (at : ℕ) → ((d s a : ℕ) → From a (f d s file a))
    → From at (below_by f p depth size file at)
below_from f (operation kind argument offset first) depth size file at q =
    from_then at at (f (depth + 1) (result_size kind size (length argument)) file at) _ (q _ _ at) (λ cs last h. h)
below_from f (attestation a payload offset first) depth size file at q = le_refl at

pub branch_from : (f : Reading) (depth size : ℕ) (file : List ℕ) (at : ℕ) → ((d s a : ℕ) → From a (f d s file a))
    → From (at + 1) (branch_by f depth size file at)
branch_from f depth size file at q =
    from_then (at + 1) (at + 1) (item_at depth size file at) _ (item_from depth size file at) (λ p end g.
    from_weaker end (at + 1) _ g (below_from f p depth size file end q))

node_by_from : (f : Reading) (depth size : ℕ) (file : List ℕ) (at : ℕ) → ((d s a : ℕ) → From a (f d s file a))
    → From (at + 1) (node_by f depth size file at)
node_by_from f depth size file at q =
    from_then at (at + 1) (more_at file at) _ (more_from file at) (λ more next h.
    from_then (next + 1) (at + 1) (branch_by f depth size file next) _ (branch_from f depth size file next q) (λ cs after k.
    from_cond (at + 1) more _ _
    (from_then after (at + 1) (f depth size file after) _ (q depth size after) (λ rest last l. let z : at + 1 ≤ last = omega arith in z))
    (let z : at + 1 ≤ after = omega arith in z)))

steps_from_lem : (k depth size : ℕ) (file : List ℕ) (at : ℕ) → From at (node_from k depth size file at)
unfolding node_from
steps_from_lem zero depth size file at = tt
steps_from_lem (suc k) depth size file at =
    from_weaker (at + 1) at _ (omega arith) (node_by_from (node_from k) depth size file at (λ d s a. steps_from_lem k d s file a))

-- equal readings of the nodes below, from here on, give equal nodes
pub then_cong : {A B : Type 0} (m : ℕ) (o : Outcome A) (f g : A → ℕ → Outcome B) → From m o
    → ((x : A) (n : ℕ) → m ≤ n → f x n ≡ g x n) → then o f ≡ then o g
then_cong m (got x n) f g p h = h x n p
then_cong m (fault c o) f g p h = refl

below_cong : (f g : Reading) (p : Piece) (depth size : ℕ) (file : List ℕ) (at : ℕ) → ((d s : ℕ) → f d s file at ≡ g d s file at)
    → below_by f p depth size file at ≡ below_by g p depth size file at
below_cong f g (operation kind argument offset first) depth size file at q =
    ap (λ z. then z (λ cs last. got (map (under (op_of kind argument)) cs) last)) (q (depth + 1) (result_size kind size (length argument)))
below_cong f g (attestation a payload offset first) depth size file at q = refl

node_cong : (f g : Reading) (depth size : ℕ) (file : List ℕ) (at : ℕ) → ((d s a : ℕ) → From a (f d s file a))
    → ((d s a : ℕ) → at + 1 ≤ a → f d s file a ≡ g d s file a)
    → node_by f depth size file at ≡ node_by g depth size file at
node_cong f g depth size file at q e =
    then_cong at (more_at file at) _ _ (more_from file at) (λ more next h.
    then_cong (next + 1) (branch_by f depth size file next) _ _ (branch_from f depth size file next q) (λ cs after v.
    ap (λ z. cond more (then z (λ rest last. got (cs ++ rest) last)) (got cs after)) (e depth size after (omega arith)))
    ∙ ap (λ z. then z (λ cs after. cond more (then (g depth size file after) (λ rest last. got (cs ++ rest) last)) (got cs after)))
    (then_cong (next + 1) (item_at depth size file next) _ _ (item_from depth size file next)
    (λ p end u. below_cong f g p depth size file end (λ d s. e d s end (omega arith)))))

-- a bound of at least the bytes left changes nothing
steps_same : (k j depth size : ℕ) (file : List ℕ) (at : ℕ) → length file - at ≤ k → length file - at ≤ j
    → node_from k depth size file at ≡ node_from j depth size file at
unfolding node_from
steps_same zero zero depth size file at h g = refl
steps_same zero (suc j) depth size file at h g = sym (node_past (node_from j) depth size file at (omega arith))
steps_same (suc k) zero depth size file at h g = node_past (node_from k) depth size file at (omega arith)
steps_same (suc k) (suc j) depth size file at h g =
    node_cong (node_from k) (node_from j) depth size file at (λ d s a. steps_from_lem k d s file a)
    (λ d s a l. steps_same k j d s file a (omega arith) (omega arith))

-- a node is read as its items are, with the nodes below read the same way
pub node_law : (depth size : ℕ) (file : List ℕ) (at : ℕ) → node_at depth size file at ≡ node_by node_at depth size file at
unfolding node_at node_from
node_law depth size file at =
    steps_same (length file - at) (suc (length file)) depth size file at (omega arith) (omega arith)
    ∙ node_cong (node_from (length file)) node_at depth size file at (λ d s a. steps_from_lem (length file) d s file a)
    (λ d s a l. steps_same (length file) (length file - a) d s file a (omega arith) (omega arith))

at_least : (depth size : ℕ) (file : List ℕ) (at : ℕ) → From at (node_at depth size file at)
unfolding node_at
at_least depth size file at = steps_from_lem (length file - at) depth size file at

-- a node takes a byte at least
pub node_from_lem : (depth size : ℕ) (file : List ℕ) (at : ℕ) → From (at + 1) (node_at depth size file at)
node_from_lem depth size file at = subst (λ o. From (at + 1) o) (sym (node_law depth size file at))
    (node_by_from node_at depth size file at (λ d s a. at_least d s file a))
