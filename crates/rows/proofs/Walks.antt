-- A walk down a tree to a claim.
use Rattle.std.proofs.Common.{◌≡◌, ℕ, ◌+◌, ◌-◌, ◌<◌, ◌≤◌, true, ◌&&◌, List, length, take, Some, None, Option, sym, ap, ◌∙◌, subst, arith}
use Rattle.std.specs.List.{slice_get}
use Rattle.std.proofs.lemmas.Bool.{and_parts, leb-true}
use Rattle.format.specs.Operations.{Op}
use Rattle.format.specs.Attestations.{Att}
use Rattle.claim_trees.specs.Lawful.{result_of, att_fits, claim_fits, every, marks_fit, branches_fit}
use Rattle.claim_trees.specs.Order.{ascends, sorted}
use Rattle.claim_trees.specs.Size.{atts_in, attestation_limit}
use Rattle.claim_trees.specs.Tree.{Tree, end, more, through, claims, Held}
use Rattle.claim_trees.proofs.Spelling.{Fits, fits, node_fit}
use Rattle.replay.specs.Messages.{apply}
use Rattle.runs.specs.Invariants.{keeps_tree}
use Rattle.runs.proofs.Keeping.{tree_tested}
use Rattle.rows.specs.Places.{Found, shown}
use Rattle.rows.proofs.Places.{past_marks, shown_mark, entered, passed, nth_every}

-- what a tree that is kept brings to a walk
pub record Ready (digest : List ℕ) (x : Held) : Type 0 where
  pub digests : length digest ≡ 32
  pub marks : marks_fit x.marks ≡ true
  pub branches : branches_fit 0 32 x.branches ≡ true
  pub few : length x.marks + atts_in x.branches ≤ 128

pub walkable : (digest : List ℕ) (x : Held) → keeps_tree digest x ≡ true → Ready digest x
walkable digest x h =
    let k = tree_tested digest x h in
    let p = and_parts (ascends x.marks) (sorted x.branches && every claim_fits (claims x.marks x.branches)) k.lawful in
    let q = and_parts (sorted x.branches) (every claim_fits (claims x.marks x.branches)) p.1 in
    let f = node_fit 0 32 x.marks x.branches q.0 q.1 in
    let r = and_parts _ _ k.limits in
    let s = and_parts _ _ r.1 in
    record {
      digests = k.digests;
      marks = f.0;
      branches = f.1;
      few = leb-true (length x.marks + atts_in x.branches) attestation_limit s.0;
    }

-- the claim sought is the k-th of the branches t, under done operations that have made the first size bytes of w
pub record Walking (sought : Option Found) (w : List ℕ) (size k done : ℕ) (t : Tree) : Type 0 where
  pub small : size ≤ 4096
  pub fits : branches_fit done size t ≡ true
  pub few : atts_in t ≤ 128
  pub finds : shown done (take size w) (slice_get (through t) k) ≡ sought

module _ {sought : Option Found} {w : List ℕ} {size k done : ℕ} {t : Tree} {o : Op} {m : List Att} {b r : Tree} {n : ℕ}
    (h : Walking sought w size k done t) (e : t ≡ more o m b r) (is : n ≡ length m + atts_in b) where
  opened : Walking sought w size k done (more o m b r)
  opened = subst (λ z. Walking sought w size k done z) e h

  pub fitting : Fits done size o m b r
  fitting = fits done size o m b r opened.fits

  few_below : length m + (atts_in b + atts_in r) ≤ 128
  few_below = opened.few

  pub found_fits : (a : Att) → Some a ≡ slice_get m k → att_fits a ≡ true
  found_fits a at-k = nth_every att_fits m k a fitting.marks at-k

  pub found_small : {to : ℕ} → to ≡ result_of o size → to ≤ 4096
  found_small gr = subst (λ z. z ≤ 4096) (sym gr) fitting.result

  pub walk_on : n ≤ k → Walking sought w size (k - n) done r
  walk_on le = record {
    small = h.small;
    fits = fitting.rest;
    few = let f = few_below in omega arith;
    finds = ap (shown done (take size w)) (passed t o m b r k n e is le) ∙ h.finds;
  }

  module _ (v : List ℕ) {to : ℕ} (lt : k < n) (gr : to ≡ result_of o size) (af : take to v ≡ apply o (take size w)) where
    below : shown (done + 1) (take to v) (slice_get (claims m b) k) ≡ sought
    below = ap (λ z. shown (done + 1) z (slice_get (claims m b) k)) af ∙ entered t o m b r k n e is done (take size w) lt ∙ h.finds

    pub walk_down : {c : ℕ} → None ≡ slice_get m k → c ≡ length m → Walking sought v to (k - c) (done + 1) b
    walk_down {c} none ic = record {
      small = found_small gr;
      fits = subst (λ z. branches_fit (done + 1) z b ≡ true) (sym gr) fitting.below;
      few = let f = few_below in omega arith;
      finds = ap (shown (done + 1) (take to v)) (past_marks m b k c none ic) ∙ below;
    }

    pub walk_found : (a : Att) → Some a ≡ slice_get m k
        → ◌≡◌ {A = Option Found} (Some (record { attestation = a; operations = done + 1; message = take to v })) sought
    walk_found a at-k = shown_mark (done + 1) (take to v) m b k a at-k ∙ below

pub walk_ends : {sought : Option Found} {w : List ℕ} {size k done : ℕ} {t : Tree}
    → Walking sought w size k done t → t ≡ end → None ≡ sought
unfolding through
walk_ends {sought} {w} {size} {k} {done} {t} h e = sym (ap (λ z. shown done (take size w) (slice_get (through z) k)) e) ∙ h.finds
