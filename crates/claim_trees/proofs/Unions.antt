-- The laws of union, and of the one tree of a set of claims.
use Rattle.std.proofs.Common.{◌≡◌, true, ◌&&◌, List, refl, inl, inr, ⊎_elim}
use Rattle.std.proofs.lemmas.Bool.{and_parts, and_from}
use Rattle.format.specs.Nodes.{Claim}
use Rattle.claim_trees.specs.Tree.{Held, blank, through, Alike}
use Rattle.claim_trees.specs.Order.{ascends, sorted}
use Rattle.claim_trees.specs.Union.{union}
use Rattle.claim_trees.specs.Lawful.{claim_fits, every}
use Rattle.claim_trees.specs.Gathered.{gathered, Holds}
use Rattle.claim_trees.specs.Laws.{claims_of, Lawful, UnionLaw, UniqueLaw}
use Rattle.claim_trees.proofs.Kept.{unite_ascends, unify_sorted}
use Rattle.claim_trees.proofs.Gathering.{union_in, same_tree, gathered_holds, holds_one}
use Rattle.claim_trees.proofs.Fitting.{every_in, every_all, proper}

-- the parts of a law
pub record Kept (x : Held) : Type 0 where
  pub marks : ascends x.marks ≡ true
  pub branches : sorted x.branches ≡ true
  pub fit : every claim_fits (claims_of x) ≡ true

pub kept : (x : Held) → Lawful x → Kept x
kept x h =
    let p = and_parts (ascends x.marks) (sorted x.branches && every claim_fits (claims_of x)) h in
    let q = and_parts (sorted x.branches) (every claim_fits (claims_of x)) p.1 in
    record { marks = p.0; branches = q.0; fit = q.1 }

pub lawful_from : (x : Held) → Kept x → Lawful x
lawful_from x k = and_from _ _ k.marks (and_from _ _ k.branches k.fit)

pub blank_lawful : Lawful blank
unfolding through
blank_lawful = refl

-- ---- union

pub union_kept : (x y : Held) → Lawful x → Lawful y → Lawful (union x y)
union_kept x y h k =
    let p = kept x h in let q = kept y k in
    lawful_from (union x y) (record {
      marks = unite_ascends x.marks y.marks p.marks q.marks;
      branches = unify_sorted x.branches y.branches p.branches q.branches;
      fit = every_all claim_fits (claims_of (union x y)) (λ c i.
          ⊎_elim (every_in claim_fits (claims_of x) p.fit c) (every_in claim_fits (claims_of y) q.fit c) ((union_in c x y).0 i));
    })

pub lawful_same : (x y : Held) → Lawful x → Lawful y → Alike (claims_of x) (claims_of y) → x ≡ y
lawful_same x y h k s = let p = kept x h in let q = kept y k in same_tree x y p.marks q.marks p.branches q.branches s

commutes : (x y : Held) → Lawful x → Lawful y → union x y ≡ union y x
commutes x y h k = lawful_same (union x y) (union y x) (union_kept x y h k) (union_kept y x k h) (λ c.
    let u = union_in c x y in let v = union_in c y x in
    ((λ i. v.1 (⊎_elim inr inl (u.0 i))), (λ i. u.1 (⊎_elim inr inl (v.0 i)))))

associates : (x y z : Held) → Lawful x → Lawful y → Lawful z → union (union x y) z ≡ union x (union y z)
associates x y z h k l = lawful_same (union (union x y) z) (union x (union y z))
    (union_kept (union x y) z (union_kept x y h k) l) (union_kept x (union y z) h (union_kept y z k l)) (λ c.
    let u = union_in c (union x y) z in let v = union_in c x y in
    let w = union_in c x (union y z) in let t = union_in c y z in (
      (λ i. w.1 (⊎_elim (λ j. ⊎_elim (λ e. inl e) (λ e. inr (t.1 (inl e))) (v.0 j)) (λ e. inr (t.1 (inr e))) (u.0 i))),
      (λ i. u.1 (⊎_elim (λ e. inl (v.1 (inl e))) (λ j. ⊎_elim (λ e. inl (v.1 (inr e))) (λ e. inr e) (t.0 j)) (w.0 i))),
    ))

idempotent : (x : Held) → Lawful x → union x x ≡ x
idempotent x h = lawful_same (union x x) x (union_kept x x h h) h (λ c.
    let u = union_in c x x in ((λ i. ⊎_elim (λ e. e) (λ e. e) (u.0 i)), (λ i. u.1 (inl i))))

pub union_law : UnionLaw
union_law = record { exact = union_in; kept = union_kept; commutes = commutes; associates = associates; idempotent = idempotent }

-- ---- one tree

pub held_lawful : (x : Held) (cs : List Claim) → Holds x cs → every claim_fits cs ≡ true → Lawful x
held_lawful x cs h f = lawful_from x (record {
  marks = h.marks;
  branches = h.branches;
  fit = every_all claim_fits (claims_of x) (λ c i. every_in claim_fits cs f c ((h.claims c).0 i));
})

pub gathered_lawful : (cs : List Claim) → every claim_fits cs ≡ true → Lawful (gathered cs)
gathered_lawful cs f = held_lawful (gathered cs) cs (gathered_holds cs) f

pub unique_law : UniqueLaw
unique_law = record {
  unique = lawful_same;
  gathers = gathered_holds;
  only = holds_one;
  lawfully = gathered_lawful;
  fits = λ file s n e. (proper file s n e).fitting;
  digests = λ file s n e. (proper file s n e).digest;
}
