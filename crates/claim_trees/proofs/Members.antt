-- A claim is in the union exactly where it is in one of the two.
use Rattle.std.proofs.Common.{◌≡◌, ◌⊎◌, List, [], ◌∷◌, Ordering, Less, Equal, Greater, sym, refl, ◌∙◌, inl, inr, arith}
use Rattle.format.specs.Operations.{Op}
use Rattle.format.specs.Attestations.{Att}
use Rattle.format.specs.FirstFault.{Iff}
use Rattle.claim_trees.specs.Tree.{Tree, end, more, In, Through, Claims}
use Rattle.claim_trees.specs.Order.{op_order, att_order}
use Rattle.claim_trees.specs.Union.{choose, place, unite, graft, unify}
use Rattle.claim_trees.proofs.Orders.{ops, atts}

-- X or A, and Y or B
swapped : {X A B F : Type 0} → Iff F (A ⊎ B) → Iff (X ⊎ F) ((X ⊎ A) ⊎ B)
swapped h = grind arith

other : {X A Y B F : Type 0} → Iff F ((X ⊎ A) ⊎ B) → Iff (Y ⊎ F) ((X ⊎ A) ⊎ (Y ⊎ B))
other h = grind arith

both : {X A Y B F : Type 0} → (Y → X) → Iff F (A ⊎ B) → Iff (X ⊎ F) ((X ⊎ A) ⊎ (Y ⊎ B))
both e h = grind arith

module _ (a x : Att) (xs : List Att) (f : List Att → List Att) (h : (zs : List Att) → Iff (In a (f zs)) (In a xs ⊎ In a zs)) where
  place_by : (y : Att) (ys : List Att) (r : Ordering) → att_order x y ≡ r → Iff (In a (place x xs f ys)) (In a (x ∷ xs) ⊎ In a ys) →
      Iff (In a (choose r (x ∷ f (y ∷ ys)) (x ∷ f ys) (y ∷ place x xs f ys))) (In a (x ∷ xs) ⊎ In a (y ∷ ys))
  place_by y ys Less e ih = swapped (h (y ∷ ys))
  place_by y ys Equal e ih = both (λ p. p ∙ sym (atts.same x y e)) (h ys)
  place_by y ys Greater e ih = other ih

  place_in : (ys : List Att) → Iff (In a (place x xs f ys)) (In a (x ∷ xs) ⊎ In a ys)
  place_in [] = (inl, λ s. elim s [ inl p ↦ p | inr q ↦ absurd q ])
  place_in (y ∷ ys) = place_by y ys (att_order x y) refl (place_in ys)

pub unite_in : (a : Att) (xs ys : List Att) → Iff (In a (unite xs ys)) (In a xs ⊎ In a ys)
unite_in a [] ys = (inr, λ s. elim s [ inl p ↦ absurd p | inr q ↦ q ])
unite_in a (x ∷ xs) ys = place_in a x xs (unite xs) (unite_in a xs) ys

-- ---- the branches

-- P says something of a node that the union keeps
module _ (o : Op) (P : List Att → Tree → Type 0) where
  abbrev Keeps : List Att → Tree → (Tree → Tree) → Type 0
  Keeps m b f = (n : List Att) (c : Tree) → Iff (P (unite m n) (f c)) (P m b ⊎ P n c)

  module _ (p : Op) (m : List Att) (b r : Tree) (f g : Tree → Tree) (k : Keeps m b f) (h : (t : Tree) → Iff (Through o P (g t)) (Through o P r ⊎ Through o P t)) where
    graft_by : (q : Op) (n : List Att) (c s : Tree) (x : Ordering) → op_order p q ≡ x → Iff (Through o P (graft p m b r f g s)) (Through o P (more p m b r) ⊎ Through o P s) →
        Iff (Through o P (choose x (more p m b (g (more q n c s))) (more p (unite m n) (f c) (g s)) (more q n c (graft p m b r f g s)))) (Through o P (more p m b r) ⊎ Through o P (more q n c s))
    graft_by q n c s Less e ih = swapped (h (more q n c s))
    graft_by q n c s Equal e ih =
        let same = ops.same p q e in
        let inner = k n c in
        let rest = h s in
        let there : o ≡ q → o ≡ p = λ d. d ∙ sym same in
        let here : o ≡ p → o ≡ q = λ d. d ∙ same in
        grind arith
    graft_by q n c s Greater e ih = other ih

    graft_through : (t : Tree) → Iff (Through o P (graft p m b r f g t)) (Through o P (more p m b r) ⊎ Through o P t)
    graft_through end = (inl, λ s. elim s [ inl d ↦ d | inr d ↦ absurd d ])
    graft_through (more q n c s) = graft_by q n c s (op_order p q) refl (graft_through s)

  pub unify_through : ((m : List Att) (b : Tree) → Keeps m b (unify b)) → (t u : Tree) → Iff (Through o P (unify t u)) (Through o P t ⊎ Through o P u)
  unify_through k end u = (inr, λ s. elim s [ inl d ↦ absurd d | inr d ↦ d ])
  unify_through k (more p m b r) u = graft_through p m b r (unify b) (unify r) (k m b) (unify_through k r) u

-- the theorem
pub union_claims : (os : List Op) (a : Att) (m : List Att) (t : Tree) (n : List Att) (u : Tree) → Iff (Claims os a (unite m n) (unify t u)) (Claims os a m t ⊎ Claims os a n u)
union_claims [] a m t n u = unite_in a m n
union_claims (o ∷ os) a m t n u = unify_through o (Claims os a) (λ m b n c. union_claims os a m b n c) t u
