-- Two sorted trees with the same claims are equal.
use Rattle.std.proofs.Common.{◌≡◌, true, ◌⊎◌, List, [], ◌∷◌, Ordering, sym, refl, ◌∙◌, subst, inl, inr, true≢false}
use Rattle.std.specs.Ordering.{is_lt}
use Rattle.std.proofs.lemmas.Bool.{and_parts}
use Rattle.format.specs.Operations.{Op}
use Rattle.format.specs.Attestations.{Att}
use Rattle.format.specs.FirstFault.{Iff}
use Rattle.claim_trees.specs.Tree.{Tree, end, more, In, Through, Claims, filled}
use Rattle.claim_trees.specs.Order.{ahead, rising, ascends, before, sorted, StrictTotal}
use Rattle.claim_trees.proofs.Orders.{ops, atts, less_trans, less_itself}
use Rattle.claim_trees.proofs.Kept.{Parts, parts}

-- ---- lists in an order
module _ {A : Type 0} {p : A → A → Ordering} (s : StrictTotal p) where
  abbrev Lt : A → A → Type 0
  Lt x y = is_lt (p x y) ≡ true

  -- the firsts of two sorted lists with the same members
  pub firsts : (x y : A) → (x ≡ y) ⊎ Lt y x → (y ≡ x) ⊎ Lt x y → x ≡ y
  firsts x y (inl e) k = e
  firsts x y (inr h) (inl e) = sym e
  firsts x y (inr h) (inr k) = absurd (less_itself s x (less_trans s x y x k h))

  -- what is in a sorted list comes after what is ahead of it
  pub after : (x : A) (xs : List A) → ahead p x xs ≡ true → rising p xs ≡ true → (a : A) → In a xs → Lt x a
  after x [] h r a k = absurd k
  after x (y ∷ ys) h r a (inl e) = subst (λ z. Lt x z) (sym e) h
  after x (y ∷ ys) h r a (inr k) =
      let q = and_parts (ahead p y ys) (rising p ys) r in
      less_trans s x y a h (after y ys q.0 q.1 a k)

  or_after : (x y : A) (ys : List A) → ahead p y ys ≡ true → rising p ys ≡ true → In x (y ∷ ys) → (x ≡ y) ⊎ Lt y x
  or_after x y ys h r (inl e) = inl e
  or_after x y ys h r (inr k) = inr (after y ys h r x k)

  in_tail : (a x y : A) (ys : List A) → x ≡ y → Lt x a → In a (y ∷ ys) → In a ys
  in_tail a x y ys e h (inl d) = absurd (less_itself s a (subst (λ z. Lt z a) (e ∙ sym d) h))
  in_tail a x y ys e h (inr k) = k

  -- sorted lists with the same members are equal
  pub list_unique : (xs ys : List A) → rising p xs ≡ true → rising p ys ≡ true → ((a : A) → Iff (In a xs) (In a ys)) → xs ≡ ys
  list_unique [] [] h k f = refl
  list_unique [] (y ∷ ys) h k f = absurd ((f y).1 (inl refl))
  list_unique (x ∷ xs) [] h k f = absurd ((f x).0 (inl refl))
  list_unique (x ∷ xs) (y ∷ ys) h k f =
      let u = and_parts (ahead p x xs) (rising p xs) h in
      let v = and_parts (ahead p y ys) (rising p ys) k in
      let e : x ≡ y = firsts x y (or_after x y ys v.0 v.1 ((f x).0 (inl refl))) (or_after y x xs u.0 u.1 ((f y).1 (inl refl))) in
      let rest : xs ≡ ys = list_unique xs ys u.1 v.1 (λ a. (
        (λ m. in_tail a x y ys e (after x xs u.0 u.1 a m) ((f a).0 (inr m))),
        (λ m. in_tail a y x xs (sym e) (after y ys v.0 v.1 a m) ((f a).1 (inr m))),
      )) in
      λ i. e i ∷ rest i

-- ---- branches
pub beyond : (o : Op) (t : Tree) → before o t ≡ true → sorted t ≡ true → (q : Op) (P : List Att → Tree → Type 0) → Through q P t → Lt ops o q
beyond o end h s q P k = absurd k
beyond o (more p n c r) h s q P (inl k) = subst (λ z. Lt ops o z) (sym k.0) h
beyond o (more p n c r) h s q P (inr k) =
    let v = parts p n c r s in
    less_trans ops o p q h (beyond p r v.first v.rest q P k)

or_beyond : (o p : Op) (n : List Att) (c s : Tree) (P : List Att → Tree → Type 0) → Parts p n c s → Through o P (more p n c s) → (o ≡ p) ⊎ Lt ops p o
or_beyond o p n c s P v (inl k) = inl k.0
or_beyond o p n c s P v (inr k) = inr (beyond p s v.first v.rest o P k)

-- a claim below each operation
pub witness : (m : List Att) (t : Tree) → filled m t ≡ true → sorted t ≡ true → (os : List Op) × (a : Att) × Claims os a m t
witness (a ∷ m) t h s = ([], a, inl refl)
witness [] end h s = absurd (true≢false (sym h))
witness [] (more o n b r) h s =
    let v = parts o n b r s in
    let w = witness n b v.some v.below in
    (o ∷ w.0, w.1, inl (refl, w.2))

-- through the first operation
through_first : (o p : Op) (n : List Att) (c s : Tree) (P : List Att → Tree → Type 0) → Parts p n c s → o ≡ p → Through o P (more p n c s) → P n c
through_first o p n c s P v e (inl k) = k.1
through_first o p n c s P v e (inr k) = absurd (less_itself ops p (subst (λ z. Lt ops p z) e (beyond p s v.first v.rest o P k)))

through_rest : (q o p : Op) (n : List Att) (c s : Tree) (P : List Att → Tree → Type 0) → o ≡ p → Lt ops o q → Through q P (more p n c s) → Through q P s
through_rest q o p n c s P e h (inl k) = absurd (less_itself ops q (subst (λ z. Lt ops z q) (e ∙ sym k.0) h))
through_rest q o p n c s P e h (inr k) = k

pub tree_unique : (t u : Tree) → sorted t ≡ true → sorted u ≡ true → ((o : Op) (os : List Op) (a : Att) → Iff (Through o (Claims os a) t) (Through o (Claims os a) u)) → t ≡ u
tree_unique end end h k s = refl
tree_unique end (more p n c r) h k s =
    let v = parts p n c r k in
    let w = witness n c v.some v.below in
    absurd ((s p w.0 w.1).1 (inl (refl, w.2)))
tree_unique (more o m b r) end h k s =
    let v = parts o m b r h in
    let w = witness m b v.some v.below in
    absurd ((s o w.0 w.1).0 (inl (refl, w.2)))
tree_unique (more o m b r) (more p n c q) h k s =
    let v = parts o m b r h in
    let w = parts p n c q k in
    let x = witness m b v.some v.below in
    let y = witness n c w.some w.below in
    let e : o ≡ p = firsts ops o p
    (or_beyond o p n c q (Claims x.0 x.1) w ((s o x.0 x.1).0 (inl (refl, x.2))))
    (or_beyond p o m b r (Claims y.0 y.1) v ((s p y.0 y.1).1 (inl (refl, y.2)))) in
    let same : (os : List Op) (a : Att) → Iff (Claims os a m b) (Claims os a n c) = λ os a. (
      (λ d. through_first o p n c q (Claims os a) w e ((s o os a).0 (inl (refl, d)))),
      (λ d. through_first p o m b r (Claims os a) v (sym e) ((s p os a).1 (inl (refl, d)))),
    ) in
    let marks : m ≡ n = list_unique atts m n v.marks w.marks (λ a. same [] a) in
    let below : b ≡ c = tree_unique b c v.below w.below (λ f os a. same (f ∷ os) a) in
    let rest : r ≡ q = tree_unique r q v.rest w.rest (λ f os a. (
      (λ d. through_rest f o p n c q (Claims os a) e (beyond o r v.first v.rest f (Claims os a) d) ((s f os a).0 (inr d))),
      (λ d. through_rest f p o m b r (Claims os a) (sym e) (beyond p q w.first w.rest f (Claims os a) d) ((s f os a).1 (inr d))),
    )) in
    λ i. more (e i) (marks i) (below i) (rest i)

pub unique : (m n : List Att) (t u : Tree) → ascends m ≡ true → ascends n ≡ true → sorted t ≡ true → sorted u ≡ true
    → ((os : List Op) (a : Att) → Iff (Claims os a m t) (Claims os a n u)) → (m ≡ n) × (t ≡ u)
unique m n t u h k p q s = (list_unique atts m n h k (λ a. s [] a), tree_unique t u p q (λ o os a. s (o ∷ os) a))
