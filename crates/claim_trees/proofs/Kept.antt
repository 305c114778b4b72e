-- The union of two sorted trees is sorted.
use Rattle.std.proofs.Common.{◌≡◌, true, List, [], ◌∷◌, Ordering, Less, Equal, Greater, sym, refl, ap, subst, true≢false}
use Rattle.std.specs.Ordering.{is_lt}
use Rattle.std.proofs.lemmas.Bool.{and_parts, and_from}
use Rattle.format.specs.Operations.{Op}
use Rattle.format.specs.Attestations.{Att}
use Rattle.claim_trees.specs.Tree.{Tree, end, more, filled}
use Rattle.claim_trees.specs.Order.{op_order, att_order, ahead, ascends, before, sorted}
use Rattle.claim_trees.specs.Union.{choose, unite, unify}
use Rattle.claim_trees.proofs.Orders.{ops, atts, turned}

-- ---- attestations

ahead_by : (z x y : Att) (ps qs rs : List Att) (r : Ordering) → is_lt (att_order z x) ≡ true → is_lt (att_order z y) ≡ true → ahead att_order z (choose r (x ∷ ps) (x ∷ qs) (y ∷ rs)) ≡ true
ahead_by z x y ps qs rs Less h k = h
ahead_by z x y ps qs rs Equal h k = h
ahead_by z x y ps qs rs Greater h k = k

ahead_unite : (z : Att) (xs ys : List Att) → ahead att_order z xs ≡ true → ahead att_order z ys ≡ true → ahead att_order z (unite xs ys) ≡ true
ahead_unite z [] ys h k = k
ahead_unite z (x ∷ xs) [] h k = h
ahead_unite z (x ∷ xs) (y ∷ ys) h k = ahead_by z x y _ _ _ (att_order x y) h k

module _ (x : Att) (xs : List Att) (hx : ahead att_order x xs ≡ true) (h : (ys : List Att) → ascends ys ≡ true → ascends (unite xs ys) ≡ true) where
  place_by : (y : Att) (ys : List Att) (r : Ordering) → att_order x y ≡ r → ahead att_order y ys ≡ true → ascends ys ≡ true → ascends (unite (x ∷ xs) ys) ≡ true →
      ascends (choose r (x ∷ unite xs (y ∷ ys)) (x ∷ unite xs ys) (y ∷ unite (x ∷ xs) ys)) ≡ true
  place_by y ys Less e hy s ih = and_from _ _ (ahead_unite x xs (y ∷ ys) hx (ap is_lt e)) (h (y ∷ ys) (and_from _ _ hy s))
  place_by y ys Equal e hy s ih = and_from _ _ (ahead_unite x xs ys hx (subst (λ w. ahead att_order w ys ≡ true) (sym (atts.same x y e)) hy)) (h ys s)
  place_by y ys Greater e hy s ih = and_from _ _ (ahead_unite y (x ∷ xs) ys (turned atts x y e) hy) ih

  place_ascends : (ys : List Att) → ascends xs ≡ true → ascends ys ≡ true → ascends (unite (x ∷ xs) ys) ≡ true
  place_ascends [] s k = and_from _ _ hx s
  place_ascends (y ∷ ys) s k =
      let p = and_parts (ahead att_order y ys) (ascends ys) k in
      place_by y ys (att_order x y) refl p.0 p.1 (place_ascends ys s p.1)

pub unite_ascends : (xs ys : List Att) → ascends xs ≡ true → ascends ys ≡ true → ascends (unite xs ys) ≡ true
unite_ascends [] ys h k = k
unite_ascends (x ∷ xs) ys h k =
    let p = and_parts (ahead att_order x xs) (ascends xs) h in
    place_ascends x xs p.0 (λ zs. unite_ascends xs zs p.1) ys p.1 k

-- ---- something stands below

list_filled : (x : Att) (xs n : List Att) (t : Tree) → filled (unite (x ∷ xs) n) t ≡ true
list_filled x xs [] t = refl
list_filled x xs (y ∷ ys) t = by (att_order x y)
  where
    by : (r : Ordering) → filled (choose r (x ∷ unite xs (y ∷ ys)) (x ∷ unite xs ys) (y ∷ unite (x ∷ xs) ys)) t ≡ true
    by Less = refl
    by Equal = refl
    by Greater = refl

filled_more : (n : List Att) (r : Ordering) (o p : Op) (m m2 m3 : List Att) (b b2 b3 s s2 s3 : Tree) → filled n (choose r (more o m b s) (more o m2 b2 s2) (more p m3 b3 s3)) ≡ true
filled_more [] Less o p m m2 m3 b b2 b3 s s2 s3 = refl
filled_more [] Equal o p m m2 m3 b b2 b3 s s2 s3 = refl
filled_more [] Greater o p m m2 m3 b b2 b3 s s2 s3 = refl
filled_more (a ∷ n) r o p m m2 m3 b b2 b3 s s2 s3 = refl

filled_any : (n : List Att) (o : Op) (m : List Att) (b s : Tree) → filled n (more o m b s) ≡ true
filled_any [] o m b s = refl
filled_any (a ∷ n) o m b s = refl

filled_unite : (m n : List Att) (t u : Tree) → filled m t ≡ true → filled (unite m n) (unify t u) ≡ true
filled_unite (x ∷ xs) n t u h = list_filled x xs n (unify t u)
filled_unite [] n end u h = absurd (true≢false (sym h))
filled_unite [] n (more o m b r) end h = filled_any n o m b r
filled_unite [] n (more o m b r) (more p k c s) h = filled_more n (op_order o p) o p _ _ _ _ _ _ _ _ _

-- ---- branches

before_by : (z o p : Op) (m m2 m3 : List Att) (b b2 b3 s s2 s3 : Tree) (r : Ordering) → is_lt (op_order z o) ≡ true → is_lt (op_order z p) ≡ true → before z (choose r (more o m b s) (more o m2 b2 s2) (more p m3 b3 s3)) ≡ true
before_by z o p m m2 m3 b b2 b3 s s2 s3 Less h k = h
before_by z o p m m2 m3 b b2 b3 s s2 s3 Equal h k = h
before_by z o p m m2 m3 b b2 b3 s s2 s3 Greater h k = k

before_unify : (z : Op) (t u : Tree) → before z t ≡ true → before z u ≡ true → before z (unify t u) ≡ true
before_unify z end u h k = k
before_unify z (more o m b r) end h k = h
before_unify z (more o m b r) (more p n c s) h k = before_by z o p _ _ _ _ _ _ _ _ _ (op_order o p) h k

pub record Parts (o : Op) (m : List Att) (b r : Tree) : Type 0 where
  pub first : before o r ≡ true
  pub marks : ascends m ≡ true
  pub some : filled m b ≡ true
  pub below : sorted b ≡ true
  pub rest : sorted r ≡ true

pub parts : (o : Op) (m : List Att) (b r : Tree) → sorted (more o m b r) ≡ true → Parts o m b r
parts o m b r h =
    let p = and_parts (before o r) _ h in
    let q = and_parts (ascends m) _ p.1 in
    let s = and_parts (filled m b) _ q.1 in
    let t = and_parts (sorted b) (sorted r) s.1 in
    record { first = p.0; marks = q.0; some = s.0; below = t.0; rest = t.1 }

pub whole : (o : Op) (m : List Att) (b r : Tree) → Parts o m b r → sorted (more o m b r) ≡ true
whole o m b r p = and_from _ _ p.first (and_from _ _ p.marks (and_from _ _ p.some (and_from _ _ p.below p.rest)))

module _ (o : Op) (m : List Att) (b r : Tree) (w : Parts o m b r)
    (inner : (c : Tree) → sorted c ≡ true → sorted (unify b c) ≡ true) (after : (u : Tree) → sorted u ≡ true → sorted (unify r u) ≡ true) where
  graft_by : (p : Op) (n : List Att) (c s : Tree) (x : Ordering) → op_order o p ≡ x → Parts p n c s → sorted (unify (more o m b r) s) ≡ true →
      sorted (choose x (more o m b (unify r (more p n c s))) (more o (unite m n) (unify b c) (unify r s)) (more p n c (unify (more o m b r) s))) ≡ true
  graft_by p n c s Less e v ih = whole o m b (unify r (more p n c s)) (record {
    first = before_unify o r (more p n c s) w.first (ap is_lt e);
    marks = w.marks;
    some = w.some;
    below = w.below;
    rest = after (more p n c s) (whole p n c s v);
  })
  graft_by p n c s Equal e v ih = whole o (unite m n) (unify b c) (unify r s) (record {
    first = before_unify o r s w.first (subst (λ z. before z s ≡ true) (sym (ops.same o p e)) v.first);
    marks = unite_ascends m n w.marks v.marks;
    some = filled_unite m n b c w.some;
    below = inner c v.below;
    rest = after s v.rest;
  })
  graft_by p n c s Greater e v ih = whole p n c (unify (more o m b r) s) (record {
    first = before_unify p (more o m b r) s (turned ops o p e) v.first;
    marks = v.marks;
    some = v.some;
    below = v.below;
    rest = ih;
  })

  graft_sorted : (u : Tree) → sorted u ≡ true → sorted (unify (more o m b r) u) ≡ true
  graft_sorted end k = whole o m b r w
  graft_sorted (more p n c s) k =
      let v = parts p n c s k in
      graft_by p n c s (op_order o p) refl v (graft_sorted s v.rest)

pub unify_sorted : (t u : Tree) → sorted t ≡ true → sorted u ≡ true → sorted (unify t u) ≡ true
unify_sorted end u h k = k
unify_sorted (more o m b r) u h k =
    let w = parts o m b r h in
    graft_sorted o m b r w (λ c. unify_sorted b c w.below) (λ v. unify_sorted r v w.rest) u k
