-- The orders are strict and total.
use Rattle.std.proofs.Common.{◌≡◌, ℕ, ◌<◌, true, cond, eqb, List, [], ◌∷◌, Ordering, Less, Equal, Greater, sym, refl, ap, ◌∙◌, subst, true≢false}
use Rattle.std.specs.Cmp.{IsTotalOrder, nat_cmp_total, ranks, tied_itself, on_total, then_total}
use Rattle.std.specs.Ordering.{MatchOrdering, is_lt, is_gt, ordering_reverse, ordering_then, nat_cmp}
use Rattle.format.specs.Operations.{Op, sha256, append, prepend, reverse, hexlify}
use Rattle.format.specs.Attestations.{Att, pending, bitcoin, unknown}
use Rattle.format.specs.Nodes.{Claim, claim}
use Rattle.claim_trees.specs.Order.{op_tag, argument_of, tag_of, kind_of_att, height_of, bytes_of, byte_order, op_order, att_order, path_order, claim_order, StrictTotal}
use Rattle.std.specs.Cmp.Lexicographic.{slice_cmp, lists_total}

-- ---- orderings

pub is_less : (r : Ordering) → is_lt r ≡ true → r ≡ Less
is_less Less h = refl
is_less Equal h = absurd (true≢false (sym h))
is_less Greater h = absurd (true≢false (sym h))

both_equal : (r s : Ordering) → ordering_then r s ≡ Equal → (r ≡ Equal) × (s ≡ Equal)
both_equal Less s h = absurd (true≢false (ap is_lt h))
both_equal Equal s h = (refl, h)
both_equal Greater s h = absurd (true≢false (ap is_gt h))

-- ---- orders of the library

-- as a comparison of the library
pub totally : {A : Type 0} {p : A → A → Ordering} → StrictTotal p → IsTotalOrder p
totally {p = p} s = record { antisymm = s.flip; trans = s.trans; congr = λ x y z e. ap (λ w. p w z) (s.same x y e) }

-- one that tells everything apart
strict : {A : Type 0} {p : A → A → Ordering} → IsTotalOrder p → ((x y : A) → p x y ≡ Equal → x ≡ y) → StrictTotal p
strict o same = record { itself = tied_itself o; same = same; flip = o.antisymm; trans = o.trans }

-- ---- one order behind another

module _ {A : Type 0} {p : A → A → Ordering} (s : StrictTotal p) where
  -- by a key that tells everything
  pub keyed : {K : Type 0} (k : K → A) → ((x y : K) → k x ≡ k y → x ≡ y) → StrictTotal (λ x y. p (k x) (k y))
  keyed k one = strict (on_total k (totally s)) (λ x y h. one x y (s.same (k x) (k y) h))

  list_same : (xs ys : List A) → slice_cmp p xs ys ≡ Equal → xs ≡ ys
  list_same [] [] h = refl
  list_same [] (y ∷ ys) h = absurd (true≢false (ap is_lt h))
  list_same (x ∷ xs) [] h = absurd (true≢false (ap is_gt h))
  list_same (x ∷ xs) (y ∷ ys) h =
      let e = both_equal (p x y) (slice_cmp p xs ys) h in
      λ i. s.same x y e.0 i ∷ list_same xs ys e.1 i

  pub listed : StrictTotal (slice_cmp p)
  listed = strict (lists_total (totally s)) list_same

  pub paired : {B : Type 0} {q : B → B → Ordering} → StrictTotal q → StrictTotal {A = A × B} (λ x y. ordering_then (p x.0 y.0) (q x.1 y.1))
  paired {q = q} t = strict
      (then_total (on_total (λ x. x.0) (totally s)) (on_total (λ x. x.1) (totally t)))
      (λ x y h. let e = both_equal (p x.0 y.0) (q x.1 y.1) h in λ i. (s.same x.0 y.0 e.0 i, t.same x.1 y.1 e.1 i))

-- ---- numbers and bytes

number_same : (x y : ℕ) → nat_cmp x y ≡ Equal → x ≡ y
number_same x y e = subst (λ k. MatchOrdering k (x < y) (x ≡ y) (y < x)) e (ranks x y)

pub numbers : StrictTotal nat_cmp
numbers = strict nat_cmp_total number_same

pub bytes : StrictTotal byte_order
bytes = listed numbers

-- ---- operations

abbrev op_key : Op → ℕ × List ℕ
op_key o = (op_tag o, argument_of o)

abbrev op_from : ℕ × List ℕ → Op
op_from k = cond (eqb k.0 0xf0) (append k.1) (cond (eqb k.0 0xf1) (prepend k.1) (cond (eqb k.0 0xf2) reverse (cond (eqb k.0 0xf3) hexlify sha256)))

op_back : (o : Op) → op_from (op_key o) ≡ o
op_back sha256 = refl
op_back (append a) = refl
op_back (prepend a) = refl
op_back reverse = refl
op_back hexlify = refl

pub ops : StrictTotal op_order
ops = keyed (paired numbers bytes) op_key (λ o p e. sym (op_back o) ∙ (ap op_from e ∙ op_back p))

-- ---- attestations

abbrev AttKey : Type 0
AttKey = List ℕ × (ℕ × (ℕ × List ℕ))

abbrev att_key : Att → AttKey
att_key a = (tag_of a, (kind_of_att a, (height_of a, bytes_of a)))

abbrev att_from : AttKey → Att
att_from k = cond (eqb k.1.0 0) (bitcoin k.1.1.0) (cond (eqb k.1.0 1) (pending k.1.1.1) (unknown k.0 k.1.1.1))

att_back : (a : Att) → att_from (att_key a) ≡ a
att_back (pending a) = refl
att_back (bitcoin h) = refl
att_back (unknown t p) = refl

pub atts : StrictTotal att_order
atts = keyed (paired bytes (paired numbers (paired numbers bytes))) att_key (λ a b e. sym (att_back a) ∙ (ap att_from e ∙ att_back b))

pub atts_total : IsTotalOrder att_order
atts_total = totally atts

-- ---- claims

pub paths : StrictTotal path_order
paths = listed ops

abbrev claim_key : Claim → List Op × Att
claim_key c = (c.path, c.attestation)

pub claims_ordered : StrictTotal claim_order
claims_ordered = keyed (paired paths atts) claim_key (λ c d e. ap (λ (k : List Op × Att). claim k.0 k.1) e)

-- ---- less than, as a fact

module _ {A : Type 0} {p : A → A → Ordering} (s : StrictTotal p) where
  pub less_trans : (x y z : A) → is_lt (p x y) ≡ true → is_lt (p y z) ≡ true → is_lt (p x z) ≡ true
  less_trans x y z h k = ap is_lt (s.trans x y z (is_less _ h) (is_less _ k))

  pub less_itself : (x : A) → is_lt (p x x) ≡ true → ⊥
  less_itself x h = true≢false (sym h ∙ ap is_lt (s.itself x))

  pub turned : (x y : A) → p x y ≡ Greater → is_lt (p y x) ≡ true
  turned x y e = ap is_lt (s.flip y x ∙ ap ordering_reverse e)
