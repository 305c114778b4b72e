-- Lists without repeats that have the same members have the same sums.
use Rattle.std.proofs.Common.{◌≡◌, ℕ, ◌+◌, ◌⊎◌, List, [], ◌∷◌, ◌++◌, map, length, sym, refl, ap, ◌∙◌, subst, inl, inr, ⊎_elim, arith}
use Rattle.claim_trees.specs.Tree.{In, Alike, Apart}
use Rattle.claim_trees.specs.Size.{Lists, total}
use Rattle.claim_trees.proofs.Listing.{in_either}
use Rattle.claim_trees.proofs.Gathering.{map_in}

-- ---- sums

pub total_append : {A : Type 0} (f : A → ℕ) (xs ys : List A) → total f (xs ++ ys) ≡ total f xs + total f ys
total_append f [] ys = omega arith
total_append f (x ∷ xs) ys = let h = total_append f xs ys in omega arith

pub total_one : {A : Type 0} (xs : List A) → total (λ _. 1) xs ≡ length xs
total_one [] = refl
total_one (x ∷ xs) = let h = total_one xs in omega arith

-- ---- one member taken out

module _ {A : Type 0} (x : A) where
  without : (ys : List A) → In x ys → List A
  without [] i = []
  without (y ∷ ys) (inl e) = ys
  without (y ∷ ys) (inr i) = y ∷ without ys i

  without_total : (f : A → ℕ) (ys : List A) (i : In x ys) → total f ys ≡ f x + total f (without ys i)
  unfolding without
  without_total f [] i = absurd i
  without_total f (y ∷ ys) (inl e) = ap (λ z. f z + total f ys) (sym e)
  without_total f (y ∷ ys) (inr i) = let h = without_total f ys i in omega arith

  without_in : (z : A) (ys : List A) (i : In x ys) → In z (without ys i) → In z ys
  unfolding without
  without_in z [] i j = absurd i
  without_in z (y ∷ ys) (inl e) j = inr j
  without_in z (y ∷ ys) (inr i) (inl d) = inl d
  without_in z (y ∷ ys) (inr i) (inr j) = inr (without_in z ys i j)

  in_without : (z : A) (ys : List A) (i : In x ys) → In z ys → (z ≡ x) ⊎ In z (without ys i)
  unfolding without
  in_without z [] i j = absurd i
  in_without z (y ∷ ys) (inl e) (inl d) = inl (d ∙ sym e)
  in_without z (y ∷ ys) (inl e) (inr j) = inr j
  in_without z (y ∷ ys) (inr i) (inl d) = inr (inl d)
  in_without z (y ∷ ys) (inr i) (inr j) = ⊎_elim (λ e. inl e) (λ k. inr (inr k)) (in_without z ys i j)

  without_apart : (ys : List A) (i : In x ys) → Apart ys → Apart (without ys i)
  unfolding without
  without_apart [] i a = absurd i
  without_apart (y ∷ ys) (inl e) a = a.1
  without_apart (y ∷ ys) (inr i) a = ((λ j. a.0 (without_in y ys i j)), without_apart ys i a.1)

  without_gone : (ys : List A) (i : In x ys) → Apart ys → In x (without ys i) → ⊥
  unfolding without
  without_gone [] i a j = absurd i
  without_gone (y ∷ ys) (inl e) a j = a.0 (subst (λ z. In z ys) e j)
  without_gone (y ∷ ys) (inr i) a (inl d) = a.0 (subst (λ z. In z ys) d i)
  without_gone (y ∷ ys) (inr i) a (inr j) = without_gone ys i a.1 j

pub same_total : {A : Type 0} (f : A → ℕ) (xs ys : List A) → Apart xs → Apart ys → Alike xs ys → total f xs ≡ total f ys
same_total f [] [] a b h = refl
same_total f [] (y ∷ ys) a b h = absurd ((h y).1 (inl refl))
same_total f (x ∷ xs) ys a b h =
    let i = (h x).0 (inl refl) in
    let r = same_total f xs (without x ys i) a.1 (without_apart x ys i b) (λ z. (
      (λ j. ⊎_elim (λ e. absurd (a.0 (subst (λ w. In w xs) e j))) (λ k. k) (in_without x z ys i ((h z).0 (inr j)))),
      (λ j. ⊎_elim (λ e. absurd (without_gone x ys i b (subst (λ w. In w (without x ys i)) e j))) (λ k. k) ((h z).1 (without_in x z ys i j))),
    )) in
    ap (λ n. f x + n) r ∙ sym (without_total x f ys i)

pub lists_total : {A : Type 0} {P Q : A → Type 0} (f : A → ℕ) (xs ys : List A) → Lists P xs → Lists Q ys → ((x : A) → P x → Q x) → ((x : A) → Q x → P x)
    → total f xs ≡ total f ys
lists_total f xs ys l m to from = same_total f xs ys l.apart m.apart (λ x. (
  (λ i. (m.members x).1 (to x ((l.members x).0 i))),
  (λ i. (l.members x).1 (from x ((m.members x).0 i))),
))

pub lists_length : {A : Type 0} {P Q : A → Type 0} (xs ys : List A) → Lists P xs → Lists Q ys → ((x : A) → P x → Q x) → ((x : A) → Q x → P x)
    → length xs ≡ length ys
lists_length xs ys l m to from = sym (total_one xs) ∙ (lists_total (λ _. 1) xs ys l m to from ∙ total_one ys)

-- ---- no repeats

pub apart_append : {A : Type 0} (xs ys : List A) → Apart xs → Apart ys → ((x : A) → In x xs → In x ys → ⊥) → Apart (xs ++ ys)
apart_append [] ys a b h = b
apart_append (x ∷ xs) ys a b h = (
  (λ i. ⊎_elim a.0 (h x (inl refl)) (in_either x xs ys i)),
  apart_append xs ys a.1 b (λ z i j. h z (inr i) j),
)

pub apart_map : {A B : Type 0} (f : A → B) → ((x y : A) → f x ≡ f y → x ≡ y) → (xs : List A) → Apart xs → Apart (map f xs)
apart_map f one [] a = tt
apart_map f one (x ∷ xs) a = (
  (λ i. let e = map_in f (f x) xs i in a.0 (subst (λ z. In z xs) (sym (one x e.0 e.1.1)) e.1.0)),
  apart_map f one xs a.1,
)
