-- Arrays made by calls, and the chunks that a slice is read by.
use Rattle.std.proofs.Common.{◌≡◌, ℕ, zero, suc, ◌+◌, ◌*◌, ◌<◌, ◌≤◌, List, [], map, get_or, take, drop, ◌∙◌, ap, add-zero, mul-suc, subst, inl, inr, arith}
use Rattle.std.specs.Array.{IsFromFnResultFrom, IsFromFnResult}
use Rattle.std.specs.List.{range_with_len}
use Rattle.std.specs.Simd.{first_chunks}
use Rattle.std.specs.Int.{from_be_bytes, w32}
use Rattle.std.specs.Fn.{Called, Mut}
use Rattle.sha256.specs.Words.{word_at}
use Rattle.std.proofs.lemmas.Bool.{cases_lt}
use Rattle.std.proofs.lemmas.List.{drop-drop, get_or-take, get_or-drop}
use Rattle.std.proofs.lemmas.List.FromFn.{fill_by_all}

-- calls that change nothing, and that answer h, at the numbers from i on
module _ {F : Type 0} (g : Mut F (ℕ × Unit {0}) ℕ) (h : ℕ → ℕ) (f : F) (ys : List ℕ) (n : ℕ) (is : (i r : ℕ) (q : F) → i < n → Called g f (i, tt) r q → (r ≡ h i) × (q ≡ f)) where
  each_is : (i k : ℕ) → i + k ≡ n → IsFromFnResultFrom g f ys i k → (j : ℕ) → i ≤ j → j < n → get_or ys j 0 ≡ h j
  each_is i zero e c j low high = absurd (omega arith)
  each_is i (suc k) e (q, y, here, called, more) j low high =
      let now = is i y q (omega arith) called in
      elim (cases_lt i j) [
        | inl lt ↦ each_is (i + 1) k (omega arith) (subst (λ p. IsFromFnResultFrom g p ys (i + 1) k) now.1 more) j (omega arith) high
        | inr ge ↦ let same : i ≡ j = omega arith in subst (λ t. get_or ys t 0 ≡ h t) same (here.1 0 ∙ now.0)
      ]

  pub from_fn_is : IsFromFnResult g f ys n → ys ≡ map h (range_with_len 0 n)
  from_fn_is c = fill_by_all h ys n 0 c.long (λ j lt. each_is 0 n (omega arith) c.each j (omega arith) lt)

pub chunk_at : (n k i : ℕ) (xs : List ℕ) → i < k → get_or (first_chunks n k xs) i [] ≡ take n (drop (n * i) xs)
chunk_at n zero i xs h = absurd (omega arith)
chunk_at n (suc k) zero xs h = let none : 0 ≡ n * 0 = omega arith in ap (λ m. take n (drop m xs)) none
chunk_at n (suc k) (suc i) xs h =
    let sum : n + n * i ≡ n * suc i = omega (arith, mul-suc n i) in
    chunk_at n k i (drop n xs) (omega arith) ∙ ap (take n) (drop-drop (n * i) n xs) ∙ ap (λ m. take n (drop m xs)) sum

-- the word that four bytes make, where they stand
pub word_is : (xs : List ℕ) (i : ℕ) → from_be_bytes w32 (take 4 (drop i xs)) ≡ word_at xs i
word_is xs i =
    let at : (k : ℕ) → k < 4 → get_or (take 4 (drop i xs)) k 0 ≡ get_or xs (i + k) 0 = λ k h. get_or-take 4 (drop i xs) k 0 h ∙ get_or-drop i xs k 0 in
    let e : get_or (take 4 (drop i xs)) 0 0 ≡ get_or xs i 0 = at 0 (omega arith) ∙ ap (λ k. get_or xs k 0) (add-zero i) in
    omega (arith, e, at 1 (omega arith), at 2 (omega arith), at 3 (omega arith))
