-- The window that moves over the schedule holds the schedule's words, sixteen at a time.
use Rattle.std.proofs.Common.{◌≡◌, ℕ, zero, suc, ◌+◌, ◌-◌, ◌≤◌, List, [], ◌∷◌, ◌++◌, map, length, get_or, drop, sym, refl, ap, ◌∙◌, subst, add-zero, add-suc, add-one, arith}
use Rattle.std.specs.List.{range_with_len}
use Rattle.std.proofs.lemmas.List.FromFn.{fill_by_all}
use Rattle.std.proofs.lemmas.List.{get_or-drop, drop-append-le, drop-drop, length-append, length-drop}
use Rattle.sha256.specs.Sha256.{scheduled, extended}
use Rattle.sha256.specs.Working.{moved, window}

pub window_none : (w : List ℕ) → w ≡ window w 0
unfolding window
window_none w = refl

pub window_more : (w : List ℕ) (n : ℕ) {v r : List ℕ} → v ≡ window w n → r ≡ moved v → r ≡ window w (suc n)
unfolding window
window_more w n e f = f ∙ ap moved e

-- sixteen words, written out
written : (w : List ℕ) → length w ≡ 16 → w ≡ map (λ i. get_or w i 0) (range_with_len 0 16)
written w h = fill_by_all (λ i. get_or w i 0) w 16 0 h (λ k lt. refl)

pub length_extended : (w : List ℕ) (n : ℕ) → length (extended w n) ≡ length w + n
unfolding extended
length_extended w zero = sym (add-zero (length w))
length_extended w (suc n) =
    simp length-append (let e = length_extended w n in omega arith)

-- a word of the schedule depends on the sixteen before it, and not on its place
scheduled_drop :
    (w : List ℕ) (m n : ℕ) → scheduled (drop m w) (16 + n) ≡ scheduled w (16 + (m + n))
scheduled_drop w m n =
    let a : m + (16 + n - 2) ≡ 16 + (m + n) - 2 = omega arith in
    let b : m + (16 + n - 7) ≡ 16 + (m + n) - 7 = omega arith in
    let c : m + (16 + n - 15) ≡ 16 + (m + n) - 15 = omega arith in
    let d : m + (16 + n - 16) ≡ 16 + (m + n) - 16 = omega arith in
    simp (get_or-drop, a, b, c, d)

-- so a schedule can be taken up again from any sixteen words of it
pub extended_from :
    (w : List ℕ) (m n : ℕ) → drop m (extended w (m + n)) ≡ extended (drop m (extended w m)) n
unfolding extended
extended_from w m zero = rw add-zero
extended_from w m (suc n) =
    let all = extended w (m + n) in
    let le : m ≤ length all = let e = length_extended w (m + n) in omega arith in
    rw add-suc
    (drop-append-le m all (scheduled all (16 + (m + n)) ∷ []) le
    ∙ ap (λ x. drop m all ++ x ∷ []) (sym (scheduled_drop all m n))
    ∙ ap (λ x. x ++ scheduled x (16 + n) ∷ []) (extended_from w m n))

-- moving by one word drops the first and takes the next of the schedule in
moved_is : (w : List ℕ) → length w ≡ 16 → moved w ≡ drop 1 (extended w 1)
unfolding moved extended
moved_is w h =
    let P : List ℕ → Type 0 = λ x. moved x ≡ drop 1 (extended x 1) in
    subst P (sym (written w h)) refl

length_last : (w : List ℕ) (n : ℕ) → length (drop n (extended w n)) ≡ length w
length_last w n = let e = length_extended w n in simp length-drop (omega arith)

-- the window moved on by n words is the last sixteen of n more words
pub window_is : (w : List ℕ) (n : ℕ) → length w ≡ 16 → window w n ≡ drop n (extended w n)
unfolding window extended
window_is w zero h = refl
window_is w (suc n) h =
    let v = drop n (extended w n) in
    let long : length v ≡ 16 = length_last w n ∙ h in
    ap moved (window_is w n h) ∙ moved_is v long ∙ ap (drop 1) (sym (extended_from w n 1))
    ∙ drop-drop 1 n (extended w (n + 1)) ∙ simp add-one

-- moved on and moved on again
pub window_add : (w : List ℕ) (m n : ℕ) → window (window w m) n ≡ window w (m + n)
unfolding window
window_add w m zero = rw add-zero
window_add w m (suc n) = rw add-suc (ap moved (window_add w m n))

pub length_window : (w : List ℕ) (n : ℕ) → length w ≡ 16 → length (window w n) ≡ 16
length_window w n h = ap length (window_is w n h) ∙ length_last w n ∙ h
