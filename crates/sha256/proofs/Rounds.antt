-- Rounds in runs of sixteen, each over its own row of constants and its own window.
use Rattle.std.proofs.Common.{◌≡◌, ℕ, zero, suc, ◌+◌, ◌-◌, ◌*◌, ◌<◌, ◌≤◌, List, [], ◌∷◌, ◌++◌, length, get_or, take, drop, sym, refl, ap, ◌∙◌, add-zero, add-suc, arith}
use Rattle.std.proofs.lemmas.List.{get_or-drop, get_or-take, get_or_append_left}
use Rattle.sha256.specs.Sha256.{K, scheduled, extended, round, rounds}
use Rattle.sha256.specs.Working.{window}
use Rattle.sha256.proofs.Windows.{window_is, extended_from, length_extended, length_window}

pub rounds_none : (v k w : List ℕ) → v ≡ rounds v k w 0
unfolding rounds
rounds_none v k w = refl

pub rounds_more :
    (v k w : List ℕ) (n : ℕ) {x r : List ℕ}
    → x ≡ rounds v k w n → r ≡ round x (get_or k n 0) (get_or w n 0) → r ≡ rounds v k w (suc n)
unfolding rounds
rounds_more v k w n e f = f ∙ ap (λ x. round x (get_or k n 0) (get_or w n 0)) e

-- some rounds, then more
pub rounds_from :
    (v k w : List ℕ) (m n : ℕ) → rounds v k w (m + n) ≡ rounds (rounds v k w m) (drop m k) (drop m w) n
unfolding rounds
rounds_from v k w m zero = rw add-zero
rounds_from v k w m (suc n) = rw add-suc (simp get_or-drop (ap (λ x. round x (get_or k (m + n) 0) (get_or w (m + n) 0)) (rounds_from v k w m n)))

-- a word that the rounds do not reach does not matter
rounds_push : (v k w : List ℕ) (x n : ℕ) → n ≤ length w → rounds v k (w ++ x ∷ []) n ≡ rounds v k w n
unfolding rounds
rounds_push v k w x zero h = refl
rounds_push v k w x (suc n) h =
    let lt : n < length w = omega arith in
    let le : n ≤ length w = omega arith in
    rw (rounds_push v k w x n le, get_or_append_left w (x ∷ []) 0 n lt)

pub rounds_extended : (v k w : List ℕ) (m n : ℕ) → n ≤ length w → rounds v k (extended w m) n ≡ rounds v k w n
unfolding extended
rounds_extended v k w zero n h = refl
rounds_extended v k w (suc m) n h =
    let le : n ≤ length (extended w m) = let e = length_extended w m in omega arith in
    rounds_push v k (extended w m) (scheduled (extended w m) (16 + m)) n le ∙ rounds_extended v k w m n h

-- nor does a constant
rounds_take : (v k w : List ℕ) (m n : ℕ) → n ≤ m → rounds v (take m k) w n ≡ rounds v k w n
unfolding rounds
rounds_take v k w m zero h = refl
rounds_take v k w m (suc n) h =
    let lt : n < m = omega arith in
    let le : n ≤ m = omega arith in
    rw (rounds_take v k w m n le, get_or-take m k n 0 lt)

-- the constants in rows of sixteen
pub row_at : (i : ℕ) (d : List ℕ) → i < 4 → get_or (take 16 K ∷ take 16 (drop 16 K) ∷ take 16 (drop 32 K) ∷ take 16 (drop 48 K) ∷ []) i d ≡ take 16 (drop (16 * i) K)
row_at zero d h = refl
row_at (suc zero) d h = refl
row_at (suc (suc zero)) d h = refl
row_at (suc (suc (suc zero))) d h = refl
row_at (suc (suc (suc (suc i)))) d h = absurd (omega arith)

-- sixteen rounds more, from some round on, take the window that begins with that round's word
pub rounds_window :
    (v w : List ℕ) (t : ℕ) {x r : List ℕ} → length w ≡ 16 → t ≤ 48
    → x ≡ rounds v K (extended w 48) t → r ≡ rounds x (take 16 (drop t K)) (window w t) 16
    → r ≡ rounds v K (extended w 48) (t + 16)
rounds_window v w t {x} {r} long le e f =
    let all = extended w 48 in
    let k = drop t K in
    let sum : t + (48 - t) ≡ 48 = omega arith in
    let words : drop t all ≡ extended (window w t) (48 - t) =
    ap (λ n. drop t (extended w n)) (sym sum) ∙ extended_from w t (48 - t)
    ∙ ap (λ y. extended y (48 - t)) (sym (window_is w t long)) in
    let room : 16 ≤ length (window w t) = let h = length_window w t long in omega arith in
    f ∙ rounds_take x k (window w t) 16 16 (omega arith) ∙ sym (rounds_extended x k (window w t) (48 - t) 16 room)
    ∙ ap (λ y. rounds x k y 16) (sym words) ∙ ap (λ y. rounds y k (drop t all) 16) e ∙ sym (rounds_from v K all t 16)
