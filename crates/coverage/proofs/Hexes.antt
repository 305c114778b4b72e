-- Hexadecimal text, digit by digit and byte by byte.
use Rattle.std.proofs.Common.{◌≡◌, ℕ, zero, suc, ◌+◌, ◌-◌, ◌*◌, ◌<◌, ◌≤◌, Bool, true, false, cond, ◌&&◌, Some, None, List, [], ◌∷◌, ◌++◌, length, get_or, take, drop, set, sym, refl, ap, ◌∙◌, arith}
use Rattle.std.proofs.lemmas.List.{at_drop_more, at_drop_all, take_more, take_more_set, take_all}
use Rattle.coverage.specs.Reading.{hex_digit, hex_value, hex_digits, digit_read, unhex, byte_at}

pub digits_more : (text : List ℕ) (i : ℕ) → i < length text → hex_digits (drop i text) ≡ hex_digit (get_or text i 0) && hex_digits (drop (i + 1) text)
unfolding hex_digits
digits_more text i l = at_drop_more hex_digits text i 0 l

pub digits_all : (text : List ℕ) (i : ℕ) → length text ≤ i → hex_digits (drop i text) ≡ true
unfolding hex_digits
digits_all text i l = at_drop_all hex_digits text i l

-- a pair of digits
pub pair_more : (text : List ℕ) (k : ℕ) → 2 * k + 1 < length text
    → hex_digits (drop (2 * k) text)
    ≡ hex_digit (get_or text (2 * k) 0) && (hex_digit (get_or text (2 * k + 1) 0) && hex_digits (drop (2 * (k + 1)) text))
pair_more text k l =
    let e : 2 * k + 1 + 1 ≡ 2 * (k + 1) = omega arith in
    digits_more text (2 * k) (omega arith)
    ∙ ap (λ b. hex_digit (get_or text (2 * k) 0) && b) (digits_more text (2 * k + 1) l)
    ∙ ap (λ n. hex_digit (get_or text (2 * k) 0) && (hex_digit (get_or text (2 * k + 1) 0) && hex_digits (drop n text))) e

pub read_some : (c n : ℕ) → digit_read c ≡ Some n → (hex_digit c ≡ true) × (n ≡ hex_value c)
read_some c n e = by (hex_digit c) refl e
  where
    by : (t : Bool) → hex_digit c ≡ t → cond t (Some (hex_value c)) None ≡ Some n → (hex_digit c ≡ true) × (n ≡ hex_value c)
    by true f e = (f, cc)
    by false f e = absurd (cc)

pub read_none : (c : ℕ) → digit_read c ≡ None → hex_digit c ≡ false
read_none c e = by (hex_digit c) refl e
  where
    by : (t : Bool) → hex_digit c ≡ t → cond t (Some (hex_value c)) None ≡ None → hex_digit c ≡ false
    by true f e = absurd (cc)
    by false f e = f

pub unhex_length : (text : List ℕ) (n : ℕ) → length text ≡ 2 * n → length (unhex text) ≡ n
unfolding unhex
unhex_length [] n e = omega arith
unhex_length (c ∷ []) n e = omega arith
unhex_length (c ∷ d ∷ text) n e = let h : length (unhex text) ≡ n - 1 = unhex_length text (n - 1) (omega arith) in omega arith

pub unhex_at : (text : List ℕ) (k : ℕ) → 2 * k + 1 < length text → get_or (unhex text) k 0 ≡ byte_at text k
unfolding unhex
unhex_at [] k l = let z : ◌≡◌ {A = ℕ} 0 1 = omega arith in absurd (omega arith)
unhex_at (c ∷ []) k l = let z : ◌≡◌ {A = ℕ} 0 1 = omega arith in absurd (omega arith)
unhex_at (c ∷ d ∷ text) zero l = refl
unhex_at (c ∷ d ∷ text) (suc k) l =
    let high : 2 * suc k ≡ suc (suc (2 * k)) = omega arith in
    let low : 2 * suc k + 1 ≡ suc (suc (2 * k + 1)) = omega arith in
    unhex_at text k (omega arith)
    ∙ sym (ap (λ i. 16 * hex_value (get_or (c ∷ d ∷ text) i 0) + hex_value (get_or (c ∷ d ∷ text) (2 * suc k + 1) 0)) high
    ∙ ap (λ i. 16 * hex_value (get_or text (2 * k) 0) + hex_value (get_or (c ∷ d ∷ text) i 0)) low)

-- one more byte of them is in its place
pub fill_more : (out text : List ℕ) (k b : ℕ) → length text ≡ 2 * length out → k < length out → b ≡ byte_at text k
    → take k out ≡ take k (unhex text) → take (k + 1) (set out k b) ≡ take (k + 1) (unhex text)
fill_more out text k b e l v h =
    let n : length (unhex text) ≡ length out = unhex_length text (length out) e in
    take_more_set out k b l
    ∙ ap (λ t. t ++ (b ∷ [])) h
    ∙ ap (λ x. take k (unhex text) ++ (x ∷ [])) (v ∙ sym (unhex_at text k (omega arith)))
    ∙ sym (take_more (unhex text) k 0 (omega arith))

pub fill_all : (out text : List ℕ) (k : ℕ) → length text ≡ 2 * length out → length out ≤ k
    → take k out ≡ take k (unhex text) → out ≡ unhex text
fill_all out text k e l h =
    let n : length (unhex text) ≡ length out = unhex_length text (length out) e in
    sym (take_all k out l) ∙ h ∙ take_all k (unhex text) (omega arith)
