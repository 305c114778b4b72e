-- Reading hexadecimal text is the inverse of writing it.
use Rattle.std.proofs.Common.{◌≡◌, ℕ, ◌+◌, ◌-◌, ◌*◌, ◌/◌, ◌%◌, ◌^◌, ◌<◌, true, ◌&&◌, eqb, List, [], ◌∷◌, length, Some, None, refl, ap, ◌∙◌, subst, arith}
use Rattle.std.specs.Char.{digit_char}
use Rattle.std.specs.List.{AllByRecursion}
use Rattle.std.proofs.lemmas.Bool.{and_parts, and_from, eqb-true, eq-eqb, cond_both, both_ways}
use Rattle.std.proofs.lemmas.Bool.Decides.{nat_tests}
use Rattle.account.specs.Words.{hex_of}
use Rattle.coverage.specs.Reading.{hex_digit, hex_value, hex_digits, unhex, written, big}
use Rattle.coverage.specs.Inverse.{HexOr, UnhexInvertsHex, four, BitsOr, BitsInvertHex}
use Rattle.coverage.proofs.Hexes.{unhex_length}

value_below : (c : ℕ) → hex_value c < 16
value_below c = grind (arith, nat_tests)

char_of_value : (c : ℕ) → hex_digit c ≡ true → digit_char (hex_value c) ≡ c
char_of_value c h = grind (arith, nat_tests)

digit_of_char : (d : ℕ) → d < 16 → hex_digit (digit_char d) ≡ true
digit_of_char d l = grind (arith, nat_tests)

-- the digits of a byte that two digits made
pair_high : (v w : ℕ) → w < 16 → (16 * v + w) / 16 ≡ v
pair_high v w l = omega arith

pair_low : (v w : ℕ) → w < 16 → (16 * v + w) % 16 ≡ w
pair_low v w l = omega arith

pub hex_of_unhex : (text : List ℕ) (n : ℕ) → length text ≡ 2 * n → hex_digits text ≡ true → hex_of (unhex text) ≡ text
unfolding hex_digits unhex hex_of
hex_of_unhex [] n e h = refl
hex_of_unhex (c ∷ []) n e h = absurd (omega arith)
hex_of_unhex (c ∷ d ∷ text) n e h =
    let p = and_parts (hex_digit c) (hex_digit d && hex_digits text) h in
    let q = and_parts (hex_digit d) (hex_digits text) p.1 in
    let v = hex_value c in
    let w = hex_value d in
    ap (λ x. digit_char x ∷ digit_char ((16 * v + w) % 16) ∷ hex_of (unhex text)) (pair_high v w (value_below d))
    ∙ ap (λ x. digit_char v ∷ digit_char x ∷ hex_of (unhex text)) (pair_low v w (value_below d))
    ∙ ap (λ x. x ∷ digit_char w ∷ hex_of (unhex text)) (char_of_value c p.0)
    ∙ ap (λ x. c ∷ x ∷ hex_of (unhex text)) (char_of_value d q.0)
    ∙ ap (λ t. c ∷ d ∷ t) (hex_of_unhex text (n - 1) (omega arith) q.1)

pub unhex_bytes : (text : List ℕ) → AllByRecursion (λ b. b < 256) (unhex text)
unfolding unhex
unhex_bytes [] = tt
unhex_bytes (c ∷ []) = tt
unhex_bytes (c ∷ d ∷ text) =
    let v = value_below c in
    let w = value_below d in
    (omega arith, unhex_bytes text)

pub hex_length : (bs : List ℕ) → length (hex_of bs) ≡ 2 * length bs
unfolding hex_of
hex_length [] = refl
hex_length (b ∷ bs) = let h : length (hex_of bs) ≡ 2 * length bs = hex_length bs in omega arith

pub hex_digits_lem : (bs : List ℕ) → AllByRecursion (λ b. b < 256) bs → hex_digits (hex_of bs) ≡ true
unfolding hex_digits hex_of
hex_digits_lem [] a = refl
hex_digits_lem (b ∷ bs) a =
    let l = a.0 in
    and_from (hex_digit (digit_char (b / 16))) (hex_digit (digit_char (b % 16)) && hex_digits (hex_of bs)) (digit_of_char (b / 16) (omega arith))
    (and_from (hex_digit (digit_char (b % 16))) (hex_digits (hex_of bs)) (digit_of_char (b % 16) (omega arith)) (hex_digits_lem bs a.1))

-- bytes are written in digits, two for each
pub hex_written : (bs text : List ℕ) → AllByRecursion (λ b. b < 256) bs → hex_of bs ≡ text → written (2 * length bs) text ≡ true
hex_written bs text a e =
    subst (λ t. written (2 * length bs) t ≡ true) e
    (and_from (eqb (length (hex_of bs)) (2 * length bs)) (hex_digits (hex_of bs)) (eq-eqb _ _ (hex_length bs)) (hex_digits_lem bs a))

pub unhex_inverts_hex : UnhexInvertsHex
unhex_inverts_hex text =
    cond_both (written 64 text) (Some (unhex text)) None (HexOr 32 text)
    (λ h. let p = and_parts (eqb (length text) 64) (hex_digits text) h in
    let l : length text ≡ 2 * 32 = eqb-true (length text) 64 p.0 in
    record { long = unhex_length text 32 l; bytes = unhex_bytes text; reads = hex_of_unhex text 32 l p.1 })
    (λ h bs x. both_ways (written 64 text) h
    (subst (λ n. written (2 * n) text ≡ true) x.long (hex_written bs text x.bytes x.reads)))

-- four bytes and their number
four_of : (a b c d : ℕ) → a < 256 → b < 256 → c < 256 → d < 256
    → (a * 2 ^ 24 + b * 2 ^ 16 + c * 2 ^ 8 + d < 2 ^ 32) × (four (a * 2 ^ 24 + b * 2 ^ 16 + c * 2 ^ 8 + d) ≡ a ∷ b ∷ c ∷ d ∷ [])
four_of a b c d la lb lc ld =
    let n = a * 2 ^ 24 + b * 2 ^ 16 + c * 2 ^ 8 + d in
    let ea : n / 2 ^ 24 ≡ a = omega arith in
    let eb : n / 2 ^ 16 % 256 ≡ b = omega arith in
    let ec : n / 2 ^ 8 % 256 ≡ c = omega arith in
    let ed : n % 256 ≡ d = omega arith in (
      omega arith,
      ap (λ x. x ∷ n / 2 ^ 16 % 256 ∷ n / 2 ^ 8 % 256 ∷ n % 256 ∷ []) ea
          ∙ ap (λ x. a ∷ x ∷ n / 2 ^ 8 % 256 ∷ n % 256 ∷ []) eb
          ∙ ap (λ x. a ∷ b ∷ x ∷ n % 256 ∷ []) ec
          ∙ ap (λ x. a ∷ b ∷ c ∷ x ∷ []) ed,
    )

four_of_big : (bs : List ℕ) → length bs ≡ 4 → AllByRecursion (λ b. b < 256) bs → (big bs < 2 ^ 32) × (four (big bs) ≡ bs)
four_of_big [] e p = absurd (omega arith)
four_of_big (a ∷ []) e p = absurd (omega arith)
four_of_big (a ∷ b ∷ []) e p = absurd (omega arith)
four_of_big (a ∷ b ∷ c ∷ []) e p = absurd (omega arith)
four_of_big (a ∷ b ∷ c ∷ d ∷ []) e p = four_of a b c d p.0 p.1.0 p.1.1.0 p.1.1.1.0
four_of_big (a ∷ b ∷ c ∷ d ∷ x ∷ rest) e p = absurd (omega arith)

four_bytes : (n : ℕ) → n < 2 ^ 32 → AllByRecursion (λ b. b < 256) (four n)
four_bytes n l = (omega arith, (omega arith, (omega arith, (omega arith, tt))))

pub bits_invert_hex : BitsInvertHex
bits_invert_hex text =
    cond_both (written 8 text) (Some (big (unhex text))) None (BitsOr text)
    (λ h. let p = and_parts (eqb (length text) 8) (hex_digits text) h in
    let l : length text ≡ 2 * 4 = eqb-true (length text) 8 p.0 in
    let f = four_of_big (unhex text) (unhex_length text 4 l) (unhex_bytes text) in
    (f.0, ap hex_of f.1 ∙ hex_of_unhex text 4 l p.1))
    (λ h n l e. both_ways (written 8 text) h (hex_written (four n) text (four_bytes n l) e))
