-- What `parse` answers, as a number that is read or not.
use Rattle.std.proofs.Common.{◌≡◌, ℕ, ◌^◌, ◌<◌, true, ◌&&◌, ltb, List, length, Some, None, Ok, Err, Option, Result, sym, refl, ap, ◌∙◌}
use Rattle.std.specs.Str.Parse.{IsNumeral, ParsesUnsigned, without_leading_plus, digits_value}
use Rattle.std.specs.Result.{result_ok}
use Rattle.std.specs.Str.{all_ascii_digits}
use Rattle.std.proofs.lemmas.Str.Parse.{IsNumeralModel, numerals_by_value, tells_all_ascii_digits}
use Rattle.std.proofs.lemmas.Bool.{and_parts, and_from, ltb-true, lt-ltb, cond_both, cond-true}
use Rattle.coverage.specs.Reading.{numeral, decimal_read}

own : IsNumeralModel (λ ds. all_ascii_digits ds ≡ true) (digits_value 10)
own = numerals_by_value _ tells_all_ascii_digits

numeral_from : (bits : ℕ) (ds : List ℕ) → IsNumeral 10 ds → digits_value 10 ds < 2 ^ bits → numeral bits ds ≡ true
numeral_from bits ds n l =
    and_from (ltb 0 (length ds)) (all_ascii_digits ds && ltb (digits_value 10 ds) (2 ^ bits)) (lt-ltb 0 (length ds) n.0)
    (and_from (all_ascii_digits ds) (ltb (digits_value 10 ds) (2 ^ bits)) (own.from ds n.1) (lt-ltb (digits_value 10 ds) (2 ^ bits) l))

numeral_tells : (bits : ℕ) (ds : List ℕ) → numeral bits ds ≡ true → IsNumeral 10 ds × (digits_value 10 ds < 2 ^ bits)
numeral_tells bits ds e =
    let p = and_parts (ltb 0 (length ds)) (all_ascii_digits ds && ltb (digits_value 10 ds) (2 ^ bits)) e in
    let q = and_parts (all_ascii_digits ds) (ltb (digits_value 10 ds) (2 ^ bits)) p.1 in
    ((ltb-true 0 (length ds) p.0, own.to ds q.0), ltb-true (digits_value 10 ds) (2 ^ bits) q.1)

pub decimal_reads : (bits : ℕ) (text : List ℕ) (n : ℕ) → (IsNumeral 10 (without_leading_plus text) × (digits_value 10 (without_leading_plus text) < 2 ^ bits)) × (n ≡ digits_value 10 (without_leading_plus text))
    → Some n ≡ decimal_read bits text
unfolding decimal_read
decimal_reads bits text n h =
    ap (λ (x : ℕ). Some x) h.1
    ∙ sym (cond-true (numeral bits (without_leading_plus text)) (Some (digits_value 10 (without_leading_plus text))) None (numeral_from bits (without_leading_plus text) h.0.0 h.0.1))

pub decimal_none : (bits : ℕ) (text : List ℕ) → (IsNumeral 10 (without_leading_plus text) × (digits_value 10 (without_leading_plus text) < 2 ^ bits) → ⊥) → ◌≡◌ {A = Option ℕ} None (decimal_read bits text)
unfolding decimal_read
decimal_none bits text h =
    cond_both (numeral bits (without_leading_plus text)) (Some (digits_value 10 (without_leading_plus text))) None (λ (o : Option ℕ). ◌≡◌ {A = Option ℕ} None o)
    (λ e. absurd (h (numeral_tells bits (without_leading_plus text) e)))
    (λ e. refl)

pub decimal_parses : {E : Type 0} (bits : ℕ) (text : List ℕ) (r : Result ℕ E) → ParsesUnsigned bits 10 text r → result_ok r ≡ decimal_read bits text
decimal_parses bits text (Ok n) h = decimal_reads bits text n h
decimal_parses bits text (Err e) h = decimal_none bits text h
