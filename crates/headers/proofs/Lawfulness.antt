-- The target of bits, from its whole mantissa and the place of its low byte.
use Rattle.std.proofs.Common.{◌≡◌, ℕ, ◌-◌, ◌*◌, ◌/◌, ◌%◌, ◌^◌, ◌<◌, ◌≤◌, true, false, sym, ap, ◌∙◌, mul-pos, arith}
use Rattle.std.proofs.lemmas.Bool.Decides.{nat_tests}
use Rattle.headers.specs.Targets.{target_of, mantissa, exponent, Lawful, lawful}
use Rattle.headers.proofs.Little.{power_positive}

pub lawful_tells : (bits : ℕ) → lawful bits ≡ true → Lawful bits
unfolding lawful
lawful_tells bits e = (grind (arith, nat_tests), grind (arith, nat_tests), grind (arith, nat_tests))

pub lawful_from : (bits : ℕ) → Lawful bits → lawful bits ≡ true
unfolding lawful
lawful_from bits l = let a = l.0 in let b = l.1 in let c = l.2 in grind (arith, nat_tests)

-- bit 23 is set, or nothing of the mantissa is whole
pub unlawful_odd : (bits : ℕ) → (bits / 2 ^ 23 % 2 ≡ 0 → ⊥) → lawful bits ≡ false
unfolding lawful
unlawful_odd bits h = grind (arith, nat_tests)

pub unlawful_zero : (bits m : ℕ) → m ≡ mantissa bits / 256 ^ (3 - exponent bits) → m ≡ 0 → lawful bits ≡ false
unfolding lawful target_of
unlawful_zero bits m e z =
    let t : mantissa bits / 256 ^ (3 - exponent bits) * 256 ^ (exponent bits - 3) ≡ 0 = ap (λ x. x * 256 ^ (exponent bits - 3)) (sym e ∙ z) ∙ omega arith in
    grind (arith, nat_tests)

pub target_is : (bits m at : ℕ) → m ≡ mantissa bits / 256 ^ (3 - exponent bits) → at ≡ exponent bits - 3 → m * 256 ^ at ≡ target_of bits
unfolding target_of
target_is bits m at e f = ap (λ x. x * 256 ^ at) e ∙ ap (λ x. mantissa bits / 256 ^ (3 - exponent bits) * 256 ^ x) f

pub unlawful_large : (bits : ℕ) → 2 ^ 256 ≤ target_of bits → lawful bits ≡ false
unfolding lawful
unlawful_large bits h = grind (arith, nat_tests)

pub lawful_rest : (bits m at : ℕ) → m * 256 ^ at ≡ target_of bits
    → bits / 2 ^ 23 % 2 ≡ 0 → (m ≡ 0 → ⊥) → m * 256 ^ at < 2 ^ 256 → lawful bits ≡ true
lawful_rest bits m at is even ne small =
    let some : 0 < m = omega arith in
    let pos : 0 < m * 256 ^ at = mul-pos some (power_positive at) in
    lawful_from bits (even, omega arith, omega arith)

pub ruleset lawfulness = (target_is, unlawful_odd, unlawful_zero, unlawful_large, lawful_rest)
