-- Decimal digits: how many, and the last one put behind the others.
use Rattle.std.proofs.Common.{◌≡◌, ℕ, ◌+◌, ◌/◌, ◌%◌, ◌^◌, ◌<◌, ◌≤◌, List, [], ◌∷◌, ◌++◌, length, decimal, sym, ap, ◌∙◌, append_assoc, arith, length-append}
use Rattle.std.proofs.lemmas.Fmt.{decimal_digit, decimal_step, length-decimal-le}

pub one_long : (n : ℕ) → n < 10 → length (decimal n) ≡ 1
one_long n h = ap length (decimal_digit n h)

pub more_long : (n : ℕ) → 10 ≤ n → n < 2 ^ 64 → length (decimal n) ≡ length (decimal (n / 10)) + 1
more_long n l h = ap length (decimal_step n l h) ∙ length-append (decimal (n / 10)) ((48 + n % 10) ∷ [])

pub at_most : (n : ℕ) → n < 2 ^ 64 → length (decimal n) ≤ 20
at_most n h = length-decimal-le 20 n (omega arith) (omega arith) h

pub one_put : (acc : List ℕ) (n : ℕ) → n < 10 → acc ++ ((48 + n) ∷ []) ≡ acc ++ decimal n
one_put acc n h = ap (λ ds. acc ++ ds) (sym (decimal_digit n h))

pub more_put : (acc : List ℕ) (n : ℕ) → 10 ≤ n → n < 2 ^ 64 → (acc ++ decimal (n / 10)) ++ ((48 + n % 10) ∷ []) ≡ acc ++ decimal n
more_put acc n l h = append_assoc acc (decimal (n / 10)) ((48 + n % 10) ∷ []) ∙ ap (λ ds. acc ++ ds) (sym (decimal_step n l h))
