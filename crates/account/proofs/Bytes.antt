-- Spaces.
use Rattle.std.proofs.Common.{◌≡◌, ℕ, zero, suc, [], ◌∷◌, replicate, Result, String, Global, IfOk, string_bytes, refl, ap, subst}
use Rattle.std.specs.List.{repeat}

spaces_are : (n : ℕ) → repeat {A = ℕ} n (32 ∷ []) ≡ replicate {A = ℕ} n 32
spaces_are zero = refl
spaces_are (suc n) = ap (λ z. 32 ∷ z) (spaces_are n)

-- what the library wrote, in the words of this crate
pub spaces_text : {E : Type 0} (r : Result (String Global) E) (n : ℕ) → IfOk r (λ s. string_bytes s ≡ repeat {A = ℕ} n (32 ∷ []))
    → IfOk r (λ s. string_bytes s ≡ replicate {A = ℕ} n 32)
spaces_text r n e = subst (λ z. IfOk r (λ s. string_bytes s ≡ z)) (spaces_are n) e
