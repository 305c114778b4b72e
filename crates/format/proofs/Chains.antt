-- Readings one after another.
use Rattle.std.proofs.Common.{◌≡◌, ℕ, refl}
use Rattle.format.specs.Outcome.{Outcome, got, fault, then}

pub then_then : {A B C : Type 0} (o : Outcome A) (f : A → ℕ → Outcome B) (g : B → ℕ → Outcome C) → then (then o f) g ≡ then o (λ x n. then (f x n) g)
then_then (got x n) f g = refl
then_then (fault c o) f g = refl

pub then_same : {A B : Type 0} (o : Outcome A) (f g : A → ℕ → Outcome B) → ((x : A) (n : ℕ) → f x n ≡ g x n) → then o f ≡ then o g
then_same (got x n) f g h = h x n
then_same (fault c o) f g h = refl
