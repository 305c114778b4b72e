-- What reading at an offset of a file gives: a value and the next offset, or a fault's number and offset.
use Rattle.std.specs.Prelude.{ℕ}

pub data Outcome (A : Type 0) : Type 0 where
  got : A → ℕ → Outcome A
  fault : ℕ → ℕ → Outcome A

-- read on from the next offset; a fault ends the reading
abbrev pub then : {A B : Type 0} → Outcome A → (A → ℕ → Outcome B) → Outcome B
then (got x next) f = f x next
then (fault n at) f = fault n at
