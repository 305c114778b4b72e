-- What an answer of the reader and the offset after it stand for.
use Rattle.std.specs.Prelude.{ℕ, Ok, Err, Result}
use Rattle.format.specs.Outcome.{Outcome, got, fault}
use Rattle.proof.specs.declared.fault.Fault.{Fault}
use Rattle.proof.specs.Faults.{numbered}

-- the answer's value by v
abbrev pub outcome : {X A : Type 0} → (X → A) → Result X Fault → ℕ → Outcome A
outcome v (Ok x) next = got (v x) next
outcome v (Err f) next = fault (numbered f).0 (numbered f).1
