-- What is answered for a payload of which something was read: it must be all of it.
use Rattle.std.specs.Prelude.{ℕ, cond, Ok, Err, Result, ◌==◌}
use Rattle.proof.specs.declared.fault.Fault.{Fault}
use Rattle.proof.specs.declared.fault.Fault.TheVariants.{Content}
use Rattle.proof.specs.Faults.{numbered}

-- what was read from first up to n, where the payload ends at end; a number or length of its own faults by itself
abbrev pub wholly : {T : Type 0} → ℕ → ℕ → Result T Fault → ℕ → Result T Fault
wholly first end (Ok x) n = cond (n == end) (Ok x) (Err (Content first))
wholly first end (Err f) n = cond ((numbered f).0 == 2) (Err (Content first)) (Err f)
