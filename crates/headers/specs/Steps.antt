-- Why a run ends at a place, or goes on there: the tests in their order.
use Rattle.std.specs.Prelude.{ℕ, ◌+◌, ◌*◌, cond, not, List, length, Some, None, Ok, Err, Option, Result, ◌==◌, nat_le, nat_lt}
use Rattle.format.specs.Attestations.{same}
use Rattle.headers.specs.declared.ending.Ending.{Ending}
use Rattle.headers.specs.declared.ending.Ending.TheVariants.{Complete, Count, Height, Cut, Link, Bits, Target, Work}
use Rattle.headers.specs.Targets.{little, target_of, lawful}
use Rattle.headers.specs.Headers.{header_at, previous_of, bits_of, hash_of}

-- the most headers that a run has, and the greatest height
abbrev pub count_limit : ℕ
count_limit = 65536

abbrev pub height_limit : ℕ
height_limit = 4294967295

-- a run has no header at place k, however many there are
abbrev pub full_at : ℕ → ℕ → Option Ending
full_at base k =
    cond (nat_le count_limit k) (Some Count)
    (cond (nat_lt height_limit (base + k)) (Some Height) None)

-- no header of a run stands at place k, by the number of the bytes alone
abbrev pub end_at : ℕ → ℕ → ℕ → Option Ending
end_at base size k =
    cond (size == 80 * k) (Some Complete)
    (cond (nat_le count_limit k) (Some Count)
    (cond (nat_lt height_limit (base + k)) (Some Height)
    (cond (nat_lt size (80 * k + 80)) (Some Cut) None)))

-- a header that has to name the hash before, under the greatest target: its hash, or what is wrong with it
abbrev pub tested : ℕ → List ℕ → List ℕ → Result (List ℕ) Ending
tested most before header =
    cond (not (same (previous_of header) before)) (Err Link)
    (cond (not (lawful (bits_of header))) (Err Bits)
    (cond (not (nat_le (target_of (bits_of header)) most)) (Err Target)
    (cond (not (nat_le (little (hash_of header)) (target_of (bits_of header)))) (Err Work)
    (Ok (hash_of header)))))

abbrev pub step_or : Option Ending → Result (List ℕ) Ending → Result (List ℕ) Ending
step_or None r = r
step_or (Some e) r = Err e

abbrev pub step_at : ℕ → ℕ → List ℕ → List ℕ → ℕ → Result (List ℕ) Ending
step_at base most before bytes k = step_or (end_at base (length bytes) k) (tested most before (header_at bytes k))
