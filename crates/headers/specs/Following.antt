-- The run that the tests give, place by place.
use Rattle.std.specs.Prelude.{ℕ, zero, suc, ◌+◌, Bool, true, false, cond, List, Ok, Err, Result}
use Rattle.headers.specs.declared.ending.Ending.{Ending}
use Rattle.headers.specs.declared.ending.Ending.TheVariants.{Ceiling, Count}
use Rattle.headers.specs.declared.ending.Run.{Run}
use Rattle.headers.specs.Targets.{target_of, lawful}
use Rattle.headers.specs.Headers.{hash_before}
use Rattle.headers.specs.Steps.{count_limit, step_at}

-- the first place from at on, among the next n, where the test fails
unfoldable pub first_failing : (ℕ → Bool) → ℕ → ℕ → ℕ
first_failing passes at zero = at
first_failing passes at (suc n) = cond (passes at) (first_failing passes (at + 1) n) at

abbrev pub continues : Result (List ℕ) Ending → Bool
continues (Ok hash) = true
continues (Err e) = false

-- a run cannot go on past the greatest count, so the first of these never stands
abbrev pub reason : Result (List ℕ) Ending → Ending
reason (Ok hash) = Count
reason (Err e) = e

-- what place k is to the run from the first header on, under the greatest target
abbrev pub place_in : ℕ → List ℕ → ℕ → List ℕ → ℕ → Result (List ℕ) Ending
place_in base previous most bytes k = step_at base most (hash_before previous bytes k) bytes k

unfoldable pub passes : ℕ → List ℕ → ℕ → List ℕ → ℕ → Bool
passes base previous most bytes k = continues (place_in base previous most bytes k)

-- how many headers the run has
unfoldable pub covers : ℕ → List ℕ → ℕ → List ℕ → ℕ
covers base previous most bytes = first_failing (passes base previous most bytes) 0 count_limit

abbrev pub run : ℕ → Ending → Run
run covered ending = record { covered = covered; ending = ending }

unfoldable pub walked : ℕ → List ℕ → ℕ → List ℕ → Run
walked base previous most bytes =
    run (covers base previous most bytes) (reason (place_in base previous most bytes (covers base previous most bytes)))

-- an unlawful ceiling covers nothing
abbrev pub run_of : ℕ → List ℕ → ℕ → List ℕ → Run
run_of base previous ceiling bytes = cond (lawful ceiling) (walked base previous (target_of ceiling) bytes) (run 0 Ceiling)

unfoldable pub covered_by : ℕ → List ℕ → ℕ → List ℕ → ℕ
covered_by base previous ceiling bytes = (run_of base previous ceiling bytes).covered
