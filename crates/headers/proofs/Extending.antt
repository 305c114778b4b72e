-- More bytes behind a text of headers.
use Rattle.std.proofs.Common.{◌≡◌, ℕ, zero, suc, ◌+◌, ◌*◌, ◌≤◌, Bool, true, false, cond, List, ◌++◌, length, take, drop, sym, refl, ap, ◌∙◌, subst, arith, length-append, length-drop}
use Rattle.std.proofs.lemmas.List.{take-append-le, drop-append-le}
use Rattle.headers.specs.declared.ending.Ending.TheVariants.{Ceiling}
use Rattle.headers.specs.Targets.{target_of, lawful}
use Rattle.headers.specs.Headers.{header_at, hash_of, hash_before}
use Rattle.headers.specs.Steps.{count_limit}
use Rattle.headers.specs.Following.{continues, passes, covers, run, walked, covered_by}
use Rattle.headers.specs.Runs.{MoreBytesExtendTheRun}
use Rattle.headers.proofs.Firsts.{first_later}
use Rattle.headers.proofs.Passing.{Passes, room_of, passes_of}
use Rattle.headers.proofs.Longest.{passing, step_ok, covered_good}

pub header_same : (bytes more : List ℕ) (k : ℕ) → 80 * k + 80 ≤ length bytes → header_at (bytes ++ more) k ≡ header_at bytes k
header_same bytes more k h =
    let l : 80 ≤ length (drop (80 * k) bytes) = simp length-drop (omega arith) in
    ap (take 80) (drop-append-le (80 * k) bytes more (omega arith)) ∙ take-append-le 80 (drop (80 * k) bytes) more l

before_same : (previous bytes more : List ℕ) (k : ℕ) → 80 * k ≤ length bytes → hash_before previous (bytes ++ more) k ≡ hash_before previous bytes k
unfolding hash_before
before_same previous bytes more zero h = refl
before_same previous bytes more (suc k) h = ap hash_of (header_same bytes more k (omega arith))

passes_same : (most : ℕ) (before header own before' header' : List ℕ)
    → before' ≡ before → header' ≡ header → Passes most before header own → Passes most before' header' own
passes_same most before header own before' header' e f p =
    subst (λ b. Passes most b header' own) (sym e) (subst (λ h. Passes most before h own) (sym f) p)

passes_more : (base : ℕ) (previous : List ℕ) (most : ℕ) (bytes more : List ℕ) (k : ℕ)
    → passes base previous most bytes k ≡ true → passes base previous most (bytes ++ more) k ≡ true
unfolding passes
passes_more base previous most bytes more k e =
    let h = passing base previous most bytes k e in
    let r = room_of base most (hash_before previous bytes k) bytes k h.0 h.1 in
    let p = passes_of base most (hash_before previous bytes k) bytes k h.0 h.1 in
    let w = r.whole in
    let n = length-append bytes more in
    ap continues (step_ok base most (hash_before previous (bytes ++ more) k) (bytes ++ more) k h.0
    (record { count = r.count; height = r.height; whole = omega arith })
    (passes_same most _ _ h.0 _ _ (before_same previous bytes more k (omega arith)) (header_same bytes more k w) p))

covers_more : (base : ℕ) (previous : List ℕ) (most : ℕ) (bytes more : List ℕ)
    → covers base previous most bytes ≤ covers base previous most (bytes ++ more)
unfolding covers
covers_more base previous most bytes more =
    first_later (passes base previous most bytes) (passes base previous most (bytes ++ more)) count_limit (passes_more base previous most bytes more)

covered_more : (base : ℕ) (previous : List ℕ) (ceiling : ℕ) (bytes more : List ℕ)
    → covered_by base previous ceiling bytes ≤ covered_by base previous ceiling (bytes ++ more)
unfolding walked covered_by
covered_more base previous ceiling bytes more = by (lawful ceiling)
  where
    by : (t : Bool) → (cond t (walked base previous (target_of ceiling) bytes) (run 0 Ceiling)).covered
        ≤ (cond t (walked base previous (target_of ceiling) (bytes ++ more)) (run 0 Ceiling)).covered
    by true = covers_more base previous (target_of ceiling) bytes more
    by false = omega arith

pub more_bytes_extend_the_run : MoreBytesExtendTheRun
more_bytes_extend_the_run base previous ceiling bytes more =
    record {
      longer = covered_more base previous ceiling bytes more;
      same = λ k l. header_same bytes more k (covered_good base previous ceiling bytes k l).whole;
    }
