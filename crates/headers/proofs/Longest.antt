-- What the tests cover is the longest run.
use Rattle.std.proofs.Common.{◌≡◌, ℕ, ◌+◌, ◌-◌, ◌*◌, ◌<◌, ◌≤◌, Bool, true, false, cond, List, length, None, Ok, Err, Result, refl, ap, ◌∙◌, ⊎_elim, arith}
use Rattle.std.proofs.lemmas.Bool.{cond-false, ne_eqb, lt-leb, le-leb, le-ltb, both_ways, cases_lt, not_from_true, false≢true}
use Rattle.headers.specs.declared.ending.Ending.{Ending}
use Rattle.headers.specs.declared.ending.Ending.TheVariants.{Ceiling}
use Rattle.headers.specs.Targets.{target_of, lawful}
use Rattle.headers.specs.Headers.{header_at, hash_of, hash_before}
use Rattle.headers.specs.Steps.{count_limit, height_limit, end_at, tested, step_or, step_at}
use Rattle.headers.specs.Following.{first_failing, continues, place_in, passes, covers, run, walked, covered_by}
use Rattle.headers.specs.Runs.{Good, IsLongest, CoversTheLongestRun}
use Rattle.headers.proofs.Lawfulness.{lawful_tells, lawful_from}
use Rattle.headers.proofs.Firsts.{first_is}
use Rattle.headers.proofs.Sames.{same_tells, same_from}
use Rattle.headers.proofs.Passing.{Room, Passes, room_of, passes_of}

-- a place where the run goes on has a header that passes
going : (r : Result (List ℕ) Ending) → continues r ≡ true → (h : List ℕ) × (r ≡ Ok h)
going (Ok h) e = (h, refl)
going (Err x) e = absurd (false≢true e)

pub passing : (base : ℕ) (previous : List ℕ) (most : ℕ) (bytes : List ℕ) (k : ℕ)
    → passes base previous most bytes k ≡ true → (h : List ℕ) × (place_in base previous most bytes k ≡ Ok h)
unfolding passes
passing base previous most bytes k e = going (place_in base previous most bytes k) e

-- and a header that passes lets the run go on
room_none : (base size k : ℕ) → Room base size k → end_at base size k ≡ None
room_none base size k r =
    let w = r.whole in
    cond-false _ _ _ (ne_eqb size (80 * k) (λ e. omega arith))
    ∙ cond-false _ _ _ (lt-leb count_limit k r.count)
    ∙ cond-false _ _ _ (le-ltb height_limit (base + k) r.height)
    ∙ cond-false _ _ _ (le-ltb size (80 * k + 80) w)

passes_ok : (most : ℕ) (before header own : List ℕ) → Passes most before header own → tested most before header ≡ Ok (hash_of header)
passes_ok most before header own p =
    cond-false _ _ _ (not_from_true _ p.linked)
    ∙ cond-false _ _ _ (not_from_true _ p.lawful)
    ∙ cond-false _ _ _ (not_from_true _ (le-leb _ _ p.under))
    ∙ cond-false _ _ _ (not_from_true _ (le-leb _ _ p.worked))

pub step_ok : (base most : ℕ) (before bytes : List ℕ) (k : ℕ) (own : List ℕ)
    → Room base (length bytes) k → Passes most before (header_at bytes k) own → step_at base most before bytes k ≡ Ok (hash_of (header_at bytes k))
step_ok base most before bytes k own r p =
    ap (λ o. step_or o (tested most before (header_at bytes k))) (room_none base (length bytes) k r)
    ∙ passes_ok most before (header_at bytes k) own p

good_from : (base : ℕ) (previous : List ℕ) (ceiling : ℕ) (bytes : List ℕ) (k : ℕ)
    → lawful ceiling ≡ true → passes base previous (target_of ceiling) bytes k ≡ true
    → Room base (length bytes) k × Good previous ceiling bytes k
good_from base previous ceiling bytes k c e =
    let h = passing base previous (target_of ceiling) bytes k e in
    let r = room_of base (target_of ceiling) (hash_before previous bytes k) bytes k h.0 h.1 in
    let p = passes_of base (target_of ceiling) (hash_before previous bytes k) bytes k h.0 h.1 in (
      r,
      record {
        whole = r.whole;
        linked = same_tells _ _ p.linked;
        lawful = lawful_tells _ p.lawful;
        permitted = lawful_tells ceiling c;
        under = p.under;
        worked = p.worked;
      },
    )

good_passes : (base : ℕ) (previous : List ℕ) (ceiling : ℕ) (bytes : List ℕ) (k : ℕ)
    → k < count_limit → base + k ≤ height_limit → Good previous ceiling bytes k
    → passes base previous (target_of ceiling) bytes k ≡ true
unfolding passes
good_passes base previous ceiling bytes k l m g =
    ap continues (step_ok base (target_of ceiling) (hash_before previous bytes k) bytes k (hash_of (header_at bytes k))
    (record { count = l; height = m; whole = g.whole })
    (record {
      linked = same_from _ _ g.linked;
      lawful = lawful_from _ g.lawful;
      under = g.under;
      worked = g.worked;
      hash = refl;
    }))

covers_good : (base : ℕ) (previous : List ℕ) (ceiling : ℕ) (bytes : List ℕ) (k : ℕ)
    → lawful ceiling ≡ true → k < covers base previous (target_of ceiling) bytes → Good previous ceiling bytes k
unfolding covers
covers_good base previous ceiling bytes k c l =
    (good_from base previous ceiling bytes k c ((first_is (passes base previous (target_of ceiling) bytes) 0 count_limit).before k (omega arith) l)).1

-- every header that is covered is good
pub covered_good : (base : ℕ) (previous : List ℕ) (ceiling : ℕ) (bytes : List ℕ) (k : ℕ)
    → k < covered_by base previous ceiling bytes → Good previous ceiling bytes k
unfolding walked covered_by
covered_good base previous ceiling bytes k = by (lawful ceiling) refl
  where
    by : (t : Bool) → lawful ceiling ≡ t
        → k < (cond t (walked base previous (target_of ceiling) bytes) (run 0 Ceiling)).covered → Good previous ceiling bytes k
    by true c l = covers_good base previous ceiling bytes k c l
    by false c l = absurd (omega arith)

covers_count : (base : ℕ) (previous : List ℕ) (most : ℕ) (bytes : List ℕ) → covers base previous most bytes ≤ count_limit
unfolding covers
covers_count base previous most bytes = let w = (first_is (passes base previous most bytes) 0 count_limit).within in omega arith

pub covered_count : (base : ℕ) (previous : List ℕ) (ceiling : ℕ) (bytes : List ℕ) → covered_by base previous ceiling bytes ≤ count_limit
unfolding walked covered_by
covered_count base previous ceiling bytes = by (lawful ceiling)
  where
    by : (t : Bool) → (cond t (walked base previous (target_of ceiling) bytes) (run 0 Ceiling)).covered ≤ count_limit
    by true = covers_count base previous (target_of ceiling) bytes
    by false = omega arith

-- under a lawful ceiling
longest_lawful : (base : ℕ) (previous : List ℕ) (ceiling : ℕ) (bytes : List ℕ)
    → base ≤ height_limit → lawful ceiling ≡ true → IsLongest base previous ceiling bytes (covers base previous (target_of ceiling) bytes)
unfolding covers
longest_lawful base previous ceiling bytes b c =
    let p = passes base previous (target_of ceiling) bytes in
    let f = first_is p 0 count_limit in
    let n = first_failing p 0 count_limit in
    let w = f.within in
    record {
      run = record {
        count = omega arith;
        height = ⊎_elim
            (λ l. let r = (good_from base previous ceiling bytes (n - 1) c (f.before (n - 1) (omega arith) (omega arith))).0.height in omega arith)
            (λ l. omega arith)
            (cases_lt 0 n);
        good = λ k l. covers_good base previous ceiling bytes k c l;
      };
      longest = λ m r.
          let u = r.count in
          let v = r.height in
          ⊎_elim
          (λ l. absurd (both_ways (p n) (f.fails (omega arith)) (good_passes base previous ceiling bytes n (omega arith) (omega arith) (r.good n l))))
          (λ l. l)
          (cases_lt n m);
    }

-- under an unlawful one
longest_unlawful : (base : ℕ) (previous : List ℕ) (ceiling : ℕ) (bytes : List ℕ)
    → base ≤ height_limit → lawful ceiling ≡ false → IsLongest base previous ceiling bytes 0
longest_unlawful base previous ceiling bytes b c =
    record {
      run = record { count = omega arith; height = omega arith; good = λ k l. absurd (omega arith) };
      longest = λ m r.
          ⊎_elim
          (λ l. absurd (both_ways (lawful ceiling) c (lawful_from ceiling (r.good 0 l).permitted)))
          (λ l. l)
          (cases_lt 0 m);
    }

pub covers_the_longest_run : CoversTheLongestRun
unfolding walked covered_by
covers_the_longest_run base previous ceiling bytes b = by (lawful ceiling) refl
  where
    by : (t : Bool) → lawful ceiling ≡ t → IsLongest base previous ceiling bytes (cond t (walked base previous (target_of ceiling) bytes) (run 0 Ceiling)).covered
    by true c = longest_lawful base previous ceiling bytes b c
    by false c = longest_unlawful base previous ceiling bytes b c
