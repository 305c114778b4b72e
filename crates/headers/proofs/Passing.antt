-- What is known of a place where a run goes on, and where it ends.
use Rattle.std.proofs.Common.{◌≡◌, ℕ, zero, suc, ◌+◌, ◌-◌, ◌*◌, ◌/◌, ◌<◌, ◌≤◌, Bool, true, false, cond, ltb, leb, List, [], length, get_or, take, drop, Some, None, Ok, Err, Option, Result, sym, refl, ap, ◌∙◌, mul-zero, mul-suc, add-one, arith}
use Rattle.std.specs.Simd.{first_chunks}
use Rattle.std.proofs.lemmas.List.{drop-drop}
use Rattle.std.proofs.lemmas.Bool.{ltb-false, leb-false, leb-true, le-ltb, ne_eqb, cond-false, not-false}
use Rattle.format.specs.Attestations.{same}
use Rattle.headers.specs.declared.ending.Ending.{Ending}
use Rattle.headers.specs.declared.ending.Ending.TheVariants.{Count, Height}
use Rattle.headers.specs.Targets.{little, target_of, lawful}
use Rattle.headers.specs.Headers.{header_at, previous_of, bits_of, hash_of, hash_before}
use Rattle.headers.specs.Steps.{count_limit, height_limit, full_at, end_at, tested, step_or, step_at}
use Rattle.headers.specs.Following.{first_failing, continues, reason, place_in, passes, covers, run, walked}
use Rattle.headers.proofs.Firsts.{first_stops, first_goes}

-- a place with room for a header
pub record Room (base size k : ℕ) : Type 0 where
  pub count : k < count_limit
  pub height : base + k ≤ height_limit
  pub whole : 80 * k + 80 ≤ size

-- a header that passes the tests
pub record Passes (most : ℕ) (before header own : List ℕ) : Type 0 where
  pub linked : same (previous_of header) before ≡ true
  pub lawful : lawful (bits_of header) ≡ true
  pub under : target_of (bits_of header) ≤ most
  pub worked : little (hash_of header) ≤ target_of (bits_of header)
  pub hash : own ≡ hash_of header

none_left : (b : Bool) (e : Ending) (o : Option Ending) → cond b (Some e) o ≡ None → (b ≡ false) × (o ≡ None)
none_left true e o h = let z : ◌≡◌ {A = ℕ} 0 1 = cc in absurd (omega arith)
none_left false e o h = (refl, h)

ok_left : (b : Bool) (e : Ending) (r : Result (List ℕ) Ending) (x : List ℕ) → cond b (Err e) r ≡ Ok x → (b ≡ false) × (r ≡ Ok x)
ok_left true e r x h = let z : ◌≡◌ {A = ℕ} 0 1 = cc in absurd (omega arith)
ok_left false e r x h = (refl, h)

step_left : (o : Option Ending) (r : Result (List ℕ) Ending) (x : List ℕ) → step_or o r ≡ Ok x → (o ≡ None) × (r ≡ Ok x)
step_left None r x h = (refl, h)
step_left (Some e) r x h = let z : ◌≡◌ {A = ℕ} 0 1 = cc in absurd (omega arith)

room_from : (base size k : ℕ) → end_at base size k ≡ None → Room base size k
room_from base size k h =
    let a = none_left _ _ _ h in
    let b = none_left _ _ _ a.1 in
    let c = none_left _ _ _ b.1 in
    let d = none_left _ _ _ c.1 in
    record { count = leb-false _ _ b.0; height = ltb-false _ _ c.0; whole = ltb-false _ _ d.0 }

ok_is : (x y : List ℕ) → ◌≡◌ {A = Result (List ℕ) Ending} (Ok x) (Ok y) → y ≡ x
ok_is x y e = cc

passes_from : (most : ℕ) (before header hash : List ℕ) → tested most before header ≡ Ok hash → Passes most before header hash
passes_from most before header hash h =
    let a = ok_left _ _ _ _ h in
    let b = ok_left _ _ _ _ a.1 in
    let c = ok_left _ _ _ _ b.1 in
    let d = ok_left _ _ _ _ c.1 in
    record {
      linked = not-false _ a.0;
      lawful = not-false _ b.0;
      under = leb-true _ _ (not-false _ c.0);
      worked = leb-true _ _ (not-false _ d.0);
      hash = ok_is _ _ d.1;
    }

pub room_of : (base most : ℕ) (before bytes : List ℕ) (k : ℕ) (hash : List ℕ) → step_at base most before bytes k ≡ Ok hash → Room base (length bytes) k
room_of base most before bytes k hash e = room_from base (length bytes) k (step_left _ _ _ e).0

pub passes_of : (base most : ℕ) (before bytes : List ℕ) (k : ℕ) (hash : List ℕ)
    → step_at base most before bytes k ≡ Ok hash → Passes most before (header_at bytes k) hash
passes_of base most before bytes k hash e = passes_from most before (header_at bytes k) hash (step_left _ _ _ e).1

-- a step on the hash before a place is the place's
pub placed : (base : ℕ) (previous : List ℕ) (most : ℕ) (bytes before : List ℕ) (k : ℕ) (r s : Result (List ℕ) Ending)
    → before ≡ hash_before previous bytes k → r ≡ step_at base most before bytes k → r ≡ s → place_in base previous most bytes k ≡ s
placed base previous most bytes before k r s b e f = ap (λ x. step_at base most x bytes k) (sym b) ∙ (sym e ∙ f)

-- the header at a place, among the whole ones
chunk_at : (n count k : ℕ) (xs d : List ℕ) → k < count → get_or (first_chunks n count xs) k d ≡ take n (drop (n * k) xs)
chunk_at n zero k xs d l = absurd (omega arith)
chunk_at n (suc count) zero xs d l = ap (λ m. take n (drop m xs)) (sym (mul-zero n))
chunk_at n (suc count) (suc k) xs d l =
    chunk_at n count k (drop n xs) d (omega arith)
    ∙ ap (take n) (drop-drop (n * k) n xs)
    ∙ ap (λ m. take n (drop m xs)) (omega (arith, mul-suc n k))

pub header_chunk : (bytes : List ℕ) (k : ℕ) → k < length bytes / 80
    → get_or (first_chunks 80 (length bytes / 80) bytes) k [] ≡ header_at bytes k
header_chunk bytes k l = chunk_at 80 (length bytes / 80) k bytes [] l

-- where there is a whole header, a run ends for want of room only
end_whole : (base size k : ℕ) → 80 * k + 80 ≤ size → end_at base size k ≡ full_at base k
end_whole base size k l =
    cond-false _ _ _ (ne_eqb size (80 * k) (λ e. omega arith))
    ∙ ap (λ o. cond (leb count_limit k) (Some Count) (cond (ltb height_limit (base + k)) (Some Height) o))
    (cond-false _ _ _ (le-ltb size (80 * k + 80) l))

pub step_whole : (base most : ℕ) (before bytes : List ℕ) (headers : List (List ℕ)) (k : ℕ) (r : Result (List ℕ) Ending)
    → headers ≡ first_chunks 80 (length bytes / 80) bytes → k < length bytes / 80
    → r ≡ step_or (full_at base k) (tested most before (get_or headers k [])) → r ≡ step_at base most before bytes k
step_whole base most before bytes headers k r h l e =
    let at : get_or headers k [] ≡ header_at bytes k = ap (λ hs. get_or hs k []) h ∙ header_chunk bytes k l in
    e ∙ ap (λ x. step_or (full_at base k) (tested most before x)) at
    ∙ ap (λ o. step_or o (tested most before (header_at bytes k))) (sym (end_whole base (length bytes) k (omega arith)))

-- one header further
pub before_more : (previous bytes : List ℕ) (k : ℕ) → hash_before previous bytes (k + 1) ≡ hash_of (header_at bytes k)
unfolding hash_before
before_more previous bytes k = ap (hash_before previous bytes) (add-one k)

pub covers_goes : (base : ℕ) (previous : List ℕ) (most : ℕ) (bytes : List ℕ) (k : ℕ) (hash : List ℕ)
    → place_in base previous most bytes k ≡ Ok hash → k < 65536
    → first_failing (passes base previous most bytes) k (65536 - k) ≡ covers base previous most bytes
    → first_failing (passes base previous most bytes) (k + 1) (65536 - (k + 1)) ≡ covers base previous most bytes
unfolding passes
covers_goes base previous most bytes k hash e l h = sym (first_goes (passes base previous most bytes) k 65536 l (ap continues e)) ∙ h

pub covers_stops : (base : ℕ) (previous : List ℕ) (most : ℕ) (bytes : List ℕ) (k : ℕ) (ending : Ending)
    → place_in base previous most bytes k ≡ Err ending
    → first_failing (passes base previous most bytes) k (65536 - k) ≡ covers base previous most bytes
    → run k ending ≡ walked base previous most bytes
unfolding passes walked
covers_stops base previous most bytes k ending e h =
    let s : k ≡ covers base previous most bytes = sym (first_stops (passes base previous most bytes) k (65536 - k) (ap continues e)) ∙ h in
    ap (run k) (sym (ap reason e)) ∙ ap (λ n. run n (reason (place_in base previous most bytes n))) s
