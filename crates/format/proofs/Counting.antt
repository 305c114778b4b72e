-- Claims counted as a walk hands out their attestations.
use Rattle.std.proofs.Common.{◌≡◌, ℕ, ◌+◌, ◌<◌, Bool, true, false, cond, eqb, leb, List, [], ◌∷◌, length, Some, None, Option, sym, refl, ap, ◌∙◌, subst, ⊎_elim, add-zero, add_assoc, zero-add, arith}
use Rattle.std.proofs.lemmas.Bool.{cond_both, eqb-true, cases_lt}
use Rattle.format.specs.Outcome.{Outcome, got, fault, then}
use Rattle.format.specs.Operations.{Op}
use Rattle.format.specs.Items.{Piece, operation, attestation}
use Rattle.format.specs.Files.{Head, said, head_at, start_at, file_at, file_limit}
use Rattle.format.specs.Walks.{Place, inside, behind, Step, Handed, step_at, next_at, steps_at, top, walked, walk_at, claims_of}
use Rattle.format.specs.Counts.{Counts, counts, plus, one, counts_of, adds}
use Rattle.format.proofs.Progress.{From}
use Rattle.format.proofs.Chains.{then_then, then_same}
use Rattle.format.proofs.StepsLaw.{steps_law, step_from, step_past}
use Rattle.format.proofs.WalkLaw.{items_determine_claims}

-- what the items add
step_counts : List Step → Counts
step_counts [] = counts 0 0 0
step_counts (s ∷ ss) = plus (adds s.item) (step_counts ss)

plus_assoc : (c d e : Counts) → plus (plus c d) e ≡ plus c (plus d e)
plus_assoc c d e =
    ap (λ z. counts z ((c.bitcoin + d.bitcoin) + e.bitcoin) ((c.unknown + d.unknown) + e.unknown)) (add_assoc c.pending d.pending e.pending)
    ∙ (ap (λ z. counts (c.pending + (d.pending + e.pending)) z ((c.unknown + d.unknown) + e.unknown)) (add_assoc c.bitcoin d.bitcoin e.bitcoin)
    ∙ ap (λ z. counts (c.pending + (d.pending + e.pending)) (c.bitcoin + (d.bitcoin + e.bitcoin)) z) (add_assoc c.unknown d.unknown e.unknown))

plus_none : (c : Counts) → plus c (counts 0 0 0) ≡ c
plus_none c =
    ap (λ z. counts z (c.bitcoin + 0) (c.unknown + 0)) (add-zero c.pending)
    ∙ (ap (λ z. counts c.pending z (c.unknown + 0)) (add-zero c.bitcoin) ∙ ap (λ z. counts c.pending c.bitcoin z) (add-zero c.unknown))

none_plus : (c : Counts) → plus (counts 0 0 0) c ≡ c
none_plus c =
    ap (λ z. counts z (0 + c.bitcoin) (0 + c.unknown)) (zero-add c.pending)
    ∙ (ap (λ z. counts c.pending z (0 + c.unknown)) (zero-add c.bitcoin) ∙ ap (λ z. counts c.pending c.bitcoin z) (zero-add c.unknown))

-- whatever path the items lie below
claims_counted : (path : List Op) (ss : List Step) → counts_of (claims_of path ss) ≡ step_counts ss
unfolding counts_of claims_of step_counts
claims_counted path [] = refl
claims_counted path (s ∷ ss) = by_item s.item s.depth (λ ops. claims_counted ops ss)
  where
    by_item : (p : Piece) (d : ℕ) → ((ops : List Op) → counts_of (claims_of ops ss) ≡ step_counts ss)
        → counts_of (claims_of path (record { depth = d; item = p } ∷ ss)) ≡ plus (adds p) (step_counts ss)
    by_item (operation kind argument offset first) d h = h _ ∙ sym (none_plus (step_counts ss))
    by_item (attestation a payload offset first) d h = ap (plus (one a)) (h path)

-- the counts so far, and those of the items from a place on
pub counts_at : Counts → Place → List ℕ → ℕ → Outcome Counts
counts_at c place file at = then (steps_at place file at) (λ ss last. got (plus c (step_counts ss)) last)

-- the counts behind what was handed out
abbrev pub counts_on : Counts → List ℕ → Option Handed → ℕ → Outcome Counts
counts_on c file None next = got c next
counts_on c file (Some h) next = counts_at (plus c (adds h.step.item)) h.place file next

count_one : (c : Counts) (s : Step) (o : Outcome (List Step))
    → then (then o (λ ss last. got (s ∷ ss) last)) (λ ss last. got (plus c (step_counts ss)) last)
    ≡ then o (λ ss last. got (plus (plus c (adds s.item)) (step_counts ss)) last)
unfolding step_counts
count_one c s (got ss n) = ap (λ z. got z n) (sym (plus_assoc c (adds s.item) (step_counts ss)))
count_one c s (fault n o) = refl

count_end : (c : Counts) (at : ℕ) (b : Bool)
    → then (cond b (got [] at) (fault 12 at)) (λ ss last. got (plus c (step_counts ss)) last) ≡ then (cond b (got None at) (fault 12 at)) (counts_on c [])
unfolding step_counts
count_end c at true = ap (λ z. got z at) (plus_none c)
count_end c at false = refl

count_end_on : (c : Counts) (file : List ℕ) (at : ℕ) (b : Bool) → then (cond b (got None at) (fault 12 at)) (counts_on c []) ≡ then (cond b (got None at) (fault 12 at)) (counts_on c file)
count_end_on c file at true = refl
count_end_on c file at false = refl

pub count_next : (c : Counts) (place : Place) (file : List ℕ) (at : ℕ) → counts_at c place file at ≡ then (next_at place file at) (counts_on c file)
unfolding counts_at
count_next c behind file at =
    ap (λ z. then z (λ ss last. got (plus c (step_counts ss)) last)) (steps_law behind file at)
    ∙ (count_end c at (eqb at (length file)) ∙ count_end_on c file at (eqb at (length file)))
count_next c (inside levels size) file at =
    ap (λ z. then z (λ ss last. got (plus c (step_counts ss)) last)) (steps_law (inside levels size) file at)
    ∙ (then_then (step_at levels size file at) _ _
    ∙ (then_same (step_at levels size file at) _ _ (λ h next. count_one c h.step (steps_at h.place file next))
    ∙ sym (then_then (step_at levels size file at) _ _)))

-- the counts of a whole file
counted_by : (file : List ℕ) (b : Bool)
    → then (then (cond b (then (head_at file) (λ h at. then (steps_at top file at) (λ ss last. got (walked h ss) last))) (fault 1 file_limit))
    (λ w last. got (said w.head (claims_of [] w.steps)) last)) (λ s n. got (counts_of s.claims) n)
    ≡ then (cond b (head_at file) (fault 1 file_limit)) (λ h at. counts_at (counts 0 0 0) top file at)
unfolding counts_at
counted_by file false = refl
counted_by file true =
    then_then (then (head_at file) (λ h at. then (steps_at top file at) (λ ss last. got (walked h ss) last))) _ _
    ∙ (then_then (head_at file) _ _
    ∙ then_same (head_at file) _ _ (λ h at.
    then_then (steps_at top file at) _ _
    ∙ then_same (steps_at top file at) _ _ (λ ss last. ap (λ z. got z last) (claims_counted [] ss ∙ sym (none_plus (step_counts ss))))))

pub file_counted : (file : List ℕ)
    → then (file_at file) (λ s n. got (counts_of s.claims) n) ≡ then (start_at file) (λ h at. counts_at (counts 0 0 0) top file at)
unfolding walk_at
file_counted file = ap (λ z. then z (λ s n. got (counts_of s.claims) n)) (items_determine_claims file) ∙ counted_by file (leb (length file) file_limit)

-- what is handed out takes a byte at least, and a byte of the file
abbrev Moved : ℕ → ℕ → Outcome (Option Handed) → Type 0
Moved long at (got None n) = Unit {0}
Moved long at (got (Some h) n) = (at < n) × (at < long)
Moved long at (fault c o) = Unit {0}

moved_some : (long at : ℕ) (o : Outcome Handed) → at < long → From (at + 1) o → Moved long at (then o (λ h next. got (Some h) next))
moved_some long at (got h n) w l = (omega arith, w)
moved_some long at (fault c o) w l = tt

moved_end : (long at : ℕ) (b : Bool) → Moved long at (cond b (got None at) (fault 12 at))
moved_end long at true = tt
moved_end long at false = tt

moved : (place : Place) (file : List ℕ) (at : ℕ) → Moved (length file) at (next_at place file at)
moved behind file at = moved_end (length file) at (eqb at (length file))
moved (inside levels size) file at =
    ⊎_elim (λ w. moved_some (length file) at (step_at levels size file at) w (step_from levels size file at))
    (λ l. subst (λ o. Moved (length file) at (then o (λ h next. got (Some h) next))) (sym (step_past levels size file at l)) tt)
    (cases_lt at (length file))

pub handed_from : (place : Place) (file : List ℕ) (at : ℕ) (h : Handed) (n : ℕ) → got (Some h) n ≡ next_at place file at → (at < n) × (at < length file)
handed_from place file at h n e = subst (λ o. Moved (length file) at o) (sym e) (moved place file at)

-- nothing is left only where the file has ended
abbrev Ended : ℕ → Outcome (Option Handed) → Type 0
Ended long (got None n) = n ≡ long
Ended long (got (Some h) n) = Unit {0}
Ended long (fault c o) = Unit {0}

ended_some : (long : ℕ) (o : Outcome Handed) → Ended long (then o (λ h next. got (Some h) next))
ended_some long (got h n) = tt
ended_some long (fault c o) = tt

ended : (place : Place) (file : List ℕ) (at : ℕ) → Ended (length file) (next_at place file at)
ended (inside levels size) file at = ended_some (length file) (step_at levels size file at)
ended behind file at = cond_both (eqb at (length file)) (got None at) (fault 12 at) (λ o. Ended (length file) o) (λ e. eqb-true at (length file) e) (λ e. tt)

pub none_from : (place : Place) (file : List ℕ) (at n : ℕ) → got None n ≡ next_at place file at → n ≡ length file
none_from place file at n e = subst (λ o. Ended (length file) o) (sym e) (ended place file at)

-- ---- a count over a walk from the top: started, going on, and stopped
abbrev pub file_counts : List ℕ → Outcome Counts
file_counts file = then (file_at file) (λ s n. got (counts_of s.claims) n)

pub not_started : (file : List ℕ) (n o : ℕ) → fault n o ≡ start_at file → fault n o ≡ file_counts file
not_started file n o e = ap (λ z. then z (λ h at. counts_at (counts 0 0 0) top file at)) e ∙ sym (file_counted file)

module _ (file : List ℕ) (h : Head) (start : ℕ) (begun : got h start ≡ start_at file) (c : Counts) (place : Place) (at : ℕ)
    (inv : counts_at c place file at ≡ counts_at (counts 0 0 0) top file start) where
  so_far : counts_at c place file at ≡ file_counts file
  so_far = inv ∙ (ap (λ z. then z (λ h at. counts_at (counts 0 0 0) top file at)) begun ∙ sym (file_counted file))

  next_on : (o : Outcome (Option Handed)) → o ≡ next_at place file at → then o (counts_on c file) ≡ counts_at c place file at
  next_on o e = ap (λ z. then z (counts_on c file)) e ∙ sym (count_next c place file at)

  pub stopped : (n o : ℕ) → fault n o ≡ next_at place file at → fault n o ≡ file_counts file
  stopped n o e = next_on (fault n o) e ∙ so_far

  pub finished : (n : ℕ) → got None n ≡ next_at place file at → got c (length file) ≡ file_counts file
  finished n e = ap (λ m. got c m) (sym (none_from place file at n e)) ∙ (next_on (got None n) e ∙ so_far)

  pub goes_on : (d : Counts) (s : Handed) (n : ℕ) → d ≡ plus c (adds s.step.item) → got (Some s) n ≡ next_at place file at
      → counts_at d s.place file n ≡ counts_at (counts 0 0 0) top file start
  goes_on d s n e g = ap (λ z. counts_at z s.place file n) e ∙ (next_on (got (Some s) n) g ∙ inv)
