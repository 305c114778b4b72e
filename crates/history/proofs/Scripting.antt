-- What a record of calls rests on.
use Rattle.std.proofs.Common.{◌≡◌, ℕ, ◌+◌, ◌<◌, List, [], ◌∷◌, ◌++◌, length, get_or, take, Some, None, Ok, Err, Option, Result, Vec, sym, refl, ap, ◌∙◌, subst, Bor}
use Rattle.std.specs.declared.alloc.Global.{Global}
use lib.Seq.{take-append_seam}
use Rattle.std.proofs.lemmas.List.{take_more}
use Rattle.replay.specs.Areas.{left}
use Rattle.judge.specs.Meaning.{Meaning}
use Rattle.runs.specs.Contents.{Content, blank, Dossier, opened, settled, content}
use Rattle.runs.specs.Answers.{Answer, granted}
use Rattle.runs.specs.declared.report.Row.{Row}
use Rattle.runs.specs.declared.report.Tally.{Tally}
use Rattle.runs.specs.Adding.{Added}
use Rattle.runs.specs.Reports.{Read, Tallied}
use Rattle.runs.specs.Writing.{Wrote}
use Rattle.runs.specs.Sheets.{Listed as Listed-sheet}
use Rattle.runs.specs.Runs.{Event, add, row, tally, Step, Run, begun, then}
use Rattle.runs.specs.Law.{Refusal as Refusal-answer}
use Rattle.runs.proofs.Refusing.{refusals}
use Rattle.dossier.specs.declared.refusal.Refusal.{Refusal}
use Rattle.dossier.specs.Refusals.{place_of, refused_at, refusal, answered}
use Rattle.history.specs.declared.call.Call.{Call}
use Rattle.history.specs.declared.call.Call.TheVariants as call
use Rattle.history.specs.declared.entry.Entry.{Entry}
use Rattle.history.specs.declared.entry.Entry.TheVariants.{Wrote as Wrote-entry, Read as Read-entry, Tallied as Tallied-entry, Listed as Listed-entry}
use Rattle.history.specs.Scripts.{zeros, an_add, a_settle, a_reopen, a_write, no_write, a_row, a_tally, a_sheet, no_sheet, FileRecorded, SheetRecorded, Refuses, One, taken, not_taken, Script, start, more, skip}

-- ---- calls that are not taken

pub untaken_open : {J : Type 0} (means : J → Meaning) (s : Content) (c : Call J) → ((x : Bor (List ℕ)) → c ≡ call.Add x → ⊥) → (c ≡ call.Settle → ⊥)
    → Refuses means (opened s) c
untaken_open means s c h k n e t an_add x = h _ refl
untaken_open means s c h k n e t a_settle x = k refl
untaken_open means s c h k n e t a_reopen x = absurd x
untaken_open means s c h k n e t (a_write q) x = absurd x
untaken_open means s c h k n e t no_write x = absurd x
untaken_open means s c h k n e t a_row x = absurd x
untaken_open means s c h k n e t a_tally x = absurd x
untaken_open means s c h k n e t (a_sheet q) x = absurd x
untaken_open means s c h k n e t no_sheet x = absurd x

pub untaken_settled : {J : Type 0} (means : J → Meaning) (s : Content) (c : Call J) → (c ≡ call.Reopen → ⊥) → ((room : ℕ) → c ≡ call.Write room → ⊥)
    → ((j : Bor J) (k work : ℕ) → c ≡ call.Row j k work → ⊥) → ((j : Bor J) (work : ℕ) → c ≡ call.Tally j work → ⊥)
    → ((j : Bor J) (room work : ℕ) → c ≡ call.Sheet j room work → ⊥) → Refuses means (settled s) c
untaken_settled means s c h w r l i n e t an_add x = absurd x
untaken_settled means s c h w r l i n e t a_settle x = absurd x
untaken_settled means s c h w r l i n e t a_reopen x = h refl
untaken_settled means s c h w r l i n e t (a_write q) x = w _ refl
untaken_settled means s c h w r l i n e t no_write x = w _ refl
untaken_settled means s c h w r l i n e t a_row x = r _ _ _ refl
untaken_settled means s c h w r l i n e t a_tally x = l _ _ refl
untaken_settled means s c h w r l i n e t (a_sheet q) x = i _ _ _ refl
untaken_settled means s c h w r l i n e t no_sheet x = i _ _ _ refl

-- ---- files and sheets

-- the front of an area that was lent whole
pub front_of : (after rest : List ℕ) (long n : ℕ) → length after ≡ long → take n (take long (after ++ rest)) ≡ take n after
front_of after rest long n e = ap (take n) (ap (λ (k : ℕ). take k (after ++ rest)) (sym e) ∙ take-append_seam after rest)

is_refusal : (A : Type 0) (o : Option (ℕ × ℕ)) → Refusal-answer (refused_at {A = A} o)
is_refusal A None = tt
is_refusal A (Some p) = tt

pub out_kept : (s : Content) (out after : List ℕ) (e : Refusal) → Wrote s out (refusal e) after → after ≡ out
out_kept s out after e w = refusals.write_out (settled s) (settled s) out after (refusal e) (w, refl) (is_refusal ℕ (place_of e))

pub add_refused : (s t : Content) (file : List ℕ) (e : Refusal) → Added s file (refusal e) t → Added s file (refusal e) s
add_refused s t file e a =
    let q : opened t ≡ opened s = refusals.dossier (opened s) (add file (refusal e)) (opened t) a (is_refusal (Unit {0}) (place_of e)) in
    subst (λ (z : Content). Added s file (refusal e) z) (ap content q) a

pub sheet_refused : (s : Content) (m : Meaning) (out work a b : List ℕ) (e : Refusal) → Listed-sheet s m out work (refusal e) a b → Listed-sheet s m out work (refusal e) out (left work)
sheet_refused s m out work a b e l = record {
  answer = l.answer;
  out = sym (refusals.sheet_out (settled s) (settled s) m out work a b (refusal e) (l, refl) (is_refusal ℕ (place_of e))) ∙ l.out;
  work = refl;
}

pub sheet_granted : (s : Content) (m : Meaning) (out work a b : List ℕ) (n : ℕ) → Listed-sheet s m out work (granted n) a b → Listed-sheet s m out work (granted n) a (left work)
sheet_granted s m out work a b n l = record { answer = l.answer; out = l.out; work = refl }

-- the areas as they were lent
pub sheet_lent : (s : Content) (m : Meaning) (out lent work spare a b : List ℕ) (r : Answer ℕ) → out ≡ lent → work ≡ spare
    → Listed-sheet s m out work r a b → Listed-sheet s m lent spare r a b
sheet_lent s m out lent work spare a b r p q l =
    subst (λ (z : List ℕ). Listed-sheet s m lent z r a b) q (subst (λ (z : List ℕ). Listed-sheet s m z work r a b) p l)

-- an area that was lent full of zeros
row_lent : (s : Content) (m : Meaning) (k : ℕ) (lent spare : List ℕ) (r : Answer Row) (after : List ℕ) → lent ≡ spare
    → Read s m k lent r after → Read s m k spare r (left spare)
row_lent s m k lent spare r after e l = subst (λ (z : List ℕ). Read s m k z r (left z)) e (record { answer = l.answer; work = refl })

tally_lent : (s : Content) (m : Meaning) (lent spare : List ℕ) (r : Answer Tally) (after : List ℕ) → lent ≡ spare
    → Tallied s m lent r after → Tallied s m spare r (left spare)
tally_lent s m lent spare r after e l = subst (λ (z : List ℕ). Tallied s m z r (left z)) e (record { answer = l.answer; work = refl })

pub one_row : {J : Type 0} {means : J → Meaning} (s : Content) (j : Bor J) (k work : ℕ) (r : Result Row Refusal) (lent after : List ℕ) → lent ≡ zeros work
    → Read s (means j.now) k lent (answered r) after → One means (settled s) (call.Row j k work) (Read-entry r) (settled s)
one_row {J} {means} s j k work r lent after e l =
    let step : Step (settled s) (row (means j.now) k (zeros work) (answered r) (left (zeros work))) (settled s)
    = (row_lent s (means j.now) k lent (zeros work) (answered r) after e l, refl) in
    taken _ a_row step

pub one_tally : {J : Type 0} {means : J → Meaning} (s : Content) (j : Bor J) (work : ℕ) (r : Result Tally Refusal) (lent after : List ℕ) → lent ≡ zeros work
    → Tallied s (means j.now) lent (answered r) after → One means (settled s) (call.Tally j work) (Tallied-entry r) (settled s)
one_tally {J} {means} s j work r lent after e l =
    let step : Step (settled s) (tally (means j.now) (zeros work) (answered r) (left (zeros work))) (settled s)
    = (tally_lent s (means j.now) lent (zeros work) (answered r) after e l, refl) in
    taken _ a_tally step

pub one_write : {J : Type 0} {means : J → Meaning} (s : Dossier) (room : ℕ) (w : Result (Vec ℕ Global) Refusal) → FileRecorded s room w
    → One means s (call.Write room) (Wrote-entry w) s
one_write s room (Ok v) h = taken _ (a_write h.2) h.3
one_write s room (Err e) h = taken _ no_write h

pub one_sheet : {J : Type 0} {means : J → Meaning} (s : Dossier) (j : Bor J) (room work : ℕ) (w : Result (Vec ℕ Global) Refusal)
    → SheetRecorded s (means j.now) room work w → One means s (call.Sheet j room work) (Listed-entry w) s
one_sheet s j room work (Ok v) h = taken _ (a_sheet h.2) h.3
one_sheet s j room work (Err e) h = taken _ no_sheet h

-- ---- a list of calls

pub script_run : {J : Type 0} {means : J → Meaning} {cs : List (Call J)} {ns : List Entry} {es : List Event} {s : Dossier} → Script means cs ns es s → Run es s
script_run start = begun
script_run (more e p m k) = then (script_run p) k
script_run (skip p n) = script_run p

pub one_more : {J : Type 0} {means : J → Meaning} {cs : List (Call J)} {ns : List Entry} {s t : Dossier} {c : Call J} {n : Entry}
    → ((es : List Event) × Script means cs ns es s) → One means s c n t → (es : List Event) × Script means (cs ++ c ∷ []) (ns ++ n ∷ []) es t
one_more u (taken e m k) = (e ∷ u.0, more e u.1 m k)
one_more u (not_taken n) = (u.0, skip u.1 n)

pub first_call : {J : Type 0} {means : J → Meaning} (ns : List Entry) (s : Dossier) → ns ≡ [] → Run [] s → (es : List Event) × Script {J = J} means [] ns es s
first_call {J} {means} ns s h begun = subst (λ (x : List Entry). (es : List Event) × Script {J = J} means [] x es (opened blank)) (sym h) ([], start)

-- the same of the first i calls of a list
pub next_call : {J : Type 0} {means : J → Meaning} (all : List (Call J)) (i : ℕ) (ns ms : List Entry) {s t : Dossier} {c : Call J} {n : Entry}
    → take (i + 1) all ≡ take i all ++ c ∷ [] → ms ≡ ns ++ n ∷ [] → ((es : List Event) × Script means (take i all) ns es s) → One means s c n t
    → (es : List Event) × Script means (take (i + 1) all) ms es t
next_call {J} {means} all i ns ms {s} {t} {c} {n} h k u o =
    let v = one_more u o in
    (v.0, subst (λ (x : List Entry). Script means (take (i + 1) all) x v.0 t) (sym k) (subst (λ (x : List (Call J)). Script means x (ns ++ n ∷ []) v.0 t) (sym h) v.1))

pub take_item : {X : Type 0} (xs : List X) (i : ℕ) (d : X) → i < length xs → d ≡ get_or xs i d → take (i + 1) xs ≡ take i xs ++ d ∷ []
take_item {X} xs i d h e = take_more xs i d h ∙ ap (λ (y : X). take i xs ++ y ∷ []) (sym e)
