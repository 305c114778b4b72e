-- A list of calls on a new dossier, what is recorded of them, and the run that they are.
use Rattle.std.specs.Prelude.{◌≡◌, ℕ, List, [], ◌∷◌, ◌++◌, take, replicate, Ok, Err, vec_items, Result, Vec}
use Rattle.std.specs.declared.alloc.Global.{Global}
use Rattle.replay.specs.Areas.{left}
use Rattle.judge.specs.Meaning.{Meaning}
use Rattle.runs.specs.declared.report.Row.{Row}
use Rattle.runs.specs.declared.report.Tally.{Tally}
use Rattle.runs.specs.Contents.{Dossier, blank, opened}
use Rattle.runs.specs.Answers.{granted}
use Rattle.runs.specs.Runs.{Event, add, settle, reopen, write, row, tally, sheet, Step, Run}
use Rattle.runs.specs.Law.{Law}
use Rattle.dossier.specs.declared.refusal.Refusal.{Refusal}
use Rattle.dossier.specs.Refusals.{refusal, answered}
use Rattle.dossier.specs.Phases.{open_dossier, settled_dossier}
use Rattle.history.specs.declared.call.Call.{Call}
use Rattle.history.specs.declared.call.Call.TheVariants as call
use Rattle.history.specs.declared.entry.Entry.{Entry}
use Rattle.history.specs.declared.entry.Entry.TheVariants.{Added, Settled, Reopened, Wrote, Read, Tallied, Listed, NotTaken}
use Rattle.history.specs.declared.phase.Phase.{Phase}
use Rattle.history.specs.declared.phase.Phase.TheVariants as phase

abbrev pub phase_dossier : Phase → Dossier
phase_dossier (phase.Open d) = open_dossier d
phase_dossier (phase.Settled d) = settled_dossier d

-- an area as it is lent
abbrev pub zeros : ℕ → List ℕ
zeros n = replicate n 0

-- the event that a call and its entry are; of a file or a sheet the entry has the bytes in front of the out area
pub data Records {J : Type 0} (means : J → Meaning) : Call J → Entry → Event → Type 0 where
  an_add : {f : _} {r : Result (Unit {0}) Refusal} → Records means (call.Add f) (Added r) (add f.now (answered r))
  a_settle : Records means call.Settle Settled settle
  a_reopen : Records means call.Reopen Reopened reopen
  a_write : {room n : ℕ} {v : _} {after : List ℕ} → vec_items v ≡ take n after
      → Records means (call.Write room) (Wrote (Ok v)) (write (zeros room) (granted n) after)
  no_write : {room : ℕ} {e : Refusal} → Records means (call.Write room) (Wrote (Err e)) (write (zeros room) (refusal e) (zeros room))
  a_row : {j : _} {k work : ℕ} {r : Result Row Refusal}
      → Records means (call.Row j k work) (Read r) (row (means j.now) k (zeros work) (answered r) (left (zeros work)))
  a_tally : {j : _} {work : ℕ} {r : Result Tally Refusal}
      → Records means (call.Tally j work) (Tallied r) (tally (means j.now) (zeros work) (answered r) (left (zeros work)))
  a_sheet : {j : _} {room work n : ℕ} {v : _} {after : List ℕ} → vec_items v ≡ take n after
      → Records means (call.Sheet j room work) (Listed (Ok v)) (sheet (means j.now) (zeros room) (zeros work) (granted n) after (left (zeros work)))
  no_sheet : {j : _} {room work : ℕ} {e : Refusal}
      → Records means (call.Sheet j room work) (Listed (Err e)) (sheet (means j.now) (zeros room) (zeros work) (refusal e) (zeros room) (left (zeros work)))

-- what is recorded of a file that a dossier was to write into an area of room bytes
abbrev pub FileRecorded : Dossier → ℕ → Result (Vec ℕ Global) Refusal → Type 0
FileRecorded s room (Ok v) = (n : ℕ) × (after : List ℕ) × (vec_items v ≡ take n after) × Step s (write (zeros room) (granted n) after) s
FileRecorded s room (Err e) = Step s (write (zeros room) (refusal e) (zeros room)) s

-- the same of a sheet
abbrev pub SheetRecorded : Dossier → Meaning → ℕ → ℕ → Result (Vec ℕ Global) Refusal → Type 0
SheetRecorded s m room work (Ok v) =
    (n : ℕ) × (after : List ℕ) × (vec_items v ≡ take n after) × Step s (sheet m (zeros room) (zeros work) (granted n) after (left (zeros work))) s
SheetRecorded s m room work (Err e) = Step s (sheet m (zeros room) (zeros work) (refusal e) (zeros room) (left (zeros work))) s

-- the dossier does not take the call
abbrev pub Refuses : {J : Type 0} → (J → Meaning) → Dossier → Call J → Type 0
Refuses means s c = (n : Entry) (e : Event) (t : Dossier) → Records means c n e → Step s e t → ⊥

-- one call: it is made, or the dossier does not take it and is as it was
pub data One {J : Type 0} (means : J → Meaning) : Dossier → Call J → Entry → Dossier → Type 0 where
  taken : {s t : Dossier} {c : Call J} {n : Entry} (e : Event) → Records means c n e → Step s e t → One means s c n t
  not_taken : {s : Dossier} {c : Call J} → Refuses means s c → One means s c NotTaken s

-- the run that a list of calls and entries is, the last call first
pub data Script {J : Type 0} (means : J → Meaning) : List (Call J) → List Entry → List Event → Dossier → Type 0 where
  start : Script means [] [] [] (opened blank)
  more : {cs : List (Call J)} {ns : List Entry} {es : List Event} {s t : Dossier} {c : Call J} {n : Entry} (e : Event)
      → Script means cs ns es s → Records means c n e → Step s e t → Script means (cs ++ c ∷ []) (ns ++ n ∷ []) (e ∷ es) t
  skip : {cs : List (Call J)} {ns : List Entry} {es : List Event} {s : Dossier} {c : Call J}
      → Script means cs ns es s → Refuses means s c → Script means (cs ++ c ∷ []) (ns ++ NotTaken ∷ []) es s

-- the calls and what is recorded of them are a run from a new dossier to this one, and the law holds of every run
pub record Recorded {J : Type 0} (means : J → Meaning) (cs : List (Call J)) (ns : List Entry) (s : Dossier) : Type 0 where
  pub events : List Event
  pub script : Script means cs ns events s
  pub run : Run events s
  pub law : Law
