-- The runs of a dossier: what calls were made on it since it began blank and open, and what they answered.
use Rattle.std.specs.Prelude.{◌≡◌, ℕ, List, [], ◌∷◌}
use Rattle.judge.specs.Meaning.{Meaning}
use Rattle.runs.specs.declared.report.Row.{Row}
use Rattle.runs.specs.declared.report.Tally.{Tally}
use Rattle.runs.specs.Contents.{Content, blank, Dossier, opened, settled}
use Rattle.runs.specs.Answers.{Answer}
use Rattle.runs.specs.Adding.{Added}
use Rattle.runs.specs.Writing.{Wrote}
use Rattle.runs.specs.Reports.{Read, Tallied}
use Rattle.runs.specs.Sheets.{Listed}

-- a call with its arguments, a judge as its meaning, its answer, and what it left in the areas that it was lent
pub data Event : Type 0 where
  add : (file : List ℕ) (answer : Answer (Unit {0})) → Event
  settle : Event
  reopen : Event
  write : (out : List ℕ) (answer : Answer ℕ) (out_after : List ℕ) → Event
  row : (judge : Meaning) (k : ℕ) (work : List ℕ) (answer : Answer Row) (work_after : List ℕ) → Event
  tally : (judge : Meaning) (work : List ℕ) (answer : Answer Tally) (work_after : List ℕ) → Event
  sheet : (judge : Meaning) (out work : List ℕ) (answer : Answer ℕ) (out_after work_after : List ℕ) → Event

-- an open dossier, or a settled one, whose content P holds of
abbrev pub Open : Dossier → (Content → Type 0) → Type 0
Open (opened t) P = P t
Open (settled t) P = ⊥

abbrev pub Settled : Dossier → (Content → Type 0) → Type 0
Settled (opened t) P = ⊥
Settled (settled t) P = P t

-- while it is open, files may be added and it may be settled; no other call is taken
abbrev pub OpenTakes : Content → Event → Dossier → Type 0
OpenTakes s (add file answer) after = Open after (Added s file answer)
OpenTakes s settle after = Settled after (λ t. t ≡ s)
OpenTakes s reopen after = ⊥
OpenTakes s (write out answer out_after) after = ⊥
OpenTakes s (row judge k work answer work_after) after = ⊥
OpenTakes s (tally judge work answer work_after) after = ⊥
OpenTakes s (sheet judge out work answer out_after work_after) after = ⊥

-- a settled one takes the others, and only reopen makes it open
abbrev pub SettledTakes : Content → Event → Dossier → Type 0
SettledTakes s (add file answer) after = ⊥
SettledTakes s settle after = ⊥
SettledTakes s reopen after = Open after (λ t. t ≡ s)
SettledTakes s (write out answer out_after) after = Settled after (λ t. Wrote s out answer out_after × (t ≡ s))
SettledTakes s (row judge k work answer work_after) after = Settled after (λ t. Read s judge k work answer work_after × (t ≡ s))
SettledTakes s (tally judge work answer work_after) after = Settled after (λ t. Tallied s judge work answer work_after × (t ≡ s))
SettledTakes s (sheet judge out work answer out_after work_after) after =
    Settled after (λ t. Listed s judge out work answer out_after work_after × (t ≡ s))

-- what a call makes of a dossier that takes it
abbrev pub Step : Dossier → Event → Dossier → Type 0
Step (opened s) e after = OpenTakes s e after
Step (settled s) e after = SettledTakes s e after

-- the runs from a new dossier on, the newest call first, and the dossier that each leads to
pub data Run : List Event → Dossier → Type 0 where
  begun : Run [] (opened blank)
  then : {es : List Event} {e : Event} {s t : Dossier} → Run es s → Step s e t → Run (e ∷ es) t
