-- The lines again as they are put part by part, each behind what stands there already, and how long they are.
use Rattle.std.specs.Prelude.{ℕ, ◌+◌, ◌*◌, List, ◌++◌, length, codes, decimal}
use Rattle.replay.specs.Messages.{digits}
use Rattle.judge.specs.declared.verdict.Verdict.{Verdict}
use Rattle.judge.specs.declared.verdict.Verdict.TheVariants.{Confirmed as ConfirmedAt, Rejected as IsRejected, Waiting as IsWaiting, Foreign as IsForeign}
use Rattle.runs.specs.declared.report.Row.{Row}
use Rattle.runs.specs.declared.report.Tally.{Tally}
use Rattle.runs.specs.Sheets.{space, line_end}
use Rattle.sheets.specs.declared.words.Word.{Word}
use Rattle.sheets.specs.declared.words.Word.TheVariants.{Confirmed, Rejected, Waiting, Foreign}

-- the letters of a word
unfoldable pub word_of : Word → List ℕ
word_of Confirmed = codes "confirmed"
word_of Rejected = codes "rejected"
word_of Waiting = codes "waiting"
word_of Foreign = codes "foreign"

-- the word of a verdict
abbrev pub word_for : Verdict → Word
word_for (ConfirmedAt time) = Confirmed
word_for IsRejected = Rejected
word_for IsWaiting = Waiting
word_for IsForeign = Foreign

-- how long a word, a space and a count are
abbrev pub count_length : Word → ℕ → ℕ
count_length word n = length (word_of word) + (1 + length (decimal n))

-- the three behind what stands there
abbrev pub count_onto : List ℕ → Word → ℕ → List ℕ
count_onto acc word n = ((acc ++ word_of word) ++ space) ++ decimal n

-- how long a verdict is, with its time where it is confirmed
abbrev pub verdict_length : Verdict → ℕ
verdict_length (ConfirmedAt time) = count_length Confirmed time
verdict_length IsRejected = length (word_of Rejected)
verdict_length IsWaiting = length (word_of Waiting)
verdict_length IsForeign = length (word_of Foreign)

-- a verdict behind what stands there
abbrev pub verdict_onto : List ℕ → Verdict → List ℕ
verdict_onto acc (ConfirmedAt time) = count_onto acc Confirmed time
verdict_onto acc IsRejected = acc ++ word_of Rejected
verdict_onto acc IsWaiting = acc ++ word_of Waiting
verdict_onto acc IsForeign = acc ++ word_of Foreign

-- a number and a space behind what stands there
abbrev pub field_onto : List ℕ → ℕ → List ℕ
field_onto acc n = (acc ++ decimal n) ++ space

-- how long the line of a row is, two digits for each byte of its tag
abbrev pub line_length : ℕ → Row → ℕ
line_length k r = (length (decimal k) + 1) + (2 * length r.tag + (1 + ((length (decimal r.operations) + 1) + (verdict_length r.verdict + 1))))

-- the line of a row behind what stands there
abbrev pub line_onto : List ℕ → ℕ → Row → List ℕ
line_onto acc k r = verdict_onto (field_onto ((field_onto acc k ++ digits r.tag) ++ space) r.operations) r.verdict ++ line_end

-- how long the last line is
abbrev pub last_length : Tally → ℕ
last_length t =
    (count_length Confirmed t.confirmed + 1) + ((count_length Rejected t.rejected + 1)
    + ((count_length Waiting t.waiting + 1) + (count_length Foreign t.foreign + 1)))

-- the last line behind what stands there
abbrev pub last_onto : List ℕ → Tally → List ℕ
last_onto acc t =
    count_onto (count_onto (count_onto (count_onto acc Confirmed t.confirmed ++ space) Rejected t.rejected ++ space) Waiting t.waiting ++ space)
    Foreign t.foreign ++ line_end
