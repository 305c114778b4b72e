-- The sheet: a line for each row, then the counts.
use Rattle.std.specs.Prelude.{◌≡◌, ℕ, ◌+◌, cond, List, [], ◌∷◌, ◌++◌, length, codes, decimal, nat_lt}
use Rattle.format.specs.Operations.{message_limit}
use Rattle.replay.specs.Messages.{digits}
use Rattle.replay.specs.Areas.{left}
use Rattle.judge.specs.declared.verdict.Verdict.{Verdict}
use Rattle.judge.specs.declared.verdict.Verdict.TheVariants.{Confirmed, Rejected, Waiting, Foreign}
use Rattle.judge.specs.Meaning.{Meaning}
use Rattle.runs.specs.declared.report.Row.{Row}
use Rattle.runs.specs.declared.report.Tally.{Tally}
use Rattle.runs.specs.Contents.{Content}
use Rattle.runs.specs.Answers.{Answer, fitted, placed}
use Rattle.runs.specs.Reports.{rows_in, tally_in, worked}

-- what parts the fields of a line, and what ends it
abbrev pub space : List ℕ
space = 0x20 ∷ []

abbrev pub line_end : List ℕ
line_end = 0x0a ∷ []

-- the word of a verdict, and its time where it is confirmed
abbrev pub verdict_text : Verdict → List ℕ
verdict_text (Confirmed time) = codes "confirmed" ++ (space ++ decimal time)
verdict_text Rejected = codes "rejected"
verdict_text Waiting = codes "waiting"
verdict_text Foreign = codes "foreign"

-- the row's number, its tag in hexadecimal digits, its operations and its verdict
abbrev pub line_of : ℕ → Row → List ℕ
line_of k r =
    decimal k ++ (space ++ (digits r.tag ++ (space ++ (decimal r.operations ++ (space ++ (verdict_text r.verdict ++ line_end))))))

-- the lines of the rows from the k-th on
unfoldable pub lines_from : ℕ → List Row → List ℕ
lines_from k [] = []
lines_from k (r ∷ rs) = line_of k r ++ lines_from (k + 1) rs

-- a word and its count
abbrev pub count_text : List ℕ → ℕ → List ℕ
count_text word n = word ++ (space ++ decimal n)

abbrev pub last_line : Tally → List ℕ
last_line t =
    count_text (codes "confirmed") t.confirmed ++ (space ++ (count_text (codes "rejected") t.rejected
    ++ (space ++ (count_text (codes "waiting") t.waiting ++ (space ++ (count_text (codes "foreign") t.foreign ++ line_end))))))

abbrev pub sheet_in : Meaning → Content → List ℕ
sheet_in m s = lines_from 0 (rows_in m s) ++ last_line (tally_in m s)

-- 18, then the length of the sheet, or 16
abbrev pub listing : Meaning → Content → List ℕ → List ℕ → Answer ℕ
listing m s out work = worked work (fitted (sheet_in m s) out)

-- the out area afterwards; it is kept on 18
abbrev pub listing_leaves : Meaning → Content → List ℕ → List ℕ → List ℕ
listing_leaves m s out work = cond (nat_lt (length work) message_limit) out (placed (sheet_in m s) out)

pub record Listed (s : Content) (m : Meaning) (lent spare : List ℕ) (r : Answer ℕ) (out_after work_after : List ℕ) : Type 0 where
  pub answer : r ≡ listing m s lent spare
  pub out : out_after ≡ listing_leaves m s lent spare
  pub work : work_after ≡ left spare
