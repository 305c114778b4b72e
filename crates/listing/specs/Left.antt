-- The lines of a sheet that are still to come.
use Rattle.std.specs.Prelude.{ℕ, List, drop}
use Rattle.judge.specs.Meaning.{Meaning}
use Rattle.runs.specs.Contents.{Content}
use Rattle.runs.specs.Reports.{rows_in}
use Rattle.runs.specs.Sheets.{lines_from}

-- from the k-th row on
abbrev pub lines_left : Meaning → Content → ℕ → List ℕ
lines_left m s k = lines_from k (drop k (rows_in m s))
