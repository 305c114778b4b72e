-- The lines of a report.
use Rattle.std.specs.Prelude.{ℕ, cond, List, [], ◌++◌, length, Some, None, codes, decimal, Option, ◌==◌}
use Rattle.runs.specs.declared.report.Date.{Date}
use Rattle.runs.specs.declared.report.Tally.{Tally}
use Rattle.dossier.specs.declared.refusal.Refusal.{Refusal}
use Rattle.dossier.specs.declared.refusal.Refusal.TheVariants.{File, Differs, Large, Blank, Room, NoRow, Work, Memory}
use Rattle.account.specs.Refusals.{meaning}
use Rattle.coverage.specs.Lines.{time_text}
use Rattle.script.specs.Answers.{refusal_text}

-- a word for one claim or for several
abbrev pub claim_word : ℕ → List ℕ
claim_word n = cond (n == 1) (codes "claim") (codes "claims")

unfoldable pub claims_text : ℕ → List ℕ
claims_text n = decimal n ++ (codes " " ++ claim_word n)

unfoldable pub granted_text : ℕ → List ℕ
granted_text claims = codes "granted, " ++ claims_text claims

-- a file that was granted
abbrev pub piece_line : List ℕ → ℕ → List ℕ
piece_line path claims = path ++ (codes ": " ++ granted_text claims)

-- a refusal in words; want of memory needs none
abbrev pub reason : Refusal → List ℕ
reason (File f) = meaning f
reason (Differs at) = codes "digest differs"
reason Large = codes "size limit passed"
reason Blank = codes "dossier blank"
reason Room = codes "out area too short"
reason NoRow = codes "no such row"
reason Work = codes "work area too short"
reason Memory = []

-- words in brackets, where there are any
abbrev pub in_brackets : List ℕ → List ℕ
in_brackets words = cond (length words == 0) [] (codes " (" ++ (words ++ codes ")"))

-- a file that was refused
abbrev pub refused_line : List ℕ → Refusal → List ℕ
refused_line path e = path ++ (codes ": " ++ (refusal_text e ++ in_brackets (reason e)))

-- the number of claims under each verdict
abbrev pub counts_text : Tally → List ℕ
counts_text t =
    codes "confirmed " ++ (decimal t.confirmed ++ (codes ", rejected " ++ (decimal t.rejected
    ++ (codes ", waiting " ++ (decimal t.waiting ++ (codes ", foreign " ++ decimal t.foreign))))))

abbrev pub verdicts_line : Tally → List ℕ
verdicts_line t = codes "verdicts: " ++ counts_text t

-- the first date and its row
abbrev pub date_line : Option Date → List ℕ
date_line (Some d) = codes "date: " ++ (time_text d.time ++ (codes ", row " ++ decimal d.row))
date_line None = codes "date: none confirmed"

-- a file that was written
abbrev pub wrote_line : List ℕ → ℕ → List ℕ
wrote_line path n = codes "wrote " ++ (path ++ (codes ", " ++ (decimal n ++ codes " bytes")))
