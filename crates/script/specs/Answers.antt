-- The text of an answer: the same in every implementation.
use Rattle.std.specs.Prelude.{ℕ, List, ◌++◌, length, Some, None, Ok, Err, codes, decimal, Option, Result}
use Rattle.sha256.specs.Sha256.{sha256}
use Rattle.runs.specs.declared.report.Row.{Row}
use Rattle.runs.specs.declared.report.Date.{Date}
use Rattle.runs.specs.declared.report.Tally.{Tally}
use Rattle.runs.specs.Sheets.{verdict_text}
use Rattle.dossier.specs.declared.refusal.Refusal.{Refusal}
use Rattle.dossier.specs.Refusals.{place_of}
use Rattle.account.specs.Words.{hex_of}
use Rattle.account.specs.Refusals.{refused_line}
use Rattle.script.specs.declared.answers.Remark.{Remark}
use Rattle.script.specs.declared.answers.Remark.TheVariants.{WhileSettled, WhileOpen, NoCall, Unread, Unwritten}

-- what is said of a line that is not granted and not refused
abbrev pub remark_text : Remark → List ℕ
remark_text WhileSettled = codes "not taken while settled"
remark_text WhileOpen = codes "not taken while open"
remark_text NoCall = codes "not a call"
remark_text Unread = codes "cannot be read"
remark_text Unwritten = codes "cannot be written"

-- a number at an offset; want of memory has none
abbrev pub refused_text : Option (ℕ × ℕ) → List ℕ
refused_text (Some place) = refused_line place.0 place.1
refused_text None = codes "refused for want of memory"

abbrev pub refusal_text : Refusal → List ℕ
refusal_text e = refused_text (place_of e)

-- the text of a value that is granted, or of the refusal
abbrev pub answer_text : {A : Type 0} → (A → List ℕ) → Result A Refusal → List ℕ
answer_text show (Ok x) = show x
answer_text show (Err e) = refusal_text e

-- a call that gives nothing
abbrev pub added_text : {A : Type 0} → Result A Refusal → List ℕ
added_text = answer_text (λ _. codes "granted")

-- the tag of a row, its operations and its verdict
abbrev pub granted_row : Row → List ℕ
granted_row r = codes "granted " ++ (hex_of r.tag ++ (codes " " ++ (decimal r.operations ++ (codes " " ++ verdict_text r.verdict))))

abbrev pub row_text : Result Row Refusal → List ℕ
row_text = answer_text granted_row

-- the number of claims under each verdict
abbrev pub counts_text : Tally → List ℕ
counts_text t =
    codes "confirmed " ++ (decimal t.confirmed ++ (codes " rejected " ++ (decimal t.rejected
    ++ (codes " waiting " ++ (decimal t.waiting ++ (codes " foreign " ++ decimal t.foreign))))))

-- the first date and its row
abbrev pub date_text : Option Date → List ℕ
date_text (Some d) = codes "date " ++ (decimal d.time ++ (codes " row " ++ decimal d.row))
date_text None = codes "date none"

abbrev pub granted_tally : Tally → List ℕ
granted_tally t = codes "granted " ++ (counts_text t ++ (codes " " ++ date_text t.date))

abbrev pub tally_text : Result Tally Refusal → List ℕ
tally_text = answer_text granted_tally

abbrev pub hash_text : List ℕ → List ℕ
hash_text bytes = codes "sha256 " ++ hex_of (sha256 bytes)

abbrev pub size_text : ℕ → List ℕ
size_text n = codes "granted " ++ (decimal n ++ codes " bytes")

-- the length and the hash of bytes that were written
abbrev pub bytes_text : List ℕ → List ℕ
bytes_text bytes = size_text (length bytes) ++ (codes ", " ++ hash_text bytes)
