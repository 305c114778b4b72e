-- What is reported of a blank dossier, or where there is no row.
use Rattle.std.proofs.Common.{◌≡◌, Some, None, Option, sym, refl, ap}
use Rattle.std.specs.Option.{ok_or}
use Rattle.judge.specs.Meaning.{Meaning}
use Rattle.runs.specs.Contents.{Content, blank}
use Rattle.runs.specs.declared.report.Row.{Row}
use Rattle.runs.specs.declared.report.Tally.{Tally}
use Rattle.runs.specs.Reports.{as_row, tally, none_counted, tallied, tally_in}
use Rattle.runs.specs.Sheets.{lines_from, last_line, sheet_in}
use Rattle.dossier.specs.declared.refusal.Refusal.TheVariants.{NoRow}
use Rattle.dossier.specs.Refusals.{answered}

-- nothing counted is what a tally is by default
pub none_default : (t : Tally) → (t.confirmed ≡ 0) × ((t.rejected ≡ 0) × ((t.waiting ≡ 0) × ((t.foreign ≡ 0) × (t.date ≡ None)))) → t ≡ none_counted
none_default t h = λ i. tally (h.0 i) (h.1.0 i) (h.1.1.0 i) (h.1.1.1.0 i) (h.1.1.1.1 i)

pub blank_tally : (m : Meaning) (s : Content) → s ≡ blank → none_counted ≡ tally_in m s
unfolding tallied
blank_tally m s e = ap (λ (z : Content). tally_in m z) (sym e)

pub blank_sheet : (m : Meaning) (s : Content) → s ≡ blank → last_line none_counted ≡ sheet_in m s
unfolding tallied lines_from
blank_sheet m s e = ap (λ (z : Content). sheet_in m z) (sym e)

-- a row, or the refusal where there is none
pub row_or : (r : Option Row) → answered (ok_or r NoRow) ≡ as_row r
row_or None = refl
row_or (Some row) = refl
