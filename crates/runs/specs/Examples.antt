-- A sheet to try: one claim of height 0, confirmed at the time of the first block.
use Rattle.std.specs.Prelude.{◌≡◌, [], ◌∷◌, ◌++◌, Some, codes}
use Rattle.format.specs.Attestations.{bitcoin_tag}
use Rattle.judge.specs.declared.verdict.Verdict.TheVariants.{Confirmed}
use Rattle.runs.specs.declared.report.Row.{Row}
use Rattle.runs.specs.Reports.{date, tally}
use Rattle.runs.specs.Sheets.{lines_from, last_line, line_end}

abbrev pub first_row : Row
first_row = record { tag = bitcoin_tag; operations = 0; verdict = Confirmed 1231006505 }

abbrev pub FirstSheet : Type 0
FirstSheet =
    lines_from 0 (first_row ∷ []) ++ last_line (tally 1 0 0 0 (Some (date 1231006505 0)))
    ≡ (codes "0 0588960d73d71901 0 confirmed 1231006505" ++ line_end) ++ (codes "confirmed 1 rejected 0 waiting 0 foreign 0" ++ line_end)
