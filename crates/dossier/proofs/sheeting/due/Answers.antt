use Rattle.std.proofs.Common.{length, ap, ◌∙◌}
use Rattle.runs.specs.declared.report.Tally.{Tally}
use Rattle.runs.specs.Sheets.{last_line}
use Rattle.dossier.specs.Models.{content_of}
use Rattle.dossier.proofs.Blanks.{none_default, blank_sheet}
use Rattle.dossier.proofs.sheeting.due.Goals as goal

pub returns-in-None : goal.returns-in-None
returns-in-None g c =
    c.last_length.ensures.value
    ∙ (ap (λ (t : Tally). length (last_line t)) (none_default c.default.result c.default.ensures)
    ∙ ap length (blank_sheet (g.J.Judge.meaning c.args.judge.now) (content_of c.args.held.now) (ap content_of c.in-None.is)))
