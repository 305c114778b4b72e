use Rattle.std.proofs.Common.{ap, sym, ◌∙◌}
use Rattle.std.specs.List.{slice_get}
use Rattle.runs.specs.Reports.{as_row, rows_in}
use Rattle.dossier.specs.Models.{content_of}
use Rattle.dossier.specs.Refusals.{answered}
use Rattle.dossier.proofs.Blanks.{row_or}
use Rattle.dossier.proofs.reporting.row_in.Goals as goal

pub returns : goal.returns
returns g c =
    let m = g.J.Judge.meaning c.args.judge.now in
    ap answered c.ok_or.ensures.value ∙ row_or c.row_of.result ∙ ap as_row c.row_of.ensures.value
    ∙ ap (λ s. as_row (slice_get (rows_in m s) c.args.k)) c.lent.ensures
    ∙ sym (ap (λ h. as_row (slice_get (rows_in m (content_of h)) c.args.k)) c.in-Some.is)
