use Rattle.std.proofs.Common.{ap, ◌∙◌}
use Rattle.dossier.specs.Models.{content_of}
use Rattle.dossier.proofs.Blanks.{none_default, blank_tally}
use Rattle.dossier.proofs.reporting.tally_in.Goals as goal

pub returns-in_default : goal.returns-in_default
returns-in_default g c =
    none_default c.default.result c.default.ensures
    ∙ blank_tally (g.J.Judge.meaning c.args.judge.now) (content_of c.args.held.now) (ap content_of c.in_default.is)
