use Rattle.std.proofs.Common.{length, sym, ap, ◌∙◌}
use Rattle.dossier.specs.Models.{content_of}
use Rattle.dossier.proofs.Blanks.{blank_sheet}
use Rattle.dossier.proofs.sheeting.put.Goals as goal

pub put_nothing-requires : goal.put_nothing-requires
put_nothing-requires g c =
    c.requires ∙ ap length (sym (blank_sheet (g.J.Judge.meaning c.args.judge.now) (content_of c.args.held.now) (ap content_of c.in-None.is)))

pub returns-in-None : goal.returns-in-None
returns-in-None g c = c.put_nothing.ensures ∙ blank_sheet (g.J.Judge.meaning c.args.judge.now) (content_of c.args.held.now) (ap content_of c.in-None.is)
