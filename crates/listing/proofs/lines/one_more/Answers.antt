use Rattle.rows.specs.Models.{content_lent}
use Rattle.listing.proofs.Listed.{more_long}
use Rattle.listing.proofs.lines.one_more.Goals as goal

pub returns : goal.returns
returns g c = more_long (g.J.Judge.meaning c.args.judge.now) (content_lent c.args.about) c.args.k c.args.row.now c.requires
