use Rattle.std.proofs.Common.{length, ap, arith}
use Rattle.claims.specs.Models.{node}
use Rattle.rows.specs.Models.{content_lent}
use Rattle.listing.proofs.Listed.{left_none, rows_all}
use Rattle.listing.proofs.lines.lines_length.Goals as goal

pub returns-after-loop-k-clause-value : goal.returns-after-loop-k-clause-value
returns-after-loop-k-clause-value g c =
    let l = ap length (rows_all (g.J.Judge.meaning c.args.judge.now) c.args.about.digest.now (node c.args.about.top.now) c.loop-k.k (omega arith) c.args.about.kept) in
    omega arith

pub returns-in_default-clause-value : goal.returns-in_default-clause-value
returns-in_default-clause-value g c =
    let s = content_lent c.args.about in
    let l = ap length (left_none (g.J.Judge.meaning c.args.judge.now) s c.loop-k.k c.in_default.ensures.value) in
    omega arith
