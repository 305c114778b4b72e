use Rattle.std.proofs.Common.{rules, length, ap, arith}
use Rattle.claims.specs.Models.{node}
use Rattle.rows.specs.Models.{content_lent}
use Rattle.written.specs.Writers.{written}
use Rattle.listing.proofs.Listed.{left_none, rows_all, more_behind}
use Rattle.listing.proofs.lines.put_lines.Goals as goal

pub loop-k-preserved : goal.loop-k-preserved
loop-k-preserved g c =
    let m = g.J.Judge.meaning c.args.judge.now in
    let s = content_lent c.args.about in
    let b = more_behind m s c.loop-k.k c.in-Some.row (written c.loop-k.w) c.in-Some.ensures.value in
    search (b, rules)

pub returns-after-loop-k-clause-moved : goal.returns-after-loop-k-clause-moved
returns-after-loop-k-clause-moved g c =
    let l = ap length (rows_all (g.J.Judge.meaning c.args.judge.now) c.args.about.digest.now (node c.args.about.top.now) c.loop-k.k (omega arith) c.args.about.kept) in
    search (l, rules)

pub returns-after-loop-k-clause-front : goal.returns-after-loop-k-clause-front
returns-after-loop-k-clause-front g c =
    let l = rows_all (g.J.Judge.meaning c.args.judge.now) c.args.about.digest.now (node c.args.about.top.now) c.loop-k.k (omega arith) c.args.about.kept in
    search (l, rules)

pub returns-in_default-clause-moved : goal.returns-in_default-clause-moved
returns-in_default-clause-moved g c =
    let s = content_lent c.args.about in
    let l = ap length (left_none (g.J.Judge.meaning c.args.judge.now) s c.loop-k.k c.in_default.ensures.value) in
    search (l, rules)

pub returns-in_default-clause-front : goal.returns-in_default-clause-front
returns-in_default-clause-front g c =
    let s = content_lent c.args.about in
    let l = left_none (g.J.Judge.meaning c.args.judge.now) s c.loop-k.k c.in_default.ensures.value in
    search (l, rules)
