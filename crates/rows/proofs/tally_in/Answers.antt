use Rattle.std.proofs.Common.{◌∙◌, sym, arith}
use Rattle.claims.specs.Models.{node}
use Rattle.runs.specs.Contents.{claims_in}
use Rattle.rows.specs.Models.{content_lent}
use Rattle.rows.proofs.Tallied.{row_there, claims_counted, counting_more, counting_all}
use Rattle.rows.proofs.Walks.{walkable}
use Rattle.rows.proofs.tally_in.Goals as goal

pub count_node-k-end-requires : goal.count_node-k-end-requires
count_node-k-end-requires g c =
    let a = c.args.about in
    let w = walkable a.digest.now (node a.top.now) a.kept in
    omega (arith, w.few)

pub unwrap-row-requires : goal.unwrap-row-requires
unwrap-row-requires g c =
    let a = c.args.about in
    let n = claims_counted a.digest.now (node a.top.now) _ a.kept c.count_node-k-end.ensures in
    rw c.row_in.ensures (row_there (g.J.Judge.meaning c.args.judge.now) a.digest.now (claims_in (content_lent a)) c.loop-k.k (omega (arith, n.all)))

pub counted-tally-requires : goal.counted-tally-requires
counted-tally-requires g c =
    let a = c.args.about in
    let n = claims_counted a.digest.now (node a.top.now) _ a.kept c.count_node-k-end.ensures in
    let f = n.few in
    let w = c.loop-k.invariant.within in
    (omega arith, (omega arith, (omega arith, omega arith)))

pub loop-k-preserved : goal.loop-k-preserved
loop-k-preserved g c =
    let a = c.args.about in
    counting_more (g.J.Judge.meaning c.args.judge.now) a.digest.now (claims_in (content_lent a)) c.loop-k.invariant
    (sym c.unwrap-row.ensures ∙ c.row_in.ensures) c.counted-tally.ensures

pub returns : goal.returns
returns g c =
    let a = c.args.about in
    let n = claims_counted a.digest.now (node a.top.now) _ a.kept c.count_node-k-end.ensures in
    counting_all (g.J.Judge.meaning c.args.judge.now) a.digest.now (claims_in (content_lent a)) c.loop-k.invariant (omega (arith, n.all))
