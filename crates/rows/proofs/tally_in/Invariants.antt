use Rattle.runs.specs.Contents.{top_in, claims_in}
use Rattle.runs.specs.Reports.{verdict_on}
use Rattle.rows.specs.Models.{content_lent}
use Rattle.rows.proofs.Tallied.{Counting}
use Rattle.rows.proofs.tally_in.Given as goal

abbrev pub invariant-loop-k : goal.invariant-loop-k
invariant-loop-k g l =
    let s = content_lent l.about in
    Counting (verdict_on (g.J.Judge.meaning l.judge) (top_in s)) (claims_in s) l.k l.tally
