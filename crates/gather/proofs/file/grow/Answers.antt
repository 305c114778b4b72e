use Rattle.std.proofs.Common.{ap, ◌∙◌}
use Rattle.std.proofs.lemmas.Result.{err_from_is_err_and}
use Rattle.format.specs.Outcome.{got}
use Rattle.format.specs.Nodes.{node_at}
use Rattle.proof.specs.Heads.{headed}
use Rattle.gather.proofs.Wholes.{start_fault, top_node, grown}
use Rattle.gather.proofs.file.grow.Goals as goal

pub returns-in_err-walk : goal.returns-in_err-walk
returns-in_err-walk c =
    let p = err_from_is_err_and c.from_residual.result c.from_residual.ensures.1 in
    rw (p.1, p.2) (start_fault c.args.file.now _ _ c.in_err-walk.ensures.reads)

pub returns : goal.returns
returns c =
    let s = c.requires in
    let e = c.in_ok-walk.ensures.reads in
    grown c.args.file.now s.0 (node_at 0 32 c.args.file.now c.offset.result) c.read_node.result _ s.1
    (top_node c.args.file.now s.0 _ c.offset.result s.1 (ap (got (headed c.in_ok-walk.walk.head)) c.offset.ensures ∙ e))
    c.read_node.ensures.reads
