use Rattle.std.proofs.Common.{ap, ◌∙◌}
use Rattle.std.proofs.lemmas.Result.{err_from_is_err_and}
use Rattle.proof.specs.Heads.{headed}
use Rattle.gather.proofs.Wholes.{start_fault, top_head}
use Rattle.gather.proofs.scan.top.Goals as goal

pub returns-in_err-walk : goal.returns-in_err-walk
returns-in_err-walk c =
    let p = err_from_is_err_and c.from_residual.result c.from_residual.ensures.1 in
    rw (p.1, p.2) (start_fault c.args.file.now _ _ c.in_err-walk.ensures.reads)

pub returns : goal.returns
returns c =
    let s = c.requires in
    (s.0, (s.1, ap headed c.head.ensures ∙ top_head c.args.file.now s.0 _ _ s.1 c.in_ok-walk.ensures.reads))
