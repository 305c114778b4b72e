use Rattle.std.proofs.Common.{List, ◌++◌, refl, ap, ◌∙◌, arith, ℕ}
use Rattle.dossier.proofs.Outs.{leaves}
use Rattle.dossier.proofs.reporting.in_area.Goals as goal

pub returns-clause-some : goal.returns-clause-some
returns-clause-some g c h = (c.on_front.result, c.split_at_mut-front.result.0.now, c.on_front.new.front, refl, c.on_front.ensures)

pub returns-clause-work : goal.returns-clause-work
returns-clause-work g c =
    ap (λ (x : List ℕ). x ++ c.split_at_mut-front.result.1.now) c.drop-lent.ensures
    ∙ leaves c.args.work.now c.on_front.new.front c.split_at_mut-front.result.1.now c.if-work-lt-ROOM.false (omega arith) c.split_at_mut-front.ensures.back
