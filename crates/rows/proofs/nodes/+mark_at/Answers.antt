use Rattle.std.proofs.Common.{◌-◌, sym, ap, ◌∙◌, arith}
use Rattle.std.specs.List.{slice_get}
use Rattle.claims.specs.declared.tree.Mark.{out-Mark}
use Rattle.claims.specs.Models.{att, atts}
use Rattle.claims.proofs.Levels.{mark_level}
use Rattle.rows.proofs.Places.{nth_next}
use Rattle.rows.proofs.nodes.+mark_at.Goals as goal

pub returns-else-k-eq0 : goal.returns-else-k-eq0
returns-else-k-eq0 t c =
    let m = c.in_ok-mark.mark.now.value in
    c.mark_at.ensures
    ∙ ap (λ z. slice_get (atts (out-Mark z).rest) (c.args.k - 1)) c.deref-else-k-eq0.ensures
    ∙ nth_next (att (out-Mark m).attestation) (atts (out-Mark m).rest) (atts c.args.marks.now) c.args.k (c.args.k - 1)
    (ap atts (sym c.in_ok-mark.ensures.value) ∙ mark_level m) (omega arith)
