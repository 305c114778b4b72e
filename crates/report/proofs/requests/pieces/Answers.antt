use Rattle.std.proofs.Common.{◌++◌, vec_items, sym, ap, ◌∙◌, arith}
use Rattle.std.proofs.lemmas.List.{take_rest}
use Rattle.report.specs.Options.{is_piece}
use Rattle.report.specs.Requests.{behind, pieces_of}
use Rattle.report.proofs.Walks.{front, kept, left_out, all_kept}
use Rattle.report.proofs.requests.pieces.Goals as goal
use Rattle.report.proofs.requests.pieces.Goals.{then-piece+in_ok-push, else-piece}

pub loop-left-preserved : goal.loop-left-preserved
loop-left-preserved c =
    let left = c.loop-left.left.now in
    let n = c.behind-left.ensures ∙ ap (behind (front left).now) (take_rest left 1) in
    let b = ap is_piece (sym c.name_of.ensures) ∙ sym c.piece.ensures in
    elim c.if-piece.branch [
      | then-piece+in_ok-push w ↦ kept left c.behind-left.result.now _ (vec_items c.loop-left.pieces) (vec_items c.if-piece.pieces) c.in-len1-up.len_at_least (b ∙ w.if-piece.true) n (ap vec_items w.pieces-is ∙ w.in_ok-push.ensures.items) c.loop-left.invariant
      | else-piece w ↦ left_out left c.behind-left.result.now _ (vec_items c.loop-left.pieces) (vec_items c.if-piece.pieces) c.in-len1-up.len_at_least (b ∙ w.if-piece.false) n (ap vec_items w.pieces-is) c.loop-left.invariant
    ]

pub returns : goal.returns
returns c =
    all_kept c.loop-left.left.now _ _ (omega (arith, c.in_default.len_below)) (ap (λ z. z ++ pieces_of c.args.words.now) (sym c.new-pieces.ensures.items) ∙ c.loop-left.invariant)
