use Rattle.std.proofs.Common.{sym, ap, ◌∙◌, rules}
use Rattle.std.proofs.lemmas.Bool.{lt-leb}
use Rattle.replay.proofs.Steps.{sized, fits_sized, sized_long, sized_fold}
use Rattle.replay.proofs.paths.fitting.Goals as goal

pub returns-then-size-le-ROOM : goal.returns-then-size-le-ROOM
returns-then-size-le-ROOM c = λ message long.
    let path = c.args.path.now in
    c.is_some.ensures
    ∙ sized_fold _ _ _ (λ n l r q k. search rules) c.iter.result _ c.args.size c.try_fold.result c.if-size-le-ROOM.true c.try_fold.ensures.ran
    ∙ ap (λ p. sized p c.args.size) c.iter.ensures.rest
    ∙ ap (sized path) (sym long)
    ∙ sym (fits_sized path message)

pub returns-else-size-le-ROOM : goal.returns-else-size-le-ROOM
returns-else-size-le-ROOM c = λ message long.
    let path = c.args.path.now in
    lt-leb c.args.size 4096 c.if-size-le-ROOM.false
    ∙ sym (fits_sized path message ∙ ap (sized path) long ∙ sized_long path c.args.size c.if-size-le-ROOM.false)
