use Rattle.std.proofs.Common.{◌-◌, refl, ◌∙◌, arith}
use Rattle.written.proofs.writer.Writer.number.Goals as goal
use Rattle.written.proofs.Numbers.{start, turn, due, some, stop, going_at}

pub loop-left-init : goal.loop-left-init
loop-left-init c = (refl, (refl, (4, start _ _ _ (omega arith))))

pub byte-requires : goal.byte-requires
byte-requires c =
    let (same, (long, (k, g))) = c.loop-left.invariant in
    let l = g.long in let s = some c.loop-left.left k in omega arith

pub loop-left-preserved : goal.loop-left-preserved
loop-left-preserved c =
    let (same, (long, (k, g))) = c.loop-left.invariant in let m = c.byte.ensures.moved in
    let d = due c.loop-left.left k (omega arith) g.fits in
    (m.0 ∙ same, (m.1.0 ∙ long, (k - 1, going_at (turn _ _ _ _ _ _ k (k - 1) (omega arith) (omega arith) g) c.byte.ensures.front m.1.1)))

pub byte-requires-2 : goal.byte-requires-2
byte-requires-2 c =
    let (same, (long, (k, g))) = c.loop-left.invariant in
    let l = g.long in let s = some c.loop-left.left k in omega arith

pub returns-clause-moved : goal.returns-clause-moved
returns-clause-moved c =
    let (same, (long, (k, g))) = c.loop-left.invariant in let m = c.byte-2.ensures.moved in
    (m.0 ∙ same, (m.1.0 ∙ long, m.1.1 ∙ (stop _ _ _ _ _ _ k (omega arith) g).0))

pub returns-clause-front : goal.returns-clause-front
returns-clause-front c =
    let (same, (long, (k, g))) = c.loop-left.invariant in
    c.byte-2.ensures.front ∙ (stop _ _ _ _ _ _ k (omega arith) g).1
