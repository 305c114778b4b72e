use Rattle.std.proofs.Common.{◌≡◌, ◌+◌, ◌-◌, refl, subst, arith}
use Rattle.replay.proofs.Digits.{Turning, turning_none, turning_more, turning_all}
use Rattle.replay.proofs.operations.hexlify.Goals as goal

pub loop-i-init : goal.loop-i-init
loop-i-init c = turning_none c.args.work.now c.args.size (omega arith)

pub loop-i-preserved : goal.loop-i-preserved
loop-i-preserved c =
    let e = c.args.work.now in
    let w = c.loop-i.work in
    let j = c.loop-i.i - 1 in
    let up : c.loop-i.i ≡ j + 1 = omega arith in
    let inv : Turning e c.args.size w (j + 1) = subst (Turning e c.args.size w) up c.loop-i.invariant in
    turning_more e w c.args.size j c.hex_digit-in-loop-i.result c.hex_digit.result (omega arith) (omega arith) inv c.hex_digit-in-loop-i.ensures c.hex_digit.ensures

pub returns : goal.returns
returns c = record { value = refl; message = turning_all c.args.work.now c.loop-i.work c.args.size c.loop-i.i (omega arith) c.loop-i.invariant }
