use Rattle.std.proofs.Common.{string_bytes, refl, arith}
use Rattle.account.specs.Words.{hex_of}
use Rattle.account.proofs.Pushing.{hex_more, hex_all, finally, grown, grown_twice, onward_at}
use Rattle.account.proofs.words.push_hex.Goals as goal

pub loop-b-preserved : goal.loop-b-preserved
loop-b-preserved c =
    let more = hex_more c.args.bytes.now c.loop-b.b-index (omega arith) in
    let high = grown _ _ _ _ _ c.in_ok-push.ensures.bytes (c.in_ok-push.ensures.ascii c.digit.ensures.ascii) c.digit.ensures.value in
    let low = grown _ _ _ _ _ c.in_ok-push-2.ensures.bytes (c.in_ok-push-2.ensures.ascii c.digit-in-loop-b.ensures.ascii) c.digit-in-loop-b.ensures.value in
    onward_at (string_bytes c.args.out.now) (hex_of c.args.bytes.now) _ _ _ _ _ c.loop-b.invariant more (grown_twice _ _ _ _ _ high low)

pub returns : goal.returns
returns c = finally (string_bytes c.args.out.now) (hex_of c.args.bytes.now) _ _ c.loop-b.invariant (hex_all c.args.bytes.now c.loop-b.b-index (omega arith))

pub loop-b-init : goal.loop-b-init
loop-b-init c = refl
