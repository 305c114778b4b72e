use Rattle.std.proofs.Common.{◌≡◌, ◌%◌, ◌^◌, ◌<◌, length, max, refl, ◌∙◌, mul_comm, zero-add, arith}
use Rattle.std.proofs.lemmas.List.{length-set, get_or-set_other}
use Rattle.headers.specs.Targets.{little}
use Rattle.headers.proofs.Little.{place_zero, place_byte, place_below, zeros_read, no_room, room}
use Rattle.headers.proofs.targets.placed.Goals as goal
use Rattle.headers.proofs.targets.placed.Goals.{then-k-at, else-k-at}

pub loop-k-init : goal.loop-k-init
unfolding little
loop-k-init c =
    let m : max 0 c.args.at ≡ c.args.at = omega arith in
    record {
      long = refl;
      sum = rw m (zero-add _ ∙ mul_comm (256 ^ c.args.at) c.args.m);
      below = omega arith;
      zeros = λ i l. zeros_read 32 i;
    }

pub loop-k-preserved : goal.loop-k-preserved
loop-k-preserved c =
    let k = c.loop-k.k in
    let at = c.args.at in
    let xs = c.loop-k.byte-items in
    let inv = c.loop-k.invariant in
    let lt : k < length xs = omega (arith, inv.long) in
    elim c.if-k-at.branch [
      | then-k-at w ↦
          let b = c.loop-k.left % 256 in
          simp (w.byte-items-is, w.left-is) (record {
            long = length-set xs k b ∙ inv.long;
            sum = place_byte xs k at c.loop-k.left _ lt w.if-k-at.true inv.sum;
            below = place_below xs k b lt (omega arith) inv.below;
            zeros = λ i l. get_or-set_other xs k i b 0 (λ e. omega arith) ∙ inv.zeros i (omega arith);
          })
      | else-k-at w ↦
          let z = inv.zeros k (omega arith) in
          simp (w.byte-items-is, w.left-is, z) (record {
            long = length-set xs k 0 ∙ inv.long;
            sum = place_zero xs k at c.loop-k.left _ lt w.if-k-at.false inv.sum;
            below = place_below xs k 0 lt (omega arith) inv.below;
            zeros = λ i l. get_or-set_other xs k i 0 0 (λ e. omega arith) ∙ inv.zeros i (omega arith);
          })
    ]

pub returns-then-left-eq0 : goal.returns-then-left-eq0
returns-then-left-eq0 c =
    room c.loop-k.byte-items c.loop-k.k c.args.at c.loop-k.left _ c.loop-k.invariant.long (omega arith) c.if-left-eq0.true
    c.loop-k.invariant.sum c.loop-k.invariant.below

pub returns-else-left-eq0 : goal.returns-else-left-eq0
returns-else-left-eq0 c = no_room _ c.loop-k.k c.args.at c.loop-k.left _ (omega arith) c.if-left-eq0.false c.loop-k.invariant.sum
