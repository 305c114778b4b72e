use Rattle.std.proofs.Common.{◌≡◌, ◌+◌, ◌-◌, ◌*◌, ◌≤◌, take, drop, ap, ◌∙◌, arith}
use Rattle.sha256.specs.Sha256.{K, extended, rounds}
use Rattle.sha256.specs.Working.{window}
use Rattle.sha256.proofs.Windows.{window_none, window_add}
use Rattle.sha256.proofs.Rounds.{rounds_none, rounds_window, row_at}
use Rattle.sha256.proofs.compression.all_rounds.Goals as goal
use Rattle.sha256.proofs.compression.all_rounds.Goals.{then-j-gt0, else-j-gt0}

pub loop-j-init : goal.loop-j-init
loop-j-init c =
    let first = c.args.first in
    (rounds_none c.args.hash K (extended first 48), window_none first)

pub loop-j-preserved : goal.loop-j-preserved
loop-j-preserved c =
    let first = c.args.first in
    let j = c.loop-j.j in
    let w = c.if-j-gt0.w in
    let here : w ≡ window first (16 * j) =
    elim c.if-j-gt0.branch [
      | then-j-gt0 y ↦
          let sum : 16 * (j - 1) + 16 ≡ 16 * j = omega (arith, y.if-j-gt0.true) in
          y.w-is ∙ y.next_window-next.ensures ∙ ap (λ x. window x 16) c.loop-j.invariant.1
          ∙ window_add first (16 * (j - 1)) 16 ∙ ap (window first) sum
      | else-j-gt0 y ↦
          let same : 16 * (j - 1) ≡ 16 * j = omega (arith, y.if-j-gt0.false) in
          y.w-is ∙ c.loop-j.invariant.1 ∙ ap (window first) same
    ] in
    let after : 16 * j + 16 ≡ 16 * (j + 1) = omega arith in
    let before : j ≡ j + 1 - 1 = omega arith in
    let le : 16 * j ≤ 48 = omega arith in (
      rounds_window c.args.hash first (16 * j) (omega arith) le c.loop-j.invariant.0
          (c.sixteen_rounds-after.ensures
          ∙ ap (λ k. rounds c.loop-j.v k w 16) (row_at j _ (omega arith))
          ∙ ap (λ x. rounds c.loop-j.v (take 16 (drop (16 * j) K)) x 16) here)
          ∙ ap (rounds c.args.hash K (extended first 48)) after,
      here ∙ ap (λ n. window first (16 * n)) before,
    )

pub returns : goal.returns
returns c =
    let all : 16 * c.loop-j.j ≡ 64 = omega arith in
    c.loop-j.invariant.0 ∙ ap (rounds c.args.hash K (extended c.args.first 48)) all
