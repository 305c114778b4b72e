use Rattle.std.proofs.Common.{◌≡◌, length, take, ap, ◌∙◌}
use Rattle.format.specs.Operations.{op_of, result_size}
use Rattle.claim_trees.specs.Order.{kind_of_op, argument_of}
use Rattle.claims.specs.Models.{op}
use Rattle.replay.specs.Messages.{apply}
use Rattle.rows.proofs.Places.{parted}
use Rattle.rows.proofs.steps.step.Goals as goal

pub returns : goal.returns
returns c =
    let o = op c.args.operation.now in
    let k : c.kind.result ≡ kind_of_op o = c.kind.ensures in
    let a : c.argument.result.now ≡ argument_of o = c.argument.ensures in
    let m = take c.args.size c.args.work.now in
    record {
      value = c.apply.ensures.value
          ∙ ap (λ z. result_size z c.args.size (length c.argument.result.now)) k
          ∙ ap (λ z. result_size (kind_of_op o) c.args.size (length z)) a;
      message = c.apply.ensures.message
          ∙ ap (λ z. apply (op_of z c.argument.result.now) m) k
          ∙ ap (λ z. apply (op_of (kind_of_op o) z) m) a
          ∙ ap (λ z. apply z m) (parted o);
    }
