use Rattle.std.proofs.Common.{rules, get_or}
use Rattle.sha256.specs.Words.{◌⊞◌}
use Rattle.sha256.specs.Sha256.{added}
use Rattle.sha256.proofs.Calls.{from_fn_is}
use Rattle.sha256.proofs.compression.«add».Goals as goal

pub returns : goal.returns
unfolding added
returns c =
    from_fn_is _ (λ i. get_or c.args.x i 0 ⊞ get_or c.args.y i 0) _ c.from_fn.result 8 (λ i r q lt k. search rules) c.from_fn.ensures.items
