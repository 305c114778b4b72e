use Rattle.std.proofs.Common.{rules, ◌/◌, ◌%◌, get_or, ◌∙◌, arith}
use Rattle.sha256.specs.Words.{word_bytes}
use Rattle.sha256.proofs.Calls.{from_fn_is}
use Rattle.sha256.proofs.Tails.{digest_is}
use Rattle.sha256.proofs.digest_bytes.Goals as goal

pub returns : goal.returns
returns c =
    let hash = c.args.hash in
    from_fn_is _ (λ i. get_or (word_bytes (get_or hash (i / 4) 0)) (i % 4) 0) _ c.from_fn.result 32 (λ i r q lt k. search rules) c.from_fn.ensures.items
    ∙ digest_is hash (omega arith)
