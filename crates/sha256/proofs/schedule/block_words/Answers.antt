use Rattle.std.proofs.Common.{rules, ◌*◌, ap, ◌∙◌}
use Rattle.std.specs.Int.{from_be_bytes, w32}
use Rattle.sha256.specs.Words.{word_at}
use Rattle.sha256.proofs.Calls.{from_fn_is, chunk_at, word_is}
use Rattle.sha256.proofs.schedule.block_words.Goals as goal

pub returns : goal.returns
returns c =
    from_fn_is _ (λ t. word_at c.args.block.now (4 * t)) _ c.from_fn.result 16 (λ t r q lt k. let e = ap (from_be_bytes w32) (chunk_at 4 16 t c.args.block.now lt) ∙ word_is c.args.block.now (4 * t) in search (rules, e)) c.from_fn.ensures.items
