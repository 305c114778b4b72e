use Rattle.std.proofs.Common.{rules, ◌∙◌, ◌/◌, length}
use Rattle.std.specs.Simd.{first_chunks}
use Rattle.std.proofs.lemmas.Iterator.{YieldsList-from_slice}
use Rattle.std.proofs.lemmas.Iterator.Consumers.{fold_from_yields_List}
use Rattle.sha256.specs.Sha256.{block_step}
use Rattle.sha256.proofs.Blocks.{fold_blocks}
use Rattle.sha256.proofs.compression.compress_blocks.Goals as goal

pub returns : goal.returns
returns c =
    let bytes = c.args.bytes.now in
    fold_from_yields_List {v = λ y. y.now} _ block_step c.args.hash c.fold.result c.fold.ensures.ran (YieldsList-from_slice (first_chunks 64 (length bytes / 64) bytes) (c.iter.ensures.rest ∙ c.as_chunks.ensures.front)) (λ a x b q k. search rules)
    ∙ fold_blocks c.args.hash bytes (length bytes / 64)
