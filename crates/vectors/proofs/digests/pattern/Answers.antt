use Rattle.std.proofs.Common.{rules}
use Rattle.vectors.proofs.digests.pattern.Goals as goal

pub returns : goal.returns
returns c = λ i h. let called = (c.from_fn.ensures.items.at i 0 h).2 in search rules
