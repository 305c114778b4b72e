use Rattle.std.proofs.Common.{sym, ◌∙◌, arith}
use Rattle.headers.proofs.Little.{little_four}
use Rattle.headers.proofs.header.number.Goals as goal

pub returns : goal.returns
returns c = c.from_le_bytes.ensures ∙ sym (little_four c.args.bytes.now (omega arith))
