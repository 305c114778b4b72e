use Rattle.sha256.proofs.Blocks.{padding_least}
use Rattle.sha256.proofs.padding_is_least.Goals as goal

pub returns : goal.returns
returns c = padding_least
