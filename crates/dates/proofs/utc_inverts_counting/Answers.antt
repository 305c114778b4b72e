use Rattle.dates.proofs.Inverses.{utc_inverts_counting}
use Rattle.dates.proofs.utc_inverts_counting.Goals as goal

pub returns : goal.returns
returns c = utc_inverts_counting
