use Rattle.headers.proofs.Extending.{more_bytes_extend_the_run}
use Rattle.headers.proofs.more_bytes_extend_the_run.Goals as goal

pub returns : goal.returns
returns c = more_bytes_extend_the_run
