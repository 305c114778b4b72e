use Rattle.runs.specs.Runs.{begun}
use Rattle.runs.proofs.runs_begin.Goals as goal

pub returns : goal.returns
returns c = begun
