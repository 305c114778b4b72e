use Rattle.runs.proofs.law_of_runs.Goals as goal
use Rattle.runs.proofs.Laws.{law}

pub returns : goal.returns
returns c = law
