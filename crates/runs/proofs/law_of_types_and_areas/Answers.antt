use Rattle.runs.proofs.law_of_types_and_areas.Goals as goal
use Rattle.runs.proofs.Laws.{carried}

pub returns : goal.returns
returns c = carried
