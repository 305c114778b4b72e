use Rattle.runs.proofs.sheet_to_try.Goals as goal
use Rattle.runs.proofs.Trying.{first_sheet}

pub returns : goal.returns
returns c = first_sheet
