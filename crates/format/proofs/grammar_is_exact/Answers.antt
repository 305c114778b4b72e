use Rattle.format.proofs.grammar_is_exact.Goals as goal
use Rattle.format.proofs.GrammarIsExact.{exact}

pub returns : goal.returns
returns c = exact
