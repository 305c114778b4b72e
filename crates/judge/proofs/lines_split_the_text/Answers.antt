use Rattle.judge.proofs.Lines.{lines_split_the_text}
use Rattle.judge.proofs.lines_split_the_text.Goals as goal

pub returns : goal.returns
returns c = lines_split_the_text
