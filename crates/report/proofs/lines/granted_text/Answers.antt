use Rattle.std.proofs.Common.{rules}
use Rattle.report.specs.Lines.{granted_text}
use Rattle.report.proofs.lines.granted_text.Goals as goal

pub returns : goal.returns
unfolding granted_text
returns c = search rules
