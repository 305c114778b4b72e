use Rattle.dossier.specs.Models.{content_of}
use Rattle.history.specs.Scripts.{taken, not_taken, an_add, a_settle}
use Rattle.history.proofs.Scripting.{untaken_open}
use Rattle.history.proofs.making.on_open.Goals as goal

pub returns-in-Add : goal.returns-in-Add
returns-in-Add g c = rw c.in-Add.is (taken _ an_add c.add-answer.ensures)

pub returns-in-Settle : goal.returns-in-Settle
returns-in-Settle g c = rw c.in-Settle.is (taken _ a_settle c.settle.ensures)

pub returns-in_default : goal.returns-in_default
returns-in_default g c = not_taken (untaken_open g.J.Judge.meaning (content_of c.args.dossier.held) c.args.call.now c.in_default.not-Add c.in_default.not-Settle)
