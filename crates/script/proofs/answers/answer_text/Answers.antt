use Rattle.std.proofs.Common.{refl}
use Rattle.script.proofs.answers.answer_text.Goals as goal

pub returns-in-Ok : goal.returns-in-Ok
returns-in-Ok g c = rw c.in-Ok.is (_, c.granted.ensures, refl)
