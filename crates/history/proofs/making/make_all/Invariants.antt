use Rattle.std.proofs.Common.{List, take, vec_items}
use Rattle.runs.specs.Runs.{Event}
use Rattle.history.specs.Scripts.{Script, phase_dossier}
use Rattle.history.proofs.making.make_all.Given as goal

abbrev pub invariant-loop-call : goal.invariant-loop-call
invariant-loop-call g l = (es : List Event) × Script g.J.Judge.meaning (take l.call-index l.calls) (vec_items l.entries) es (phase_dossier l.phase)
