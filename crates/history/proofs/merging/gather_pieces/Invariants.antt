use Rattle.std.proofs.Common.{take}
use Rattle.runs.specs.Runs.{Run}
use Rattle.dossier.specs.Phases.{open_dossier}
use Rattle.history.specs.Merging.{files_of, grants}
use Rattle.history.proofs.merging.gather_pieces.Given as goal

abbrev pub invariant-loop-place : goal.invariant-loop-place
invariant-loop-place l = Run (grants (take l.place (files_of l.pieces))) (open_dossier l.dossier)
