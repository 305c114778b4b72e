-- The two types of a dossier as the runs have them.
use Rattle.runs.specs.Contents.{Dossier, opened, settled}
use Rattle.dossier.specs.declared.phases.Open.{Open}
use Rattle.dossier.specs.declared.phases.Settled.{Settled}
use Rattle.dossier.specs.Models.{content_of}

abbrev pub open_dossier : Open → Dossier
open_dossier d = opened (content_of d.held)

abbrev pub settled_dossier : Settled → Dossier
settled_dossier d = settled (content_of d.held)
