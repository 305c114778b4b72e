-- What counts stand for.
use Rattle.proof.specs.declared.counts.Counts.{Counts as Counted}
use Rattle.format.specs.Counts.{Counts, counts}

abbrev pub counted : Counted → Counts
counted c = counts c.pending c.bitcoin c.unknown
