-- The law of runs, whole.
use Rattle.runs.specs.Law.{Law, Carried}
use Rattle.runs.proofs.Stepping.{begins, protocol, one_outcome}
use Rattle.runs.proofs.Keeping.{keeps_always, tested}
use Rattle.runs.proofs.GatheringFiles.{gathers}
use Rattle.runs.proofs.WritingFiles.{writes, tells_apart, tells_grants_apart}
use Rattle.runs.proofs.Reporting.{tallies, rows, sheets, clears}
use Rattle.runs.proofs.Refusing.{refusals}

pub law : Law
law = record {
  keeps = keeps_always;
  begins = begins;
  gathers = gathers;
  writes = writes;
  tells_apart = tells_apart;
  tells_grants_apart = tells_grants_apart;
  tallies = tallies;
  rows = rows;
  sheets = sheets;
  protocol = protocol;
  refusals = refusals;
  one_outcome = one_outcome;
}

pub carried : Carried
carried = record { tested = tested; clears = clears }
