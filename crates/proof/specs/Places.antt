-- Where a walk stands, and what it hands out.
use Rattle.std.specs.Prelude.{Some, None, Ok, Err, Option, Result}
use Rattle.format.specs.Outcome.{Outcome, got, fault}
use Rattle.format.specs.Files.{Head}
use Rattle.format.specs.Walks.{Place, Handed, handed, step}
use Rattle.proof.specs.declared.fault.Fault.{Fault}
use Rattle.proof.specs.declared.walk.Walk.{Walk}
use Rattle.proof.specs.declared.walk.Step.{Step}
use Rattle.proof.specs.Faults.{numbered}
use Rattle.proof.specs.Heads.{headed}
use Rattle.proof.specs.Levels.{standing}
use Rattle.proof.specs.Pieces.{piece}

abbrev pub place_of : Walk → Place
place_of w = standing w.size w.levels

-- the head of the file, and how far a new walk has read
abbrev pub opened : Result Walk Fault → Outcome Head
opened (Ok w) = got (headed w.head) w.reader.at
opened (Err f) = fault (numbered f).0 (numbered f).1

abbrev pub handed_by : Option Step → Place → Option Handed
handed_by None place = None
handed_by (Some s) place = Some (handed (step s.depth (piece s.item)) place)

-- where nothing is handed out, this holds
abbrev pub Stays : Result (Option Step) Fault → Type 0 → Type 0
Stays (Ok (Some s)) P = Unit {0}
Stays (Ok None) P = P
Stays (Err f) P = P
