use Rattle.std.proofs.Common.{◌≡◌, ◌+◌, ◌-◌, ◌≤◌, length}
use Rattle.format.specs.Walks.{top}
use Rattle.format.specs.Counts.{counts}
use Rattle.format.proofs.Counting.{counts_at}
use Rattle.proof.specs.Places.{place_of}
use Rattle.proof.specs.Counted.{counted}
use Rattle.proof.proofs.counts.count.Given as goal

-- what is counted and what is still to come make up the counts of the whole walk
abbrev pub invariant-loop-step : goal.invariant-loop-step
invariant-loop-step l =
    (l.walk.reader.file.now ≡ l.initial.walk.reader.file.now)
    × (l.counts.pending + l.counts.bitcoin + l.counts.unknown ≤ l.walk.reader.at)
    × (counts_at (counted l.counts) (place_of l.walk) l.initial.walk.reader.file.now l.walk.reader.at
    ≡ counts_at (counts 0 0 0) top l.initial.walk.reader.file.now l.initial.walk.reader.at)

abbrev pub decreases-loop-step : goal.decreases-loop-step
decreases-loop-step l = length l.initial.walk.reader.file.now - l.walk.reader.at
