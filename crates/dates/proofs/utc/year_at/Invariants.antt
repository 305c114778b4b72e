use Rattle.std.proofs.Common.{◌≡◌, ◌-◌, ◌*◌, ◌≤◌}
use Rattle.dates.specs.Calendar.{days_before_year}
use Rattle.dates.proofs.utc.year_at.Given as goal

abbrev pub invariant-loop-before : goal.invariant-loop-before
invariant-loop-before l = (l.before ≡ days_before_year l.passed) × (l.before ≤ l.days) × (365 * l.passed ≤ l.before)

abbrev pub decreases-loop-before : goal.decreases-loop-before
decreases-loop-before l = l.days - l.before
