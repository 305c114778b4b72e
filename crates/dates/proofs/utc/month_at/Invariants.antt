use Rattle.std.proofs.Common.{◌≡◌, ◌≤◌}
use Rattle.dates.specs.Calendar.{days_before_month}
use Rattle.dates.proofs.utc.month_at.Given as goal

abbrev pub invariant-loop-passed : goal.invariant-loop-passed
invariant-loop-passed l = (l.before ≡ days_before_month l.year l.passed) × (l.before ≤ l.day)
