use Rattle.std.proofs.Common.{◌≡◌, ◌+◌, ◌<◌, sym, ap, ◌∙◌, arith}
use Rattle.dates.specs.Calendar.{year_days, days_before_year}
use Rattle.dates.specs.Utc.{year_at}
use Rattle.dates.proofs.Days.{years_zero, years_more, year_is}
use Rattle.dates.proofs.utc.year_at.Goals as goal

pub loop-before-init : goal.loop-before-init
loop-before-init c = (sym years_zero, omega arith, omega arith)

pub loop-before-preserved : goal.loop-before-preserved
loop-before-preserved c =
    let m = years_more c.loop-before.passed in
    let v = c.year_days-length.ensures.value in
    let i = c.loop-before.invariant.0 in
    (omega arith, omega arith, omega arith)

pub returns-then-days-before : goal.returns-then-days-before
returns-then-days-before c =
    let n = c.loop-before.passed in
    let days = c.args.days in
    let i = c.loop-before.invariant.0 in
    let v = c.year_days-length.ensures.value in
    let l : days < days_before_year n + year_days (1970 + n) = omega arith in
    let y : year_at days ≡ n = year_is days n (omega arith) l in
    record {
      bound = omega arith;
      early = omega arith;
      late = omega arith;
      value = sym y;
      before = i ∙ ap days_before_year (sym y);
    }
