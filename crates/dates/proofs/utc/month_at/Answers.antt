use Rattle.std.proofs.Common.{◌≡◌, ◌+◌, sym, ap, ◌∙◌, arith}
use Rattle.dates.specs.Calendar.{month_days, days_before_month}
use Rattle.dates.specs.Utc.{month_at}
use Rattle.dates.proofs.Days.{months_zero, months_more, months_whole, month_is}
use Rattle.dates.proofs.utc.month_at.Goals as goal

pub loop-passed-init : goal.loop-passed-init
loop-passed-init c = (sym (months_zero c.args.year), omega arith)

pub loop-passed-preserved : goal.loop-passed-preserved
loop-passed-preserved c =
    let year = c.args.year in
    let n = c.loop-passed.passed in
    let m = months_more year n in
    let s : n + 1 ≡ 1 + n = omega arith in
    let v : c.month_days-length.result ≡ month_days year (1 + n) = c.month_days-length.ensures.value ∙ ap (month_days year) s in
    let i = c.loop-passed.invariant.0 in
    (omega arith, omega arith)

pub returns-then-day-before : goal.returns-then-day-before
returns-then-day-before c =
    let year = c.args.year in
    let day = c.args.day in
    let n = c.loop-passed.passed in
    let i = c.loop-passed.invariant.0 in
    let s : n + 1 ≡ 1 + n = omega arith in
    let v : c.month_days-length.result ≡ month_days year (1 + n) = c.month_days-length.ensures.value ∙ ap (month_days year) s in
    let y : month_at year day ≡ n = month_is year day n (omega arith) (omega arith) (omega arith) in
    record {
      bound = omega arith;
      early = omega arith;
      late = omega (arith, c.month_days-length.ensures.most);
      value = sym y;
      before = i ∙ ap (days_before_month year) (sym y);
    }

pub returns : goal.returns
returns c =
    let year = c.args.year in
    let day = c.args.day in
    let n = c.loop-passed.passed in
    let i = c.loop-passed.invariant.0 in
    let e : n ≡ 11 = omega arith in
    let w = months_whole year in
    let m = months_more year 11 in
    let b = i ∙ ap (days_before_month year) e in
    let y : month_at year day ≡ 11 = month_is year day 11 (omega arith) (omega arith) (omega arith) in
    record {
      bound = omega arith;
      early = omega arith;
      late = omega arith;
      value = sym y;
      before = b ∙ ap (days_before_month year) (sym y);
    }
