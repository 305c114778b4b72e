-- The date of a second, and the seconds before a date.
use Rattle.std.proofs.Common.{◌≡◌, ℕ, ◌+◌, ◌-◌, ◌*◌, ◌/◌, ◌%◌, ◌<◌, ◌≤◌, ap, ◌∙◌, arith}
use Rattle.dates.specs.declared.time.Utc.{Utc}
use Rattle.dates.specs.Calendar.{year_days, month_days, days_before_year, days_before_month}
use Rattle.dates.specs.Utc.{IsDate, days_before, counted, year_at, month_at, day_of_year, date_of, utc_of, UtcInvertsCounting}
use Rattle.dates.proofs.Days.{years_more, months_more, months_rise, months_whole, year_tells, month_tells, year_is, month_is}

-- the year, and the day of it
pub record YearDay (days years day : ℕ) : Type 0 where
  pub sum : days_before_year years + day ≡ days
  pub inside : day < year_days (1970 + years)

year_day : (days : ℕ) → YearDay days (year_at days) (day_of_year days)
year_day days =
    let t = year_tells days in
    let e = t.early in
    let l = t.late in
    let m = years_more (year_at days) in
    record { sum = omega arith; inside = omega arith }

-- the month, and the day of it from 0
pub record MonthDay (year day months date : ℕ) : Type 0 where
  pub sum : days_before_month year months + date ≡ day
  pub inside : date < month_days year (months + 1)
  pub within : months ≤ 11

month_day : (year day : ℕ) → day < year_days year → MonthDay year day (month_at year day) (day - days_before_month year (month_at year day))
month_day year day h =
    let t = month_tells year day h in
    let e = t.early in
    let l = t.late in
    let w = t.within in
    let n = month_at year day in
    let s : 1 + n ≡ n + 1 = omega arith in
    let m = months_more year n in
    let p = ap (month_days year) s in
    record { sum = omega arith; inside = omega arith; within = w }

date_is : (years day rest : ℕ) → day < year_days (1970 + years) → rest < 86400 → IsDate (date_of years day rest)
date_is years day rest h l =
    let m = month_day (1970 + years) day h in
    let i = m.inside in
    let w = m.within in
    record {
      from1970 = omega arith;
      month1 = omega arith;
      month12 = omega arith;
      day1 = omega arith;
      day_last = omega arith;
      hour24 = omega arith;
      minute60 = omega arith;
      second60 = omega arith;
    }

clock : (days rest : ℕ) → ((days * 24 + rest / 3600) * 60 + rest / 60 % 60) * 60 + rest % 60 ≡ days * 86400 + rest
clock days rest = omega arith

date_counts : (years day rest : ℕ) → day < year_days (1970 + years) → counted (date_of years day rest) ≡ (days_before_year years + day) * 86400 + rest
date_counts years day rest h =
    let m = month_day (1970 + years) day h in
    let s = m.sum in
    let n = month_at (1970 + years) day in
    let a : 1970 + years - 1970 ≡ years = omega arith in
    let b : n + 1 - 1 ≡ n = omega arith in
    let d : days_before (date_of years day rest) ≡ days_before_year years + day =
    ap (λ y. days_before_year y + days_before_month (1970 + years) (n + 1 - 1) + ((date_of years day rest).day - 1)) a
    ∙ ap (λ k. days_before_year years + days_before_month (1970 + years) k + ((date_of years day rest).day - 1)) b
    ∙ omega arith in
    ap (λ x. ((x * 24 + rest / 3600) * 60 + rest / 60 % 60) * 60 + rest % 60) d ∙ clock (days_before_year years + day) rest

utc_dates : (seconds : ℕ) → IsDate (utc_of seconds)
utc_dates seconds =
    let y = year_day (seconds / 86400) in
    date_is (year_at (seconds / 86400)) (day_of_year (seconds / 86400)) (seconds % 86400) y.inside (omega arith)

utc_counts : (seconds : ℕ) → counted (utc_of seconds) ≡ seconds
utc_counts seconds =
    let y = year_day (seconds / 86400) in
    let s = y.sum in
    date_counts (year_at (seconds / 86400)) (day_of_year (seconds / 86400)) (seconds % 86400) y.inside
    ∙ ap (λ d. d * 86400 + seconds % 86400) s ∙ omega arith

-- a date from its parts
abbrev made : ℕ → ℕ → ℕ → ℕ → ℕ → ℕ → Utc
made y m d h i s = record { year = y; month = m; day = d; hour = h; minute = i; second = s }

days_of : (days h i s : ℕ) → h < 24 → i < 60 → s < 60 → (((days * 24 + h) * 60 + i) * 60 + s) / 86400 ≡ days
days_of days h i s a b c = omega arith

rest_of : (days h i s : ℕ) → h < 24 → i < 60 → s < 60 → (((days * 24 + h) * 60 + i) * 60 + s) % 86400 ≡ (h * 60 + i) * 60 + s
rest_of days h i s a b c = omega arith

-- the parts of a date again, from its years, its day of the year and its time of day
date_again : (u : Utc) → IsDate u
    → date_of (u.year - 1970) (days_before_month u.year (u.month - 1) + (u.day - 1)) ((u.hour * 60 + u.minute) * 60 + u.second) ≡ u
date_again u d =
    let y1 = d.from1970 in
    let m1 = d.month1 in
    let m12 = d.month12 in
    let d1 = d.day1 in
    let dl = d.day_last in
    let h24 = d.hour24 in
    let i60 = d.minute60 in
    let s60 = d.second60 in
    let rest = (u.hour * 60 + u.minute) * 60 + u.second in
    let n = u.month - 1 in
    let day = days_before_month u.year n + (u.day - 1) in
    let ye : 1970 + (u.year - 1970) ≡ u.year = omega arith in
    let me : 1 + n ≡ u.month = omega arith in
    let ml = ap (month_days u.year) me in
    let mi : month_at u.year day ≡ n = month_is u.year day n (omega arith) (omega arith) (omega arith) in
    let db = ap (days_before_month u.year) mi in
    let pm : month_at u.year day + 1 ≡ u.month = omega arith in
    let pd : day - days_before_month u.year (month_at u.year day) + 1 ≡ u.day = omega arith in
    let ph : rest / 3600 ≡ u.hour = omega arith in
    let pi : rest / 60 % 60 ≡ u.minute = omega arith in
    let ps : rest % 60 ≡ u.second = omega arith in
    ap (λ y. made y (month_at y day + 1) (day - days_before_month y (month_at y day) + 1) (rest / 3600) (rest / 60 % 60) (rest % 60)) ye
    ∙ ap (λ m. made u.year m (day - days_before_month u.year (month_at u.year day) + 1) (rest / 3600) (rest / 60 % 60) (rest % 60)) pm
    ∙ ap (λ t. made u.year u.month t (rest / 3600) (rest / 60 % 60) (rest % 60)) pd
    ∙ ap (λ h. made u.year u.month u.day h (rest / 60 % 60) (rest % 60)) ph
    ∙ ap (λ i. made u.year u.month u.day u.hour i (rest % 60)) pi
    ∙ ap (λ s. made u.year u.month u.day u.hour u.minute s) ps

-- the day of the year of a date lies in its year
day_inside : (u : Utc) → IsDate u → days_before_month u.year (u.month - 1) + (u.day - 1) < year_days u.year
day_inside u d =
    let m1 = d.month1 in
    let m12 = d.month12 in
    let d1 = d.day1 in
    let dl = d.day_last in
    let me : 1 + (u.month - 1) ≡ u.month = omega arith in
    let ml = ap (month_days u.year) me in
    let mm = months_more u.year (u.month - 1) in
    let up = months_rise u.year (u.month - 1 + 1) 12 (omega arith) in
    let w = months_whole u.year in
    omega arith

utc_returns : (u : Utc) → IsDate u → utc_of (counted u) ≡ u
utc_returns u d =
    let y1 = d.from1970 in
    let days = days_before u in
    let day = days_before_month u.year (u.month - 1) + (u.day - 1) in
    let years = u.year - 1970 in
    let ye : 1970 + years ≡ u.year = omega arith in
    let yl = ap year_days ye in
    let di = day_inside u d in
    let de : counted u / 86400 ≡ days = days_of days u.hour u.minute u.second d.hour24 d.minute60 d.second60 in
    let re : counted u % 86400 ≡ (u.hour * 60 + u.minute) * 60 + u.second = rest_of days u.hour u.minute u.second d.hour24 d.minute60 d.second60 in
    let yi : year_at days ≡ years = year_is days years (omega arith) (omega arith) in
    let dy : days - days_before_year (year_at days) ≡ day = ap (λ y. days - days_before_year y) yi ∙ omega arith in
    ap (λ t. date_of (year_at t) (day_of_year t) (counted u % 86400)) de
    ∙ ap (λ y. date_of y (day_of_year days) (counted u % 86400)) yi
    ∙ ap (λ t. date_of years t (counted u % 86400)) dy
    ∙ ap (date_of years day) re
    ∙ date_again u d

pub utc_inverts_counting : UtcInvertsCounting
utc_inverts_counting = record { dates = utc_dates; counts = utc_counts; returns = utc_returns }
