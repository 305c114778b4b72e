-- Days before years and months.
use Rattle.std.proofs.Common.{◌≡◌, ℕ, zero, suc, ◌+◌, ◌-◌, ◌*◌, ◌<◌, ◌≤◌, Bool, true, false, cond, refl, ap, add-one, arith}
use Rattle.dates.specs.Calendar.{leap, year_days, month_days, days_before_year, days_before_month}
use Rattle.dates.specs.Utc.{year_at, month_at}
use Rattle.dates.proofs.Places.{Rising, Last, last_is, last_tells}

year_least : (year : ℕ) → 365 ≤ year_days year
year_least year = by (leap year)
  where
    by : (b : Bool) → 365 ≤ cond b 366 365
    by true = omega arith
    by false = omega arith

pub years_more : (n : ℕ) → days_before_year (n + 1) ≡ days_before_year n + year_days (1970 + n)
unfolding days_before_year
years_more n = ap days_before_year (add-one n)

pub years_zero : days_before_year 0 ≡ 0
unfolding days_before_year
years_zero = refl

pub months_more : (year n : ℕ) → days_before_month year (n + 1) ≡ days_before_month year n + month_days year (1 + n)
unfolding days_before_month
months_more year n = ap (days_before_month year) (add-one n)

pub months_zero : (year : ℕ) → days_before_month year 0 ≡ 0
unfolding days_before_month
months_zero year = refl

-- a count by steps rises
rising_by : (f : ℕ → ℕ) → ((n : ℕ) → f n ≤ f (suc n)) → (i d : ℕ) → f i ≤ f (i + d)
rising_by f up i zero = let e = ap f (zero_on i) in omega arith
  where
    zero_on : (i : ℕ) → i ≡ i + 0
    zero_on i = omega arith
rising_by f up i (suc d) = let r = rising_by f up i d in let u = up (i + d) in let e = ap f (suc_on i d) in omega arith
  where
    suc_on : (i d : ℕ) → suc (i + d) ≡ i + suc d
    suc_on i d = omega arith

rising_from : (f : ℕ → ℕ) → ((n : ℕ) → f n ≤ f (suc n)) → Rising f
rising_from f up i j l = let e : i + (j - i) ≡ j = omega arith in let r = rising_by f up i (j - i) in let s = ap f e in omega arith

pub years_rise : Rising days_before_year
years_rise = rising_from days_before_year (λ n. let s = years_more n in let t = ap days_before_year (add-one n) in omega arith)

pub months_rise : (year : ℕ) → Rising (days_before_month year)
months_rise year = rising_from (days_before_month year) (λ n. let s = months_more year n in let t = ap (days_before_month year) (add-one n) in omega arith)

pub years_long : (n : ℕ) → 365 * n ≤ days_before_year n
unfolding days_before_year
years_long zero = omega arith
years_long (suc n) = let r = years_long n in let y = year_least (1970 + n) in omega arith

-- the twelve months make the year
pub months_whole : (year : ℕ) → days_before_month year 12 ≡ year_days year
unfolding days_before_month
months_whole year = by (leap year)
  where
    by : (b : Bool)
        → 0 + 31 + cond b 29 28 + 31 + 30 + 31 + 30 + 31 + 31 + 30 + 31 + 30 + 31 ≡ cond b 366 365
    by true = refl
    by false = refl

-- the year of a day, and the month of a day of a year
pub year_tells : (days : ℕ) → Last days_before_year days days (year_at days)
year_tells days =
    let l = years_long (days + 1) in
    let z = years_zero in
    last_tells days_before_year days days (omega arith) (omega arith)

pub month_tells : (year day : ℕ) → day < year_days year → Last (days_before_month year) 11 day (month_at year day)
month_tells year day h =
    let w = months_whole year in
    let z = months_zero year in
    last_tells (days_before_month year) 11 day (omega arith) (omega arith)

pub year_is : (days n : ℕ) → days_before_year n ≤ days → days < days_before_year n + year_days (1970 + n) → year_at days ≡ n
year_is days n e l =
    let m = years_more n in
    let s = years_long n in
    last_is days_before_year years_rise days days n (record { within = omega arith; early = e; late = omega arith })

pub month_is : (year day n : ℕ) → n ≤ 11 → days_before_month year n ≤ day → day < days_before_month year n + month_days year (1 + n) → month_at year day ≡ n
month_is year day n w e l =
    let m = months_more year n in
    last_is (days_before_month year) (months_rise year) 11 day n (record { within = w; early = e; late = omega arith })
