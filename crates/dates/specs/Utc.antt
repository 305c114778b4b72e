-- Dates and times of day against seconds since the beginning of 1970.
use Rattle.std.specs.Prelude.{◌≡◌, ℕ, zero, suc, ◌+◌, ◌-◌, ◌*◌, ◌/◌, ◌%◌, ◌<◌, ◌≤◌, cond, nat_le}
use Rattle.dates.specs.declared.time.Utc.{Utc}
use Rattle.dates.specs.Calendar.{month_days, days_before_year, days_before_month}

-- a date that the calendar has, from 1970 on, and a time of day
pub record IsDate (u : Utc) : Type 0 where
  pub from1970 : 1970 ≤ u.year
  pub month1 : 1 ≤ u.month
  pub month12 : u.month ≤ 12
  pub day1 : 1 ≤ u.day
  pub day_last : u.day ≤ month_days u.year u.month
  pub hour24 : u.hour < 24
  pub minute60 : u.minute < 60
  pub second60 : u.second < 60

-- the days before a date, counted from 1970
abbrev pub days_before : Utc → ℕ
days_before u = days_before_year (u.year - 1970) + days_before_month u.year (u.month - 1) + (u.day - 1)

-- the seconds before it
abbrev pub counted : Utc → ℕ
counted u = ((days_before u * 24 + u.hour) * 60 + u.minute) * 60 + u.second

-- the greatest of the places up to n that begins no later than x, where place k begins at begin k
unfoldable pub last : (ℕ → ℕ) → ℕ → ℕ → ℕ
last begin zero x = 0
last begin (suc n) x = cond (nat_le (begin (suc n)) x) (suc n) (last begin n x)

-- the years that have passed after so many days, and the months after so many days of a year
abbrev pub year_at : ℕ → ℕ
year_at days = last days_before_year days days

abbrev pub month_at : ℕ → ℕ → ℕ
month_at year day = last (days_before_month year) 11 day

abbrev pub day_of_year : ℕ → ℕ
day_of_year days = days - days_before_year (year_at days)

abbrev pub date_of : ℕ → ℕ → ℕ → Utc
date_of years day rest = record {
  year = 1970 + years;
  month = month_at (1970 + years) day + 1;
  day = day - days_before_month (1970 + years) (month_at (1970 + years) day) + 1;
  hour = rest / 3600;
  minute = rest / 60 % 60;
  second = rest % 60;
}

abbrev pub utc_of : ℕ → Utc
utc_of seconds = date_of (year_at (seconds / 86400)) (day_of_year (seconds / 86400)) (seconds % 86400)

-- it is the inverse of counting: a date of the calendar, counted by its seconds, and the only one
pub record Inverse : Type 0 where
  pub dates : (seconds : ℕ) → IsDate (utc_of seconds)
  pub counts : (seconds : ℕ) → counted (utc_of seconds) ≡ seconds
  pub returns : (u : Utc) → IsDate u → utc_of (counted u) ≡ u

abbrev pub UtcInvertsCounting : Type 0
UtcInvertsCounting = Inverse
