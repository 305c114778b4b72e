-- The Gregorian calendar, and the days in it counted from the first of 1970.
use Rattle.std.specs.Prelude.{ℕ, zero, suc, ◌+◌, ◌%◌, Bool, cond, not, ◌&&◌, ◌||◌, ◌==◌}

-- every fourth year, but of the hundredth ones only every fourth
abbrev pub leap : ℕ → Bool
leap year = (year % 4 == 0 && not (year % 100 == 0)) || year % 400 == 0

abbrev pub year_days : ℕ → ℕ
year_days year = cond (leap year) 366 365

-- months are counted from 1
abbrev pub month_days : ℕ → ℕ → ℕ
month_days year month =
    cond (month == 2) (cond (leap year) 29 28) (cond (month == 4 || (month == 6 || (month == 9 || month == 11))) 30 31)

-- the days from the first of 1970 to the first of the n-th year after it
unfoldable pub days_before_year : ℕ → ℕ
days_before_year zero = 0
days_before_year (suc n) = days_before_year n + year_days (1970 + n)

-- the days in the first n months of a year
unfoldable pub days_before_month : ℕ → ℕ → ℕ
days_before_month year zero = 0
days_before_month year (suc n) = days_before_month year n + month_days year (1 + n)
