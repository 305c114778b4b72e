-- A date and time as text.
use Rattle.std.specs.Prelude.{ℕ, ◌+◌, ◌/◌, ◌%◌, List, [], ◌∷◌}
use Rattle.dates.specs.declared.time.Utc.{Utc}

-- the lowest decimal digit
abbrev pub digit : ℕ → ℕ
digit n = 48 + n % 10

-- 2009-01-03 18:15:05 UTC
abbrev pub text_of : Utc → List ℕ
text_of u =
    digit (u.year / 1000) ∷ digit (u.year / 100) ∷ digit (u.year / 10) ∷ digit u.year ∷ 0x2d
    ∷ digit (u.month / 10) ∷ digit u.month ∷ 0x2d ∷ digit (u.day / 10) ∷ digit u.day ∷ 0x20
    ∷ digit (u.hour / 10) ∷ digit u.hour ∷ 0x3a ∷ digit (u.minute / 10) ∷ digit u.minute ∷ 0x3a
    ∷ digit (u.second / 10) ∷ digit u.second ∷ 0x20 ∷ 0x55 ∷ 0x54 ∷ 0x43 ∷ []
