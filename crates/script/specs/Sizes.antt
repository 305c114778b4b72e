-- A size from its text.
use Rattle.std.specs.Prelude.{ℕ, List, Option}
use Rattle.coverage.specs.Reading.{decimal_read}

-- a decimal number that has room in 64 bits; a plus may stand before it
abbrev pub size_read : List ℕ → Option ℕ
size_read text = decimal_read 64 text
