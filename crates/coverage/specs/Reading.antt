-- The values of options, from their text.
use Rattle.std.specs.Prelude.{ℕ, ◌+◌, ◌-◌, ◌*◌, ◌^◌, Bool, true, cond, ◌&&◌, ◌||◌, List, [], ◌∷◌, length, Some, None, Option, ◌==◌, nat_le, nat_lt, slice_index}
use Rattle.std.specs.Str.Parse.{without_leading_plus, digits_value}
use Rattle.std.specs.Str.{all_ascii_digits}

-- a lowercase hexadecimal digit, and its value
abbrev pub hex_digit : ℕ → Bool
hex_digit c = (nat_le 0x30 c && nat_le c 0x39) || (nat_le 0x61 c && nat_le c 0x66)

abbrev pub hex_value : ℕ → ℕ
hex_value c = cond (nat_le 0x30 c && nat_le c 0x39) (c - 0x30) (cond (nat_le 0x61 c && nat_le c 0x66) (c - 0x61 + 10) 0)

abbrev pub digit_read : ℕ → Option ℕ
digit_read c = cond (hex_digit c) (Some (hex_value c)) None

unfoldable pub hex_digits : List ℕ → Bool
hex_digits [] = true
hex_digits (c ∷ cs) = hex_digit c && hex_digits cs

-- each pair of digits is a byte, the high digit first
unfoldable pub unhex : List ℕ → List ℕ
unhex [] = []
unhex (c ∷ []) = []
unhex (c ∷ d ∷ text) = (16 * hex_value c + hex_value d) ∷ unhex text

abbrev pub byte_at : List ℕ → ℕ → ℕ
byte_at text k = 16 * hex_value (slice_index text (2 * k)) + hex_value (slice_index text (2 * k + 1))

-- text of so many hexadecimal digits
abbrev pub written : ℕ → List ℕ → Bool
written n text = length text == n && hex_digits text

abbrev pub hash_read : List ℕ → Option (List ℕ)
hash_read text = cond (written 64 text) (Some (unhex text)) None

-- four bytes as a number, the high byte first
abbrev pub big : List ℕ → ℕ
big bs = slice_index bs 0 * 2 ^ 24 + slice_index bs 1 * 2 ^ 16 + slice_index bs 2 * 2 ^ 8 + slice_index bs 3

abbrev pub bits_read : List ℕ → Option ℕ
bits_read text = cond (written 8 text) (Some (big (unhex text))) None

-- one decimal digit or more, of a number that has room in so many bits; a plus may stand before them
abbrev pub numeral : ℕ → List ℕ → Bool
numeral bits ds = nat_lt 0 (length ds) && (all_ascii_digits ds && nat_lt (digits_value 10 ds) (2 ^ bits))

unfoldable pub decimal_read : ℕ → List ℕ → Option ℕ
decimal_read bits text = cond (numeral bits (without_leading_plus text)) (Some (digits_value 10 (without_leading_plus text))) None

abbrev pub number_read : List ℕ → Option ℕ
number_read text = decimal_read 32 text
