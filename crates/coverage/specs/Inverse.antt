-- Reading hexadecimal text is the inverse of writing it.
use Rattle.std.specs.Prelude.{◌≡◌, ℕ, ◌/◌, ◌%◌, ◌^◌, ◌<◌, List, [], ◌∷◌, length, Some, None, Option, ◌≢◌}
use Rattle.std.specs.List.{AllByRecursion}
use Rattle.account.specs.Words.{hex_of}
use Rattle.coverage.specs.Reading.{hash_read, bits_read}

-- n bytes that are written as the text
pub record Hex (n : ℕ) (text bs : List ℕ) : Type 0 where
  pub long : length bs ≡ n
  pub bytes : AllByRecursion (λ b. b < 256) bs
  pub reads : hex_of bs ≡ text

-- such bytes, or nothing where there are none
abbrev pub HexOr : ℕ → List ℕ → Option (List ℕ) → Type 0
HexOr n text (Some bs) = Hex n text bs
HexOr n text None = (bs : List ℕ) → Hex n text bs → ⊥

abbrev pub UnhexInvertsHex : Type 0
UnhexInvertsHex = (text : List ℕ) → HexOr 32 text (hash_read text)

-- the four bytes of a number, the high byte first
abbrev pub four : ℕ → List ℕ
four n = n / 2 ^ 24 ∷ n / 2 ^ 16 % 256 ∷ n / 2 ^ 8 % 256 ∷ n % 256 ∷ []

abbrev pub BitsOr : List ℕ → Option ℕ → Type 0
BitsOr text (Some n) = (n < 2 ^ 32) × (hex_of (four n) ≡ text)
BitsOr text None = (n : ℕ) → n < 2 ^ 32 → hex_of (four n) ≢ text

abbrev pub BitsInvertHex : Type 0
BitsInvertHex = (text : List ℕ) → BitsOr text (bits_read text)
