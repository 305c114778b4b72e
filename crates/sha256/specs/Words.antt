-- The operations on 32-bit words that SHA-256 is built from. A word is a number below 2 ^ 32, a byte one below 256.
use Rattle.std.specs.Prelude.{ℕ, ◌+◌, ◌-◌, ◌*◌, ◌/◌, ◌%◌, ◌^◌, List, [], ◌∷◌, bit_or, slice_index}

-- ROTR: x turned right by n places, for 0 < n < 32
abbrev pub ROTR : ℕ → ℕ → ℕ
ROTR n x = bit_or (x / 2 ^ n) ((x * 2 ^ (32 - n)) % 2 ^ 32)

-- SHR: x shifted right by n places
abbrev pub SHR : ℕ → ℕ → ℕ
SHR n x = x / 2 ^ n

-- every bit of x turned over
abbrev pub complement : ℕ → ℕ
complement x = 2 ^ 32 - 1 - x

-- the sum of two words, modulo 2 ^ 32
infixl 60 ◌⊞◌
abbrev pub ◌⊞◌ : ℕ → ℕ → ℕ
x ⊞ y = (x + y) % 2 ^ 32

-- the word in the four bytes from place i on, the high byte first
abbrev pub word_at : List ℕ → ℕ → ℕ
word_at bytes i =
    slice_index bytes i * 2 ^ 24 + slice_index bytes (i + 1) * 2 ^ 16 + slice_index bytes (i + 2) * 2 ^ 8 + slice_index bytes (i + 3)

-- the four bytes of a word, the high byte first
abbrev pub word_bytes : ℕ → List ℕ
word_bytes x = (x / 2 ^ 24 % 256) ∷ (x / 2 ^ 16 % 256) ∷ (x / 2 ^ 8 % 256) ∷ (x % 256) ∷ []

-- the eight bytes of a number below 2 ^ 64, the high byte first
abbrev pub double_word_bytes : ℕ → List ℕ
double_word_bytes x =
    (x / 2 ^ 56 % 256) ∷ (x / 2 ^ 48 % 256) ∷ (x / 2 ^ 40 % 256) ∷ (x / 2 ^ 32 % 256)
    ∷ (x / 2 ^ 24 % 256) ∷ (x / 2 ^ 16 % 256) ∷ (x / 2 ^ 8 % 256) ∷ (x % 256) ∷ []
