-- Targets: what the bits of a header mean, as a number.
use Rattle.std.specs.Prelude.{◌≡◌, ℕ, ◌+◌, ◌-◌, ◌*◌, ◌/◌, ◌%◌, ◌^◌, ◌<◌, Bool, true, false, ◌&&◌, List, [], ◌∷◌, Some, None, Option, ◌==◌, nat_lt}

-- the number that bytes make, the low byte first
unfoldable pub little : List ℕ → ℕ
little [] = 0
little (b ∷ bs) = b + 256 * little bs

-- the top byte of the bits, and the low 23 bits
abbrev pub exponent : ℕ → ℕ
exponent bits = bits / 2 ^ 24

abbrev pub mantissa : ℕ → ℕ
mantissa bits = bits % 2 ^ 23

-- mantissa × 256 ^ (exponent − 3), without its fraction where the exponent is below 3: `-` stops at 0, so one of the two powers is 1
unfoldable pub target_of : ℕ → ℕ
target_of bits = mantissa bits / 256 ^ (3 - exponent bits) * 256 ^ (exponent bits - 3)

-- bit 23 is clear, and the target is neither zero nor too large for 32 bytes
abbrev pub Lawful : ℕ → Type 0
Lawful bits = (bits / 2 ^ 23 % 2 ≡ 0) × (0 < target_of bits) × (target_of bits < 2 ^ 256)

-- the same as a test
unfoldable pub lawful : ℕ → Bool
lawful bits = bits / 2 ^ 23 % 2 == 0 && (nat_lt 0 (target_of bits) && nat_lt (target_of bits) (2 ^ 256))

-- 32 bytes that hold the target of these bits, or nothing where they are unlawful
abbrev pub Means : ℕ → Option (List ℕ) → Type 0
Means bits None = lawful bits ≡ false
Means bits (Some t) = (lawful bits ≡ true) × (little t ≡ target_of bits)
