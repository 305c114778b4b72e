-- Attestations: what a payload under a tag says.
use Rattle.std.specs.Prelude.{ℕ, Bool, cond, ◌&&◌, ◌||◌, List, [], ◌∷◌, take, ◌==◌, nat_le, bytes_eq}
use Rattle.std.specs.List.{list_all}
use Rattle.format.specs.Outcome.{Outcome, got, fault, then}
use Rattle.format.specs.Numbers.{number_at, block_at}

-- two attestations are equal exactly when they have the same address, height, or tag and payload
pub data Att : Type 0 where
  pending : List ℕ → Att
  bitcoin : ℕ → Att
  unknown : List ℕ → List ℕ → Att

abbrev pub pending_tag : List ℕ
pending_tag = 0x83 ∷ 0xdf ∷ 0xe3 ∷ 0x0d ∷ 0x2e ∷ 0xf9 ∷ 0x0c ∷ 0x8e ∷ []

abbrev pub bitcoin_tag : List ℕ
bitcoin_tag = 0x05 ∷ 0x88 ∷ 0x96 ∷ 0x0d ∷ 0x73 ∷ 0xd7 ∷ 0x19 ∷ 0x01 ∷ []

-- the longest payload and the longest address
abbrev pub payload_limit : ℕ
payload_limit = 8192

abbrev pub address_limit : ℕ
address_limit = 1000

-- equal byte strings, as `==` on slices compares them
abbrev pub same : List ℕ → List ℕ → Bool
same = bytes_eq

abbrev pub between : ℕ → ℕ → ℕ → Bool
between lo hi b = nat_le lo b && nat_le b hi

-- a letter, a digit or one of - . _ / :
abbrev pub address_byte : ℕ → Bool
address_byte b =
    between 0x61 0x7a b || (between 0x41 0x5a b || (between 0x30 0x39 b
    || (b == 0x2d || (b == 0x2e || (b == 0x5f || (b == 0x2f || b == 0x3a))))))

abbrev pub address_bytes : List ℕ → Bool
address_bytes = list_all address_byte

-- what was read of a payload from first to end: all of it, or fault 10 at first; a number or length of its own faults by itself
abbrev pub whole : {A : Type 0} → ℕ → ℕ → Outcome A → Outcome A
whole first end (got x n) = cond (n == end) (got x n) (fault 10 first)
whole first end (fault c o) = cond (c == 2) (fault 10 first) (fault c o)

-- the height in a payload, which is one number
abbrev pub height_at : List ℕ → ℕ → ℕ → Outcome ℕ
height_at file first end = whole first end (number_at (take end file) first)

-- the address in a payload, which is a length and that many bytes
abbrev pub address_at : List ℕ → ℕ → ℕ → Outcome (List ℕ)
address_at file first end =
    whole first end (then (block_at 0 address_limit (take end file) first) (λ a n. cond (address_bytes a) (got a n) (fault 10 first)))

-- what the payload from first to end says under a tag
abbrev pub content_at : List ℕ → List ℕ → List ℕ → ℕ → ℕ → Outcome Att
content_at tag payload file first end =
    cond (same tag bitcoin_tag) (then (height_at file first end) (λ h n. got (bitcoin h) n))
    (cond (same tag pending_tag) (then (address_at file first end) (λ a n. got (pending a) n))
    (got (unknown tag payload) end))
