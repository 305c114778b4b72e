-- Bytes, numbers and lengths.
use Rattle.std.specs.Prelude.{ℕ, zero, suc, ◌+◌, ◌-◌, ◌*◌, ◌^◌, cond, ◌&&◌, List, length, take, drop, nat_le, nat_lt, slice_index}
use Rattle.format.specs.Outcome.{Outcome, got, fault, then}

-- one byte; fault 2, at the file's length, where the file has no more
abbrev pub byte_at : List ℕ → ℕ → Outcome ℕ
byte_at file at = cond (nat_lt at (length file)) (got (slice_index file at) (at + 1)) (fault 2 (length file))

-- n bytes
abbrev pub bytes_at : ℕ → List ℕ → ℕ → Outcome (List ℕ)
bytes_at n file at = cond (nat_lt (length file) (at + n)) (fault 2 (length file)) (got (take n (drop at file)) (at + n))

-- at most k bytes more of the number that begins at first: v so far, and the next seven bits weigh w
unfoldable pub number_from : ℕ → List ℕ → ℕ → ℕ → ℕ → ℕ → Outcome ℕ
number_from zero file first w v at = fault 7 first
number_from (suc k) file first w v at =
    then (byte_at file at) (λ b next.
    cond (nat_lt b 128)
    (cond (nat_lt (v + b * w) (2 ^ 32)) (got (v + b * w) next) (fault 7 first))
    (number_from k file first (w * 128) (v + (b - 128) * w) next))

-- a number has at most five bytes and is below 2 ^ 32
unfoldable pub number_at : List ℕ → ℕ → Outcome ℕ
number_at file at = number_from 5 file at 1 0 at

-- a length from lo to hi
abbrev pub length_at : ℕ → ℕ → List ℕ → ℕ → Outcome ℕ
length_at lo hi file at = then (number_at file at) (λ n next. cond (nat_le lo n && nat_le n hi) (got n next) (fault 8 at))

-- a length from lo to hi, then that many bytes
abbrev pub block_at : ℕ → ℕ → List ℕ → ℕ → Outcome (List ℕ)
block_at lo hi file at = then (length_at lo hi file at) (λ n next. bytes_at n file next)
