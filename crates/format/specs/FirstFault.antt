-- Which fault a file has: the first that its bytes show, read from the front.
use Rattle.std.specs.Prelude.{◌≡◌, ℕ, ◌<◌, ◌≤◌, List, length, take, ◌≢◌}
use Rattle.format.specs.Outcome.{got, fault}
use Rattle.format.specs.Files.{Said, file_limit, file_at}

abbrev pub Iff : Type 0 → Type 0 → Type 0
Iff P Q = (P → Q) × (Q → P)

-- the first m bytes show fault n at o, whatever follows them, and fewer bytes show nothing but that they end
pub record Settled (file : List ℕ) (n o m : ℕ) : Type 0 where
  pub within : m ≤ length file
  pub fixed : (other : List ℕ) → length other ≤ file_limit → take m other ≡ take m file → file_at other ≡ fault n o
  pub sooner : (k : ℕ) → k < m → file_at (take k file) ≡ fault 2 k

-- 3 to 11: a fault of bytes that were read
abbrev pub FirstFault : Type 0
FirstFault = (file : List ℕ) (n o : ℕ) → file_at file ≡ fault n o → (n ≢ 1) → (n ≢ 2) → (n ≢ 12)
    → (m : ℕ) × Settled file n o m

-- 2: the file ends early, at its end, and so does every front of it
abbrev pub EndsEarly : Type 0
EndsEarly = (file : List ℕ) (o : ℕ) → file_at file ≡ fault 2 o
    → (o ≡ length file) × ((k : ℕ) → k ≤ length file → file_at (take k file) ≡ fault 2 k)

-- 12: bytes follow a whole file
abbrev pub Follows : Type 0
Follows = (file : List ℕ) (m : ℕ)
    → Iff (file_at file ≡ fault 12 m) ((length file ≤ file_limit) × (m < length file) × ((s : Said) × (file_at (take m file) ≡ got s m)))

-- 1: the file is longer than the limit
abbrev pub TooLong : Type 0
TooLong = (file : List ℕ) (o : ℕ) → Iff (file_at file ≡ fault 1 o) ((file_limit < length file) × (o ≡ file_limit))

pub record FirstFaultLaw : Type 0 where
  pub first_fault : FirstFault
  pub ends_early : EndsEarly
  pub follows : Follows
  pub too_long : TooLong
