-- Runs of headers, in the words of the subject.
use Rattle.std.specs.Prelude.{◌≡◌, ℕ, ◌+◌, ◌*◌, ◌<◌, ◌≤◌, List, ◌++◌, length}
use Rattle.headers.specs.Targets.{little, target_of, Lawful}
use Rattle.headers.specs.Headers.{header_at, previous_of, bits_of, hash_of, hash_before}
use Rattle.headers.specs.Steps.{count_limit, height_limit}
use Rattle.headers.specs.Following.{covered_by}

-- the header at place k is whole and names the hash before it; its target and the ceiling's are lawful, the target is at most
-- the ceiling's, and the hash is at most the target
pub record Good (previous : List ℕ) (ceiling : ℕ) (bytes : List ℕ) (k : ℕ) : Type 0 where
  pub whole : 80 * k + 80 ≤ length bytes
  pub linked : previous_of (header_at bytes k) ≡ hash_before previous bytes k
  pub lawful : Lawful (bits_of (header_at bytes k))
  pub permitted : Lawful ceiling
  pub under : target_of (bits_of (header_at bytes k)) ≤ target_of ceiling
  pub worked : little (hash_of (header_at bytes k)) ≤ target_of (bits_of (header_at bytes k))

-- the first n headers are good; they are not too many, and none of their heights, from base on, is too great
pub record IsRun (base : ℕ) (previous : List ℕ) (ceiling : ℕ) (bytes : List ℕ) (n : ℕ) : Type 0 where
  pub count : n ≤ count_limit
  pub height : base + n ≤ height_limit + 1
  pub good : (k : ℕ) → k < n → Good previous ceiling bytes k

pub record IsLongest (base : ℕ) (previous : List ℕ) (ceiling : ℕ) (bytes : List ℕ) (n : ℕ) : Type 0 where
  pub run : IsRun base previous ceiling bytes n
  pub longest : (m : ℕ) → IsRun base previous ceiling bytes m → m ≤ n

-- what is covered is the longest run
abbrev pub CoversTheLongestRun : Type 0
CoversTheLongestRun =
    (base : ℕ) (previous : List ℕ) (ceiling : ℕ) (bytes : List ℕ)
    → base ≤ height_limit → IsLongest base previous ceiling bytes (covered_by base previous ceiling bytes)

-- more bytes behind never make it shorter, and change none of its headers
pub record Extends (base : ℕ) (previous : List ℕ) (ceiling : ℕ) (bytes more : List ℕ) : Type 0 where
  pub longer : covered_by base previous ceiling bytes ≤ covered_by base previous ceiling (bytes ++ more)
  pub same : (k : ℕ) → k < covered_by base previous ceiling bytes → header_at (bytes ++ more) k ≡ header_at bytes k

abbrev pub MoreBytesExtendTheRun : Type 0
MoreBytesExtendTheRun =
    (base : ℕ) (previous : List ℕ) (ceiling : ℕ) (bytes more : List ℕ) → Extends base previous ceiling bytes more
