-- The laws of sets of claims, in the words of the subject.
use Rattle.std.specs.Prelude.{◌≡◌, ℕ, ◌+◌, ◌^◌, ◌<◌, ◌≤◌, true, ◌⊎◌, List, ◌++◌, length, drop}
use Rattle.std.specs.List.{AllByRecursion}
use Rattle.format.specs.Outcome.{got}
use Rattle.format.specs.Numbers.{number_at}
use Rattle.format.specs.Nodes.{Claim}
use Rattle.format.specs.Files.{Said, said, head, file_at}
use Rattle.format.specs.Grammar.{Groups}
use Rattle.format.specs.FirstFault.{Iff}
use Rattle.claim_trees.specs.Tree.{Held, claims, In, Alike, filled}
use Rattle.claim_trees.specs.Union.{union}
use Rattle.claim_trees.specs.Bytes.{shortest, file_bytes}
use Rattle.claim_trees.specs.Lawful.{claim_fits, every, lawful}
use Rattle.claim_trees.specs.Size.{Size, Sized, within, size_of}
use Rattle.claim_trees.specs.Gathered.{gathered, written, Holds}
use Rattle.claim_trees.specs.Canonical.{Canonical}

abbrev pub claims_of : Held → List Claim
claims_of x = claims x.marks x.branches

abbrev pub Lawful : Held → Type 0
Lawful x = lawful x.marks x.branches ≡ true

pub record UnionLaw : Type 0 where
  -- a claim is in the union exactly where it is in one of the two
  pub exact : (c : Claim) (x y : Held) → Iff (In c (claims_of (union x y))) (In c (claims_of x) ⊎ In c (claims_of y))
  pub kept : (x y : Held) → Lawful x → Lawful y → Lawful (union x y)
  pub commutes : (x y : Held) → Lawful x → Lawful y → union x y ≡ union y x
  pub associates : (x y z : Held) → Lawful x → Lawful y → Lawful z → union (union x y) z ≡ union x (union y z)
  pub idempotent : (x : Held) → Lawful x → union x x ≡ x

-- at least one claim, and every claim one that a proof file can hold
pub record Fitting (cs : List Claim) : Type 0 where
  pub some : 0 < length cs
  pub fit : every claim_fits cs ≡ true

pub record UniqueLaw : Type 0 where
  -- one tree for each set of claims
  pub unique : (x y : Held) → Lawful x → Lawful y → Alike (claims_of x) (claims_of y) → x ≡ y
  -- it is found by gathering the claims
  pub gathers : (cs : List Claim) → Holds (gathered cs) cs
  pub only : (x : Held) (cs : List Claim) → Holds x cs → x ≡ gathered cs
  pub lawfully : (cs : List Claim) → every claim_fits cs ≡ true → Lawful (gathered cs)
  -- the claims of a proof file are such claims, under a digest of 32 bytes
  pub fits : (file : List ℕ) (s : Said) (end : ℕ) → file_at file ≡ got s end → Fitting s.claims
  pub digests : (file : List ℕ) (s : Said) (end : ℕ) → file_at file ≡ got s end → length s.head.digest ≡ 32

-- bytes
abbrev pub Small : List ℕ → Type 0
Small bs = AllByRecursion (λ b. b < 256) bs

pub record NumberLaw : Type 0 where
  -- a number in shortest form is read back, wherever it stands
  pub returns : (n : ℕ) (file : List ℕ) (at : ℕ) (rest : List ℕ) → n < 2 ^ 32 → at ≤ length file → drop at file ≡ shortest n ++ rest
      → number_at file at ≡ got n (at + length (shortest n))
  -- no other bytes that say the number are fewer
  pub least : (n : ℕ) (bs : List ℕ) → n < 2 ^ 32 → Small bs → Groups bs n → length (shortest n) ≤ length bs

-- the longest file that is written: 65 + 4 * 1,024 + 12 * 128 + 32,768 bytes
abbrev pub written_limit : ℕ
written_limit = 38465

pub record WrittenLaw : Type 0 where
  -- a written tree is read back: the digest, and its claims in written order
  pub returns : (digest : List ℕ) (x : Held) → length digest ≡ 32 → Lawful x → filled x.marks x.branches ≡ true
      → within (size_of x.marks x.branches) ≡ true
      → file_at (file_bytes digest x.marks x.branches)
      ≡ got (said (head 32 digest) (claims_of x)) (length (file_bytes digest x.marks x.branches))
  pub short : (digest : List ℕ) (x : Held) → length digest ≡ 32 → Lawful x → within (size_of x.marks x.branches) ≡ true
      → length (file_bytes digest x.marks x.branches) ≤ written_limit
  -- the same of a set of claims within the limits
  pub reread : (digest : List ℕ) (cs : List Claim) (s : Size) → length digest ≡ 32 → Fitting cs → Sized cs s → within s ≡ true
      → (ds : List Claim) × (file_at (written digest cs) ≡ got (said (head 32 digest) ds) (length (written digest cs))) × Alike ds cs

pub record CanonicalLaw : Type 0 where
  -- what is written is canonical, and nothing else is
  pub canonical : (digest : List ℕ) (cs : List Claim) → 0 < length cs → Canonical digest cs (written digest cs)
  pub only : (digest : List ℕ) (cs : List Claim) (bytes : List ℕ) → Canonical digest cs bytes → bytes ≡ written digest cs
  -- equal files exactly where digest and claims agree
  pub same : (digest : List ℕ) (cs ds : List Claim) → Alike cs ds → written digest cs ≡ written digest ds
  pub apart : (digest other : List ℕ) (cs ds : List Claim) (s t : Size) → length digest ≡ 32 → length other ≡ 32
      → Fitting cs → Fitting ds → Sized cs s → Sized ds t → within s ≡ true → within t ≡ true
      → written digest cs ≡ written other ds → (digest ≡ other) × Alike cs ds
  -- a canonical file that is read and written again stays as it is
  pub again : (digest : List ℕ) (cs : List Claim) (s : Size) (t : Said) (end : ℕ) → length digest ≡ 32 → Fitting cs → Sized cs s → within s ≡ true
      → file_at (written digest cs) ≡ got t end → written t.head.digest t.claims ≡ written digest cs
