-- A whole proof file.
use Rattle.std.specs.Prelude.{ℕ, cond, List, [], ◌∷◌, length, ◌==◌, nat_le}
use Rattle.format.specs.Outcome.{Outcome, got, fault, then}
use Rattle.format.specs.Numbers.{byte_at, bytes_at, number_at}
use Rattle.format.specs.Nodes.{Claim, node_at}

-- the 31 bytes that a proof file begins with
unfoldable pub mark : List ℕ
mark =
    0x00 ∷ 0x4f ∷ 0x70 ∷ 0x65 ∷ 0x6e ∷ 0x54 ∷ 0x69 ∷ 0x6d ∷ 0x65 ∷ 0x73 ∷ 0x74 ∷ 0x61 ∷ 0x6d ∷ 0x70 ∷ 0x73 ∷ 0x00
    ∷ 0x00 ∷ 0x50 ∷ 0x72 ∷ 0x6f ∷ 0x6f ∷ 0x66 ∷ 0x00 ∷ 0xbf ∷ 0x89 ∷ 0xe2 ∷ 0xe8 ∷ 0x84 ∷ 0xe8 ∷ 0x92 ∷ 0x94 ∷ []

abbrev pub file_limit : ℕ
file_limit = 65536

-- these bytes, compared one by one
unfoldable pub mark_at : List ℕ → List ℕ → ℕ → Outcome (Unit {0})
mark_at [] file at = got tt at
mark_at (m ∷ ms) file at = then (byte_at file at) (λ b next. cond (b == m) (mark_at ms file next) (fault 3 at))

-- what stands before the top node: the offset of the file hash tag, and the digest
pub record Head : Type 0 where
  pub hash : ℕ
  pub digest : List ℕ

abbrev pub head : ℕ → List ℕ → Head
head hash digest = record { hash = hash; digest = digest }

-- the file hash tag and the digest behind it
abbrev pub digest_at : List ℕ → ℕ → Outcome Head
digest_at file at =
    then (byte_at file at) (λ tag next.
    cond (tag == 0x08) (then (bytes_at 32 file next) (λ digest top. got (head at digest) top)) (fault 5 at))

-- the version, then the rest of the head
abbrev pub version_at : List ℕ → ℕ → Outcome Head
version_at file at = then (number_at file at) (λ version next. cond (version == 1) (digest_at file next) (fault 4 at))

abbrev pub head_at : List ℕ → Outcome Head
head_at file = then (mark_at mark file 0) (λ _ at. version_at file at)

-- what a file says: a digest and claims
pub record Said : Type 0 where
  pub head : Head
  pub claims : List Claim

abbrev pub said : Head → List Claim → Said
said h cs = record { head = h; claims = cs }

-- head and top node, whatever follows them
unfoldable pub top_at : List ℕ → Outcome Said
top_at file = then (head_at file) (λ h top. then (node_at 0 32 file top) (λ cs last. got (said h cs) last))

-- nothing follows
abbrev pub end_at : {A : Type 0} → List ℕ → A → ℕ → Outcome A
end_at file x last = cond (last == length file) (got x last) (fault 12 last)

-- a file within the limit, and its head
abbrev pub start_at : List ℕ → Outcome Head
start_at file = cond (nat_le (length file) file_limit) (head_at file) (fault 1 file_limit)

unfoldable pub file_at : List ℕ → Outcome Said
file_at file = cond (nat_le (length file) file_limit) (then (top_at file) (end_at file)) (fault 1 file_limit)
