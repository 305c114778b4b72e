-- The addresses that a text lists, one a line.
use Rattle.std.specs.Prelude.{◌≡◌, ℕ, ◌<◌, Bool, true, false, not, ◌&&◌, List, [], ◌∷◌, length, Decides, ◌==◌, ◌≢◌, slice_index, slice_index_or}
use Rattle.std.specs.List.{slice_split, list_any, join_with_byte}
use Rattle.format.specs.Attestations.{same}

-- the lines of a text: each is ended by 0a, or by the end
unfoldable pub lines : List ℕ → List (List ℕ)
lines text = slice_split (λ b. b == 0x0a) text

-- whether some line equals the address
unfoldable pub some_line : List (List ℕ) → List ℕ → Bool
some_line lines address = list_any (λ line. same line address) lines

abbrev pub empty : List ℕ → Bool
empty [] = true
empty (b ∷ bs) = false

-- an empty line lists nothing
abbrev pub listed : List ℕ → List ℕ → Bool
listed text address = not (empty address) && some_line (lines text) address

-- the same, as a relation
pub record Listed (text address : List ℕ) : Type 0 where
  pub some : address ≢ []
  pub line : (k : ℕ) × (k < length (lines text)) × (slice_index_or (lines text) k [] ≡ address)

abbrev pub ListedMeansALine : Type 0
ListedMeansALine = (text address : List ℕ) → Decides (listed text address) (Listed text address)

-- lines with 0a between them
abbrev pub joined : List (List ℕ) → List ℕ
joined lines = join_with_byte 0x0a lines

abbrev pub LinesSplitTheText : Type 0
LinesSplitTheText =
    (text : List ℕ)
    → (joined (lines text) ≡ text)
    × ((k i : ℕ) → k < length (lines text) → i < length (slice_index_or (lines text) k []) → slice_index (slice_index_or (lines text) k []) i ≢ 0x0a)
