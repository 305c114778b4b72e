-- The words of a line.
use Rattle.std.specs.Prelude.{◌≡◌, ℕ, ◌<◌, not, List, [], length, take, filter, ◌==◌, min, slice_index_or}
use Rattle.std.specs.Borrow.{Bor}
use Rattle.std.specs.List.{slice_split}
use Rattle.account.specs.Commands.{word}
use Rattle.script.specs.declared.words.Words.{Words}

-- a space ends a word, and a word is not empty
abbrev pub words_of : List ℕ → List (List ℕ)
words_of text = filter (λ w. not (length w == 0)) (slice_split (λ c. c == 32) text)

-- the word at a place, or an empty one
abbrev pub word_at : ℕ → List (List ℕ) → List ℕ
word_at k ws = slice_index_or ws k []

-- how many there are, and the first nine
pub record Split (ws : List (List ℕ)) (r : Words) : Type 0 where
  pub count : r.count ≡ length ws
  pub first : (k : ℕ) → k < 9 → word r.first k ≡ word_at k ws

abbrev pub first_nine : Words → List (Bor (List ℕ))
first_nine r = take (min r.count 9) r.first
