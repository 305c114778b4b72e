-- What the code does in steps of its own: a window of sixteen words that moves over the schedule, and bytes written over others.
use Rattle.std.specs.Prelude.{ℕ, zero, suc, ◌+◌, List, [], ◌∷◌, ◌++◌, length, take, drop, slice_index}
use Rattle.sha256.specs.Sha256.{scheduled}

-- sixteen words of a schedule moved on by one: the first goes, and the next comes in at the end
unfoldable pub moved : List ℕ → List ℕ
moved w =
    slice_index w 1 ∷ slice_index w 2 ∷ slice_index w 3 ∷ slice_index w 4 ∷ slice_index w 5 ∷ slice_index w 6 ∷ slice_index w 7 ∷ slice_index w 8
    ∷ slice_index w 9 ∷ slice_index w 10 ∷ slice_index w 11 ∷ slice_index w 12 ∷ slice_index w 13 ∷ slice_index w 14 ∷ slice_index w 15
    ∷ scheduled w 16 ∷ []

-- the window moved on by n words
unfoldable pub window : List ℕ → ℕ → List ℕ
window w zero = w
window w (suc n) = moved (window w n)

-- xs with ys written over it from place i on
unfoldable pub overwritten : List ℕ → ℕ → List ℕ → List ℕ
overwritten xs i ys = take i xs ++ (ys ++ drop (i + length ys) xs)
