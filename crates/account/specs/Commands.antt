-- What the words after the program's name ask for.
use Rattle.std.specs.Prelude.{ℕ, cond, ◌&&◌, List, [], drop, length, codes, ◌==◌, nat_le, bytes_eq, slice_index_or}
use Rattle.std.specs.Borrow.{Bor}
use Rattle.account.specs.declared.commands.Command.{Command}
use Rattle.account.specs.declared.commands.Command.TheVariants.{Usage, Version, Show, Messages, Headers, Unknown}

pub data Asked : Type 0 where
  usage : Asked
  version : Asked
  shown : List ℕ → Asked
  messages : List ℕ → Asked
  headers : List ℕ → List (Bor (List ℕ)) → Asked
  unknown : Asked

abbrev pub asked : Command → Asked
asked Usage = usage
asked Version = version
asked (Show path) = shown path.now
asked (Messages path) = messages path.now
asked (Headers path options) = headers path.now options.now
asked Unknown = unknown

-- the word at a place, or an empty one
abbrev pub word : List (Bor (List ℕ)) → ℕ → List ℕ
word words at = (slice_index_or words at (record { ref_ptr = (0, 0); now = [] })).now

abbrev pub asked_by : List (Bor (List ℕ)) → Asked
asked_by words =
    cond (length words == 0) usage
    (cond (length words == 1 && bytes_eq (word words 0) (codes "help")) usage
    (cond (length words == 1 && bytes_eq (word words 0) (codes "version")) version
    (cond (length words == 2 && bytes_eq (word words 0) (codes "show")) (shown (word words 1))
    (cond (length words == 3 && (bytes_eq (word words 0) (codes "show") && bytes_eq (word words 1) (codes "--messages"))) (messages (word words 2))
    (cond (nat_le 2 (length words) && bytes_eq (word words 0) (codes "headers")) (headers (word words 1) (drop 2 words))
    unknown)))))
