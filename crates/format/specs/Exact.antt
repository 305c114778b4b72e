-- The reading accepts exactly the files of the grammar, and gives what the grammar says they claim.
use Rattle.std.specs.Prelude.{◌≡◌, ℕ, List, length}
use Rattle.format.specs.Outcome.{got}
use Rattle.format.specs.Files.{Said, file_at}
use Rattle.format.specs.Grammar.{File}

abbrev pub Exact : Type 0
Exact = (file : List ℕ) (s : Said)
    → (file_at file ≡ got s (length file) → File file s) × (File file s → file_at file ≡ got s (length file))
