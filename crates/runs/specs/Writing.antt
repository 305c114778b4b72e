-- What writing the file answers and leaves in the out area.
use Rattle.std.specs.Prelude.{◌≡◌, ℕ, List}
use Rattle.claim_trees.specs.Bytes.{file_bytes}
use Rattle.runs.specs.Contents.{Content, blank, about}
use Rattle.runs.specs.Answers.{Answer, refused, fitted, placed}

-- 15 of a blank dossier; else the length of the file, or 16
abbrev pub writing : Content → List ℕ → Answer ℕ
writing blank out = refused 15 0
writing (about digest tree) out = fitted (file_bytes digest tree.marks tree.branches) out

abbrev pub writing_leaves : Content → List ℕ → List ℕ
writing_leaves blank out = out
writing_leaves (about digest tree) out = placed (file_bytes digest tree.marks tree.branches) out

pub record Wrote (s : Content) (lent : List ℕ) (r : Answer ℕ) (after : List ℕ) : Type 0 where
  pub answer : r ≡ writing s lent
  pub out : after ≡ writing_leaves s lent
