-- What writing a file answers, and what it leaves in the out area.
use Rattle.std.specs.Prelude.{ℕ, Bool, cond, ◌&&◌, List, ◌++◌, length, drop, Some, None, Option, nat_le}
use Rattle.format.specs.Files.{file_limit}
use Rattle.claim_trees.specs.Tree.{Held}
use Rattle.claim_trees.specs.Bytes.{file_bytes}
pub use Rattle.claims.specs.Sizes.{capped}

-- the answer, and the out area after
pub record Wrote : Type 0 where
  pub answer : Option ℕ
  pub out : List ℕ

abbrev pub wrote : Option ℕ → List ℕ → Wrote
wrote answer out = record { answer = answer; out = out }

-- whether the area has room for a file, and the file is none that every reader refuses for its length
abbrev pub roomy : List ℕ → List ℕ → Bool
roomy file out = nat_le (length file) (length out) && nat_le (length file) file_limit

-- a file in front of what stood behind it, and its length; or nothing, and the area as it was
abbrev pub putting : List ℕ → List ℕ → Wrote
putting file out = cond (roomy file out) (wrote (Some (length file)) (file ++ drop (length file) out)) (wrote None out)

-- the same of the file of a digest and a tree
abbrev pub writing : List ℕ → Held → List ℕ → Wrote
writing digest x out = putting (file_bytes digest x.marks x.branches) out
