-- What writing the file answers and leaves.
use Rattle.std.proofs.Common.{◌≡◌, ℕ, ◌≤◌, List, length, Some, None, Option, arith}
use Rattle.std.specs.Option.{ok_or}
use Rattle.std.proofs.lemmas.Bool.Decides.{nat_tests}
use Rattle.claim_trees.specs.Bytes.{file_bytes}
use Rattle.claim_trees.proofs.WrittenFiles.{written_law}
use Rattle.claims.specs.Models.{node}
use Rattle.written.specs.Writing.{wrote, putting}
use Rattle.runs.specs.Answers.{fitted, placed}
use Rattle.runs.proofs.Keeping.{tree_tested}
use Rattle.rows.specs.declared.held.About.{About}
use Rattle.dossier.specs.declared.refusal.Refusal.TheVariants.{Room}
use Rattle.dossier.specs.Refusals.{answered}

-- a file that every reader takes for its length is refused only where the area has no room
pub put : (file out after : List ℕ) (r : Option ℕ) → length file ≤ 38465 → wrote r after ≡ putting file out
    → (answered (ok_or r Room) ≡ fitted file out) × (after ≡ placed file out)
put file out after (Some n) h e = (grind (arith, nat_tests), grind (arith, nat_tests))
put file out after None h e = (grind (arith, nat_tests), grind (arith, nat_tests))

-- a dossier's file is never too long for a reader
pub short : (a : About) → length (file_bytes a.digest (node a.top).marks (node a.top).branches) ≤ 38465
short a =
    let k = tree_tested a.digest (node a.top) a.kept in
    written_law.short a.digest (node a.top) k.digests k.lawful k.limits
