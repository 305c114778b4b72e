-- What the types of a dossier carry, as tests.
use Rattle.std.specs.Prelude.{ℕ, Bool, true, ◌&&◌, List, length, ◌==◌}
use Rattle.claim_trees.specs.Tree.{Held, filled}
use Rattle.claim_trees.specs.Lawful.{lawful}
use Rattle.runs.specs.Contents.{Content, blank, about}
use Rattle.runs.specs.Adding.{small}

-- a lawful tree of at least one claim within the limits, under a digest of 32 bytes
unfoldable pub keeps_tree : List ℕ → Held → Bool
keeps_tree digest tree =
    (length digest == 32) && (lawful tree.marks tree.branches && (filled tree.marks tree.branches && small tree))

-- a dossier is blank, or holds such a tree
abbrev pub keeps : Content → Bool
keeps blank = true
keeps (about digest tree) = keeps_tree digest tree
