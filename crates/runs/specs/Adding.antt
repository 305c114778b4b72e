-- What adding a file answers and leaves.
use Rattle.std.specs.Prelude.{◌≡◌, ℕ, Bool, true, cond, List}
use Rattle.format.specs.Outcome.{Outcome, got, fault}
use Rattle.format.specs.Attestations.{same}
use Rattle.format.specs.Files.{Said, file_at}
use Rattle.claim_trees.specs.Tree.{Held}
use Rattle.claim_trees.specs.Union.{union}
use Rattle.claim_trees.specs.Size.{within, size_of}
use Rattle.claim_trees.specs.Gathered.{gathered}
use Rattle.runs.specs.Contents.{Content, blank, about, tree_in}
use Rattle.runs.specs.Answers.{Answer, granted, refused, memory}

-- the digest is that of the dossier, if it has one
abbrev pub agrees : Content → List ℕ → Bool
agrees blank digest = true
agrees (about own tree) digest = same own digest

-- the claims of both, as one tree
abbrev pub both : Content → Said → Held
both old s = union (tree_in old) (gathered s.claims)

abbrev pub joined : Content → Said → Content
joined old s = about s.head.digest (both old s)

-- a tree within the size limits
abbrev pub small : Held → Bool
small tree = within (size_of tree.marks tree.branches)

-- a file that was read: 13 at its file hash tag where the digest differs, then 14 where the union passes a limit
abbrev pub joining : Content → Said → Answer Content
joining old s =
    cond (agrees old s.head.digest)
    (cond (small (both old s)) (granted (joined old s)) (refused 14 0))
    (refused 13 s.head.hash)

abbrev pub adding_by : Content → Outcome Said → Answer Content
adding_by old (got s end) = joining old s
adding_by old (fault number offset) = refused number offset

-- the content afterwards, or the refusal: the reader's comes first
abbrev pub adding : Content → List ℕ → Answer Content
adding old file = adding_by old (file_at file)

-- where memory may be wanting: the file is read and its digest agrees
abbrev pub NeedsMemory : Answer Content → Type 0
NeedsMemory (granted new) = Unit {0}
NeedsMemory (refused number offset) = number ≡ 14
NeedsMemory memory = ⊥

-- an add to an open dossier; a refusal keeps the content
abbrev pub Added : Content → List ℕ → Answer (Unit {0}) → Content → Type 0
Added old file (granted u) new = adding old file ≡ granted new
Added old file (refused number offset) new = (adding old file ≡ refused number offset) × (new ≡ old)
Added old file memory new = NeedsMemory (adding old file) × (new ≡ old)
