-- What is answered for a file: the sorted tree of its claims, or why there is none.
use Rattle.std.specs.Prelude.{◌≡◌, ℕ, Bool, true, false, List, length, Ok, Err, Result}
use Rattle.format.specs.Outcome.{got, fault}
use Rattle.format.specs.Files.{Said, file_at}
use Rattle.claim_trees.specs.Tree.{Held}
use Rattle.claim_trees.specs.Size.{within, size_of}
use Rattle.claim_trees.specs.Gathered.{gathered}
use Rattle.proof.specs.declared.fault.Fault.{Fault}
use Rattle.proof.specs.declared.head.Head.{Head}
use Rattle.proof.specs.Faults.{numbered}
use Rattle.proof.specs.Heads.{headed}
use Rattle.claims.specs.declared.tree.Node.{Node}
use Rattle.claims.specs.Models.{node}
use Rattle.gather.specs.declared.trouble.Trouble.{Trouble}
use Rattle.gather.specs.declared.trouble.Trouble.TheVariants.{File, Memory, Large}

-- the file is read whole, and says s
abbrev pub Says : List ℕ → Said → Type 0
Says file s = file_at file ≡ got s (length file)

-- the file is not read whole, by this fault
abbrev pub Refused : List ℕ → Fault → Type 0
Refused file f = file_at file ≡ fault (numbered f).0 (numbered f).1

-- what stands before the top node, where the file is read whole
abbrev pub Heads : List ℕ → Result Head Fault → Type 0
Heads file (Ok h) = (s : Said) × (Says file s × (headed h ≡ s.head))
Heads file (Err f) = Refused file f

-- a tree within the limits
abbrev pub fitting : Held → Bool
fitting x = within (size_of x.marks x.branches)

-- why no tree is given: the file has this fault, or the tree of its claims passes a limit. Memory is short only where the file has no fault
abbrev pub Fails : List ℕ → Trouble → Type 0
Fails file (File f) = Refused file f
Fails file Large = (s : Said) × (Says file s × (fitting (gathered s.claims) ≡ false))
Fails file Memory = (s : Said) × Says file s

-- the tree of the file's claims, where it passes no limit
abbrev pub Gathers : List ℕ → Result Node Trouble → Type 0
Gathers file (Ok n) = (s : Said) × (Says file s × ((node n ≡ gathered s.claims) × (fitting (gathered s.claims) ≡ true)))
Gathers file (Err e) = Fails file e
