-- What the parts of a file are read into, one inside another.
use Rattle.std.specs.Prelude.{◌≡◌, ℕ, ◌<◌, false, List, length, Ok, Err, Result}
use Rattle.format.specs.Outcome.{Outcome, got, fault}
use Rattle.format.specs.Nodes.{Claim, branch_by, node_at}
use Rattle.format.specs.Files.{Said}
use Rattle.claim_trees.specs.Tree.{Held}
use Rattle.claim_trees.specs.Union.{union}
use Rattle.claim_trees.specs.Gathered.{gathered}
use Rattle.proof.specs.declared.fault.Fault.{Fault}
use Rattle.proof.specs.declared.item.Content.{Content}
use Rattle.proof.specs.declared.item.Content.TheVariants.{Pending, Bitcoin, Unknown}
use Rattle.proof.specs.declared.item.Item.{Item}
use Rattle.proof.specs.declared.item.Item.TheVariants.{Operation, Attestation}
use Rattle.proof.specs.Faults.{numbered}
use Rattle.claims.specs.declared.tree.Node.{Node}
use Rattle.claims.specs.Models.{node}
use Rattle.gather.specs.declared.trouble.Trouble.{Trouble}
use Rattle.gather.specs.declared.trouble.Trouble.TheVariants.{File, Memory, Large}
use Rattle.gather.specs.Trees.{Says, Refused, Fails, fitting}

-- a tag has eight bytes
abbrev pub Tagged : Content → Type 0
Tagged (Pending address) = Unit {0}
Tagged (Bitcoin height) = Unit {0}
Tagged (Unknown tag payload) = length tag.now ≡ 8

abbrev pub TaggedItem : Item → Type 0
TaggedItem (Operation kind argument offset first) = Unit {0}
TaggedItem (Attestation content payload offset first) = Tagged content

-- an item and the node below it where it is an operation
unfoldable pub branch_at : ℕ → ℕ → List ℕ → ℕ → Outcome (List Claim)
branch_at depth size file at = branch_by node_at depth size file at

-- these claims, one at least, are read up to next, and x is their tree
pub record Read (o : Outcome (List Claim)) (x : Held) (next : ℕ) : Type 0 where
  pub claims : List Claim
  pub reads : o ≡ got claims next
  pub some : 0 < length claims
  pub tree : x ≡ gathered claims

-- what is read, if anything, passes a limit
abbrev pub Passes : Outcome (List Claim) → Type 0
Passes (got cs next) = fitting (gathered cs) ≡ false
Passes (fault n at) = Unit {0}

-- why there is no tree
abbrev pub Stops : Outcome (List Claim) → Trouble → Type 0
Stops o (File f) = o ≡ fault (numbered f).0 (numbered f).1
Stops o Large = Passes o
Stops o Memory = Unit {0}

abbrev pub Built : Outcome (List Claim) → Result Node Trouble → ℕ → Type 0
Built o (Ok n) next = Read o (node n) next
Built o (Err e) next = Stops o e

-- the union of x with what is read
abbrev pub Joined : Held → Outcome (List Claim) → Result Node Trouble → ℕ → Type 0
Joined x o (Ok n) next = (y : Held) × (Read o y next × (node n ≡ union x y))
Joined x o (Err e) next = Stops o e

-- whether a whole file is read
abbrev pub Scans : List ℕ → Result (Unit {0}) Fault → Type 0
Scans file (Ok u) = (s : Said) × Says file s
Scans file (Err f) = Refused file f

-- the tree of a whole file, before it is measured
abbrev pub Grows : List ℕ → Result Node Trouble → Type 0
Grows file (Ok n) = (s : Said) × (Says file s × (node n ≡ gathered s.claims))
Grows file (Err e) = Fails file e
