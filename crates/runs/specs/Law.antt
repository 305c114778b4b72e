-- What holds of every run.
use Rattle.std.specs.Prelude.{◌≡◌, ℕ, ◌<◌, ◌≤◌, true, ◌⊎◌, List, ◌∷◌, ◌++◌, map, length, take, drop, Some, None, Option, ◌≢◌}
use Rattle.std.specs.List.{slice_get}
use Rattle.format.specs.Outcome.{got}
use Rattle.format.specs.Nodes.{Claim}
use Rattle.format.specs.Files.{Said, said, head, file_at}
use Rattle.format.specs.FirstFault.{Iff}
use Rattle.claim_trees.specs.Tree.{Held, In, Alike, filled}
use Rattle.claim_trees.specs.Order.{claim_order, rising}
use Rattle.claim_trees.specs.Size.{Lists}
use Rattle.claim_trees.specs.Gathered.{written}
use Rattle.claim_trees.specs.Canonical.{Canonical}
use Rattle.claim_trees.specs.Laws.{claims_of, Lawful}
use Rattle.replay.specs.Messages.{fits}
use Rattle.replay.specs.Areas.{left}
use Rattle.judge.specs.declared.verdict.Verdict.{Verdict}
use Rattle.judge.specs.declared.verdict.Verdict.TheVariants.{Confirmed, Rejected, Waiting, Foreign}
use Rattle.judge.specs.Meaning.{Meaning}
use Rattle.runs.specs.declared.report.Row.{Row}
use Rattle.runs.specs.declared.report.Date.{Date}
use Rattle.runs.specs.declared.report.Tally.{Tally}
use Rattle.runs.specs.Contents.{Content, blank, about, claims_in, digest_in, top_in, Dossier, opened, settled, content}
use Rattle.runs.specs.Answers.{Answer, granted, refused, memory}
use Rattle.runs.specs.Adding.{small, Added}
use Rattle.runs.specs.Invariants.{keeps}
use Rattle.runs.specs.Reports.{verdict_on, row_on}
use Rattle.runs.specs.Sheets.{lines_from, last_line}
use Rattle.runs.specs.Runs.{Event, add, settle, reopen, write, row, tally, sheet, Step, Run}

-- ---- what every dossier keeps

-- a lawful tree of at least one claim within the limits, under a digest of 32 bytes; no message on a path is longer than 4,096
pub record KeptTree (digest : List ℕ) (tree : Held) : Type 0 where
  pub digests : length digest ≡ 32
  pub lawful : Lawful tree
  pub some : filled tree.marks tree.branches ≡ true
  pub limits : small tree ≡ true
  pub paths : (c : Claim) → In c (claims_of tree) → fits c.path digest ≡ true

abbrev pub Kept : Content → Type 0
Kept blank = Unit {0}
Kept (about digest tree) = KeptTree digest tree

abbrev pub Keeps : Type 0
Keeps = (es : List Event) (s : Dossier) → Run es s → Kept (content s)

-- the test that the types of a dossier carry says exactly that
abbrev pub Tested : Type 0
Tested = (s : Content) → Iff (keeps s ≡ true) (Kept s)

-- ---- exact union

-- add granted this file in the run
abbrev pub Granted : List Event → List ℕ → Type 0
Granted es file = In (add file (granted tt)) es

-- some file that was granted has the claim
pub record Union (es : List Event) (c : Claim) : Type 0 where
  pub file : List ℕ
  pub says : Said
  pub end : ℕ
  pub grant : Granted es file
  pub reads : file_at file ≡ got says end
  pub has : In c says.claims

-- a file that was granted has this digest
pub record Digests (es : List Event) (digest : List ℕ) : Type 0 where
  pub file : List ℕ
  pub says : Said
  pub end : ℕ
  pub grant : Granted es file
  pub reads : file_at file ≡ got says end
  pub has : digest ≡ says.head.digest

-- the digest is that of every file that was granted, and none before the first
pub record DigestOf (es : List Event) (o : Option (List ℕ)) : Type 0 where
  pub theirs : (file : List ℕ) (s : Said) (end : ℕ) → Granted es file → file_at file ≡ got s end → o ≡ Some s.head.digest
  pub some : (digest : List ℕ) → o ≡ Some digest → Digests es digest
  pub none : o ≡ None → (file : List ℕ) → Granted es file → ⊥

-- exactly the claims of the files that were granted, and their digest
pub record Gathered (es : List Event) (s : Content) : Type 0 where
  pub claims : (c : Claim) → Iff (In c (claims_in s)) (Union es c)
  pub digest : DigestOf es (digest_in s)
  -- what was granted is a proof file
  pub reads : (file : List ℕ) → Granted es file → (f : Said) × (end : ℕ) × (file_at file ≡ got f end)

abbrev pub Gathers : Type 0
Gathers = (es : List Event) (s : Dossier) → Run es s → Gathered es (content s)

-- every beginning of a run is a run
abbrev pub Begins : Type 0
Begins = (later es : List Event) (t : Dossier) → Run (later ++ es) t → (s : Dossier) × Run es s

-- ---- written files

-- the file of what the dossier holds stands in front of the out area, and says exactly that
pub record Written (s : Content) (out : List ℕ) (n : ℕ) (after : List ℕ) : Type 0 where
  pub digest : List ℕ
  pub theirs : digest_in s ≡ Some digest
  pub file : take n after ≡ written digest (claims_in s)
  pub behind : drop n after ≡ drop n out
  pub canonical : Canonical digest (claims_in s) (take n after)
  pub reads : (cs : List Claim) × (file_at (take n after) ≡ got (said (head 32 digest) cs) n) × Alike cs (claims_in s)

abbrev pub Writes : Type 0
Writes = (es : List Event) (s : Dossier) (out after : List ℕ) (n : ℕ) → Run (write out (granted n) after ∷ es) s
    → Written (content s) out n after

-- the same digest and the same claims
abbrev pub Same : Content → Content → Type 0
Same s t = (digest_in s ≡ digest_in t) × Alike (claims_in s) (claims_in t)

-- two files that were written, in one run or in two, are equal exactly where digest and claims agreed
abbrev pub TellsApart : Type 0
TellsApart = (es fs : List Event) (s t : Dossier) (out after lent left : List ℕ) (n k : ℕ)
    → Run (write out (granted n) after ∷ es) s → Run (write lent (granted k) left ∷ fs) t
    → Iff (take n after ≡ take k left) (Same (content s) (content t))

-- and so exactly where the files granted before them had the same claims and the same digest
abbrev pub SameGrants : List Event → List Event → Type 0
SameGrants es fs = ((c : Claim) → Iff (Union es c) (Union fs c)) × ((o : Option (List ℕ)) → Iff (DigestOf es o) (DigestOf fs o))

abbrev pub TellsGrantsApart : Type 0
TellsGrantsApart = (es fs : List Event) (s t : Dossier) (out after lent left : List ℕ) (n k : ℕ)
    → Run (write out (granted n) after ∷ es) s → Run (write lent (granted k) left ∷ fs) t
    → Iff (take n after ≡ take k left) (SameGrants es fs)

-- ---- rows and tallies

-- the claims that are held, each once, in written order
pub record Rows (s : Content) (cs : List Claim) : Type 0 where
  pub ordered : rising claim_order cs ≡ true
  pub lists : Lists (λ c. In c (claims_in s)) cs

-- a held claim has this verdict
abbrev pub Judged : Meaning → Content → Verdict → Claim → Type 0
Judged m s v c = In c (claims_in s) × (verdict_on m (top_in s) c ≡ v)

-- n is the number of the claims with P
abbrev pub Count : (Claim → Type 0) → ℕ → Type 0
Count P n = (cs : List Claim) × Lists P cs × (n ≡ length cs)

-- the k-th row is confirmed at this time
abbrev pub ConfirmedRow : Meaning → Content → ℕ → ℕ → Type 0
ConfirmedRow m s k time = (c : Claim) × (slice_get (claims_in s) k ≡ Some c) × (verdict_on m (top_in s) c ≡ Confirmed time)

-- the least confirmed time, and the lowest of the rows that have it
pub record Earliest (m : Meaning) (s : Content) (d : Date) : Type 0 where
  pub is : ConfirmedRow m s d.row d.time
  pub least : (k time : ℕ) → ConfirmedRow m s k time → (d.time < time) ⊎ ((d.time ≡ time) × (d.row ≤ k))

abbrev pub Dated : Meaning → Content → Option Date → Type 0
Dated m s None = (k time : ℕ) → ConfirmedRow m s k time → ⊥
Dated m s (Some d) = Earliest m s d

pub record TrueTally (m : Meaning) (s : Content) (t : Tally) : Type 0 where
  pub confirmed : Count (λ c. (time : ℕ) × Judged m s (Confirmed time) c) t.confirmed
  pub rejected : Count (Judged m s Rejected) t.rejected
  pub waiting : Count (Judged m s Waiting) t.waiting
  pub foreign : Count (Judged m s Foreign) t.foreign
  pub date : Dated m s t.date

abbrev pub Tallies : Type 0
Tallies = (es : List Event) (s : Dossier) (m : Meaning) (work after : List ℕ) (t : Tally)
    → Run (tally m work (granted t) after ∷ es) s → TrueTally m (content s) t

-- a row that was granted is that of the k-th claim in written order
pub record TrueRow (m : Meaning) (s : Content) (k : ℕ) (r : Row) : Type 0 where
  pub claim : Claim
  pub ordered : Rows s (claims_in s)
  pub is : slice_get (claims_in s) k ≡ Some claim
  pub says : r ≡ row_on m (top_in s) claim

abbrev pub Reads : Type 0
Reads = (es : List Event) (s : Dossier) (m : Meaning) (k : ℕ) (work after : List ℕ) (r : Row)
    → Run (row m k work (granted r) after ∷ es) s → TrueRow m (content s) k r

-- the lines of the sheet are those rows, and its last line is a true tally
pub record TrueSheet (m : Meaning) (s : Content) (out : List ℕ) (n : ℕ) (after : List ℕ) : Type 0 where
  pub counts : Tally
  pub ordered : Rows s (claims_in s)
  pub tallies : TrueTally m s counts
  pub sheet : take n after ≡ lines_from 0 (map (row_on m (top_in s)) (claims_in s)) ++ last_line counts
  pub behind : drop n after ≡ drop n out

abbrev pub ListsRows : Type 0
ListsRows = (es : List Event) (s : Dossier) (m : Meaning) (out work out_after work_after : List ℕ) (n : ℕ)
    → Run (sheet m out work (granted n) out_after work_after ∷ es) s → TrueSheet m (content s) out n out_after

-- ---- what a dossier does not take, and what a refusal keeps

pub record Protocol : Type 0 where
  -- no file is added to a settled dossier
  pub settled_add : (s : Content) (t : Dossier) (file : List ℕ) (r : Answer (Unit {0})) → Step (settled s) (add file r) t → ⊥
  -- and nothing is read of an open one
  pub open_row : (s : Content) (t : Dossier) (m : Meaning) (k : ℕ) (work after : List ℕ) (r : Answer Row)
      → Step (opened s) (row m k work r after) t → ⊥
  pub open_write : (s : Content) (t : Dossier) (out after : List ℕ) (r : Answer ℕ) → Step (opened s) (write out r after) t → ⊥
  pub open_tally : (s : Content) (t : Dossier) (m : Meaning) (work after : List ℕ) (r : Answer Tally)
      → Step (opened s) (tally m work r after) t → ⊥
  pub open_sheet : (s : Content) (t : Dossier) (m : Meaning) (out work out_after work_after : List ℕ) (r : Answer ℕ)
      → Step (opened s) (sheet m out work r out_after work_after) t → ⊥

-- not granted
abbrev pub Refusal : {A : Type 0} → Answer A → Type 0
Refusal (granted x) = ⊥
Refusal (refused number offset) = Unit {0}
Refusal memory = Unit {0}

abbrev pub Refused : Event → Type 0
Refused (add file answer) = Refusal answer
Refused settle = ⊥
Refused reopen = ⊥
Refused (write out answer out_after) = Refusal answer
Refused (row judge k work answer work_after) = Refusal answer
Refused (tally judge work answer work_after) = Refusal answer
Refused (sheet judge out work answer out_after work_after) = Refusal answer

-- a refusal keeps the dossier and the out area
pub record Refusals : Type 0 where
  pub dossier : (s : Dossier) (e : Event) (t : Dossier) → Step s e t → Refused e → t ≡ s
  pub write_out : (s t : Dossier) (out after : List ℕ) (r : Answer ℕ) → Step s (write out r after) t → Refusal r → after ≡ out
  pub sheet_out : (s t : Dossier) (m : Meaning) (out work out_after work_after : List ℕ) (r : Answer ℕ)
      → Step s (sheet m out work r out_after work_after) t → Refusal r → out_after ≡ out

-- ---- work areas

-- whatever is answered, a work area of 4,096 bytes and more is left with its first 4,096 zero and the others kept, a shorter one as it was
pub record Clears : Type 0 where
  pub row_work : (s t : Dossier) (m : Meaning) (k : ℕ) (work after : List ℕ) (r : Answer Row) → Step s (row m k work r after) t → after ≡ left work
  pub tally_work : (s t : Dossier) (m : Meaning) (work after : List ℕ) (r : Answer Tally) → Step s (tally m work r after) t → after ≡ left work
  pub sheet_work : (s t : Dossier) (m : Meaning) (out work out_after work_after : List ℕ) (r : Answer ℕ)
      → Step s (sheet m out work r out_after work_after) t → work_after ≡ left work

-- ---- one outcome

-- an add has an outcome, and no other but want of memory; those of the other calls are equations
pub record OneOutcome : Type 0 where
  pub some : (s : Content) (file : List ℕ) → (r : Answer (Unit {0})) × (t : Content) × (r ≢ memory) × Added s file r t
  pub one : (s : Content) (file : List ℕ) (r q : Answer (Unit {0})) (t u : Content) → (r ≢ memory) → (q ≢ memory)
      → Added s file r t → Added s file q u → (r ≡ q) × (t ≡ u)

-- ---- the law of runs

pub record Law : Type 0 where
  pub keeps : Keeps
  pub begins : Begins
  pub gathers : Gathers
  pub writes : Writes
  pub tells_apart : TellsApart
  pub tells_grants_apart : TellsGrantsApart
  pub tallies : Tallies
  pub rows : Reads
  pub sheets : ListsRows
  pub protocol : Protocol
  pub refusals : Refusals
  pub one_outcome : OneOutcome

-- what the test of a dossier's types says, and what is left of work areas
pub record Carried : Type 0 where
  pub tested : Tested
  pub clears : Clears
