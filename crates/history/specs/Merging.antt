-- The merge: files added one after another to a new dossier, which is then settled, tallied and written.
use Rattle.std.specs.Prelude.{◌≡◌, ℕ, List, [], ◌∷◌, map, take, Some, Ok, Err, Result}
use Rattle.std.specs.List.{slice_get}
use Rattle.format.specs.Outcome.{got}
use Rattle.format.specs.Nodes.{Claim}
use Rattle.format.specs.Files.{Said, file_at}
use Rattle.format.specs.FirstFault.{Iff}
use Rattle.claim_trees.specs.Tree.{In}
use Rattle.replay.specs.Areas.{left}
use Rattle.judge.specs.Meaning.{Meaning}
use Rattle.runs.specs.declared.report.Tally.{Tally as Counts}
use Rattle.runs.specs.Contents.{Content, claims_in, digest_in, opened, settled}
use Rattle.runs.specs.Answers.{granted}
use Rattle.runs.specs.Adding.{Added}
use Rattle.runs.specs.Writing.{Wrote}
use Rattle.runs.specs.Reports.{Tallied}
use Rattle.runs.specs.Runs.{Event, add, settle, write, tally, Run}
use Rattle.runs.specs.Law.{Written, TrueTally}
use Rattle.dossier.specs.declared.phases.Open.{Open}
use Rattle.dossier.specs.declared.refusal.Refusal.{Refusal}
use Rattle.dossier.specs.Models.{content_of}
use Rattle.dossier.specs.Phases.{open_dossier}
use Rattle.dossier.specs.Refusals.{refusal}
use Rattle.history.specs.declared.merged.Piece.{Piece}
use Rattle.history.specs.declared.merged.Merged.{Merged}
use Rattle.history.specs.declared.merged.Stopped.{Stopped}
use Rattle.history.specs.declared.merged.Stopped.TheVariants as stopped

abbrev pub files_of : List Piece → List (List ℕ)
files_of pieces = map (λ p. p.file.now) pieces

-- each file added and granted, behind what came before; the last is the first of the run
unfoldable pub grants_onto : List Event → List (List ℕ) → List Event
grants_onto es [] = es
grants_onto es (f ∷ fs) = grants_onto (add f (granted tt) ∷ es) fs

abbrev pub grants : List (List ℕ) → List Event
grants files = grants_onto [] files

-- some piece has the claim
pub record SomePiece (files : List (List ℕ)) (c : Claim) : Type 0 where
  pub file : List ℕ
  pub says : Said
  pub end : ℕ
  pub piece : In file files
  pub reads : file_at file ≡ got says end
  pub has : In c says.claims

-- all pieces were granted, and out and work were lent to a write and a tally that were granted too
pub record Merges (files : List (List ℕ)) (m : Meaning) (out work : List ℕ) (s : Content) (n : ℕ) (t : Counts) (after : List ℕ) : Type 0 where
  pub run : Run (write out (granted n) after ∷ tally m work (granted t) (left work) ∷ settle ∷ grants files) (settled s)
  -- each piece is a proof file, and all are of one digest
  pub reads : (file : List ℕ) → In file files → (f : Said) × (end : ℕ) × (file_at file ≡ got f end)
  pub digest : (file : List ℕ) (f : Said) (end : ℕ) → In file files → file_at file ≡ got f end → digest_in s ≡ Some f.head.digest
  -- the claims that are held are exactly those of the pieces
  pub union : (c : Claim) → Iff (In c (claims_in s)) (SomePiece files c)
  -- the file is the canonical one of that digest and those claims, and is read back with exactly these
  pub written : Written s out n after
  -- the tally is true to the judge
  pub tally_true : TrueTally m s t

-- the pieces before the k-th were granted, and that one is refused
pub record PieceRefused (files : List (List ℕ)) (k : ℕ) (e : Refusal) : Type 0 where
  pub content : Content
  pub file : List ℕ
  pub run : Run (grants (take k files)) (opened content)
  pub is : slice_get files k ≡ Some file
  pub refused : Added content file (refusal e) content

-- all pieces were granted, but the tally is refused
pub record TallyRefused (files : List (List ℕ)) (m : Meaning) (work : List ℕ) (e : Refusal) (after : List ℕ) : Type 0 where
  pub content : Content
  pub run : Run (settle ∷ grants files) (settled content)
  pub refused : Tallied content m work (refusal e) after

-- or the write is
pub record WriteRefused (files : List (List ℕ)) (out : List ℕ) (e : Refusal) (after : List ℕ) : Type 0 where
  pub content : Content
  pub run : Run (settle ∷ grants files) (settled content)
  pub refused : Wrote content out (refusal e) after

-- the dossier of all pieces, or the first that is refused
abbrev pub Gathering : List (List ℕ) → Result Open Stopped → Type 0
Gathering files (Ok d) = Run (grants files) (open_dossier d)
Gathering files (Err (stopped.Piece k e)) = PieceRefused files k e
Gathering files (Err (stopped.Tally e)) = ⊥
Gathering files (Err (stopped.Write e)) = ⊥

-- what a merge answers and leaves
abbrev pub Merging : List (List ℕ) → Meaning → List ℕ → List ℕ → Result Merged Stopped → List ℕ → List ℕ → Type 0
Merging files m out work (Ok r) out_after work_after =
    Merges files m out work (content_of r.dossier.held) r.length r.tally out_after × (work_after ≡ left work)
Merging files m out work (Err (stopped.Piece k e)) out_after work_after = PieceRefused files k e × (out_after ≡ out) × (work_after ≡ work)
Merging files m out work (Err (stopped.Tally e)) out_after work_after = TallyRefused files m work e work_after × (out_after ≡ out) × (work_after ≡ left work)
Merging files m out work (Err (stopped.Write e)) out_after work_after = WriteRefused files out e out_after × (out_after ≡ out) × (work_after ≡ left work)
