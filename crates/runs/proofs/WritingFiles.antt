-- What a granted write put into the out area, and when two files are equal.
use Rattle.std.proofs.Common.{◌≡◌, ℕ, ◌<◌, Bool, true, false, cond, ltb, List, ◌∷◌, ◌++◌, length, take, drop, Some, sym, refl, ap, ◌∙◌, subst}
use lib.Seq.{take-append_seam, drop-append_seam}
use Rattle.format.specs.Outcome.{Outcome, got}
use Rattle.format.specs.Nodes.{claim}
use Rattle.format.specs.Files.{Said, said, head, file_at}
use Rattle.format.specs.FirstFault.{Iff}
use Rattle.claim_trees.specs.Tree.{Held, Alike}
use Rattle.claim_trees.specs.Bytes.{file_bytes}
use Rattle.claim_trees.specs.Gathered.{gathered, written}
use Rattle.claim_trees.specs.Canonical.{Canonical}
use Rattle.claim_trees.specs.Laws.{claims_of, Lawful}
use Rattle.claim_trees.proofs.Listing.{listed}
use Rattle.claim_trees.proofs.Unique.{witness}
use Rattle.claim_trees.proofs.Gathering.{alike_same, alike_back, alike_trans, holds_own, holds_one}
use Rattle.claim_trees.proofs.Unions.{kept}
use Rattle.claim_trees.proofs.WrittenFiles.{written_law}
use Rattle.claim_trees.proofs.CanonicalFiles.{canonical_law}
use Rattle.runs.specs.Contents.{Content, blank, about, claims_in, Dossier, opened, settled, content}
use Rattle.runs.specs.Answers.{Answer, granted, refused, fitted, placed}
use Rattle.runs.specs.Writing.{Wrote}
use Rattle.runs.specs.Runs.{Event, write, Step, Run, then}
use Rattle.runs.specs.Law.{KeptTree, Kept, Written, Writes, Same, TellsApart, TellsGrantsApart}
use Rattle.runs.proofs.Stepping.{differ}
use Rattle.runs.proofs.Keeping.{keep, some_in}
use Rattle.runs.proofs.GatheringFiles.{same_grants, gather_before}

-- ---- bytes in front of an out area

pub record Put (bytes out : List ℕ) (n : ℕ) (after : List ℕ) : Type 0 where
  pub long : n ≡ length bytes
  pub front : take n after ≡ bytes
  pub behind : drop n after ≡ drop n out

put_if : (bytes out after : List ℕ) (n : ℕ) (b : Bool) → ◌≡◌ {A = Answer ℕ} (granted n) (cond b (refused 16 0) (granted (length bytes)))
    → after ≡ cond b out (bytes ++ drop (length bytes) out) → Put bytes out n after
put_if bytes out after n true a e = differ (cc)
put_if bytes out after n false a e =
    let l : n ≡ length bytes = cc in
    record {
      long = l;
      front = (λ i. take (l i) (e i)) ∙ take-append_seam bytes (drop (length bytes) out);
      behind = (λ i. drop (l i) (e i)) ∙ (drop-append_seam bytes (drop (length bytes) out) ∙ ap (λ k. drop k out) (sym l));
    }

pub put : (bytes out after : List ℕ) (n : ℕ) → granted n ≡ fitted bytes out → after ≡ placed bytes out → Put bytes out n after
put bytes out after n a e = put_if bytes out after n (ltb (length out) (length bytes)) a e

-- ---- the written file

some_claim : (d : List ℕ) (x : Held) → KeptTree d x → 0 < length (claims_of x)
some_claim d x k =
    let w = witness x.marks x.branches k.some (kept x k.lawful).branches in
    some_in (claim w.0 w.1) (claims_of x) ((listed w.0 w.1 x.marks x.branches).1 w.2)

-- a lawful tree is the one of its claims
own_tree : (x : Held) → Lawful x → x ≡ gathered (claims_of x)
own_tree x h = let k = kept x h in holds_one x (claims_of x) (holds_own x.marks x.branches k.marks k.branches)

own_file : (d : List ℕ) (x : Held) → Lawful x → file_bytes d x.marks x.branches ≡ written d (claims_of x)
own_file d x h = ap (λ (y : Held). file_bytes d y.marks y.branches) (own_tree x h)

written_tree : (d : List ℕ) (x : Held) (out after : List ℕ) (n : ℕ) → KeptTree d x → Put (file_bytes d x.marks x.branches) out n after
    → Written (about d x) out n after
written_tree d x out after n k p =
    let e : take n after ≡ written d (claims_of x) = p.front ∙ own_file d x k.lawful in
    record {
      digest = d;
      theirs = refl;
      file = e;
      behind = p.behind;
      canonical = subst (Canonical d (claims_of x)) (sym e) (canonical_law.canonical d (claims_of x) (some_claim d x k));
      reads = (
        claims_of x,
        ap file_at p.front ∙ (written_law.returns d x k.digests k.lawful k.some k.limits
            ∙ ap (λ (m : ℕ). got (said (head 32 d) (claims_of x)) m) (sym p.long)),
        alike_same (claims_of x),
      );
    }

written_by : (s : Content) (out after : List ℕ) (n : ℕ) → Kept s → Wrote s out (granted n) after → Written s out n after
written_by blank out after n k w = differ (let a = w.answer in cc)
written_by (about d x) out after n k w = written_tree d x out after n k (put (file_bytes d x.marks x.branches) out after n w.answer w.out)

wrote_by : (s t : Dossier) (out after : List ℕ) (r : Answer ℕ) → Step s (write out r after) t → Wrote (content t) out r after
wrote_by (opened s) t out after r k = absurd k
wrote_by (settled s) (opened t) out after r k = absurd k
wrote_by (settled s) (settled t) out after r k = subst (λ (z : Content). Wrote z out r after) (sym k.1) k.0

last_write : {es : List Event} {t : Dossier} {out after : List ℕ} {r : Answer ℕ} → Run (write out r after ∷ es) t → Wrote (content t) out r after
last_write {t} {out} {after} {r} (then {s} q k) = wrote_by s t out after r k

pub writes : Writes
writes es s out after n r = written_by (content s) out after n (keep r) (last_write r)

-- ---- equal files

one_said : (s t : Said) (m n : ℕ) → ◌≡◌ {A = Outcome Said} (got s m) (got t n) → s ≡ t
one_said s t m n e = cc

some_same : (d e : List ℕ) → ◌≡◌ (Some d) (Some e) → d ≡ e
some_same d e k = cc

same_files : (s t : Content) (out after lent left : List ℕ) (n k : ℕ) → Written s out n after → Written t lent k left
    → Iff (take n after ≡ take k left) (Same s t)
same_files s t out after lent left n k w v = (
  (λ e.
      let cs = w.reads in let ds = v.reads in
      let q : said (head 32 w.digest) cs.0 ≡ said (head 32 v.digest) ds.0
      = one_said (said (head 32 w.digest) cs.0) (said (head 32 v.digest) ds.0) n k (sym cs.1 ∙ (ap file_at e ∙ ds.1)) in
      let p : cs.0 ≡ ds.0 = ap (λ (f : Said). f.claims) q in (
        w.theirs ∙ (ap (λ (f : Said). Some f.head.digest) q ∙ sym v.theirs),
        alike_trans (claims_in s) cs.0 (claims_in t) (alike_back cs.0 (claims_in s) cs.2) (subst (λ z. Alike z (claims_in t)) (sym p) ds.2),
      )),
  (λ a.
      let d : w.digest ≡ v.digest = some_same w.digest v.digest (sym w.theirs ∙ (a.0 ∙ v.theirs)) in
      w.file ∙ (canonical_law.same w.digest (claims_in s) (claims_in t) a.1 ∙ (ap (λ (z : List ℕ). written z (claims_in t)) d ∙ sym v.file))),
)

pub tells_apart : TellsApart
tells_apart es fs s t out after lent left n k r q =
    same_files (content s) (content t) out after lent left n k (writes es s out after n r) (writes fs t lent left k q)

pub tells_grants_apart : TellsGrantsApart
tells_grants_apart es fs s t out after lent left n k r q =
    let e = tells_apart es fs s t out after lent left n k r q in
    let g = same_grants es fs (content s) (content t) (gather_before (λ f d. differ (cc)) r) (gather_before (λ f d. differ (cc)) q) in
    ((λ h. g.0 (e.0 h)), (λ h. e.1 (g.1 h)))
