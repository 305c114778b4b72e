-- Every dossier of a run keeps a lawful tree within the limits.
use Rattle.std.proofs.Common.{◌≡◌, ℕ, ◌+◌, ◌<◌, ◌≤◌, true, ◌&&◌, eqb, ltb, leb, List, [], ◌∷◌, length, sym, refl, subst, inl, inr, arith}
use Rattle.std.proofs.lemmas.Bool.{and_parts, and_from, le-leb, leb-true, eqb-true, eq-eqb}
use Rattle.format.specs.declared.Kind.TheVariants.{Sha256, Append, Prepend, Reverse, Hexlify}
use Rattle.format.specs.Operations.{Op, sha256, append, prepend, reverse, hexlify, message_limit, path_limit}
use Rattle.format.specs.Nodes.{Claim}
use Rattle.claim_trees.specs.Tree.{Held, In, filled}
use Rattle.claim_trees.specs.Lawful.{lawful, result_of, argument_fits, op_fits, path_fits, att_fits, claim_fits}
use Rattle.claim_trees.specs.Gathered.{gathered}
use Rattle.claim_trees.specs.Laws.{claims_of, Lawful}
use Rattle.claim_trees.proofs.Gathering.{union_in, gathered_holds, filled_from, alike_same}
use Rattle.claim_trees.proofs.Unions.{kept, blank_lawful, union_kept, gathered_lawful, unique_law}
use Rattle.claim_trees.proofs.Fitting.{every_in}
use Rattle.replay.specs.Messages.{apply, fits}
use Rattle.replay.proofs.Sizes.{sizes_are_lengths}
use Rattle.runs.specs.Contents.{Content, blank, about, tree_in, Dossier, opened, content}
use Rattle.runs.specs.Answers.{Answer}
use Rattle.runs.specs.Adding.{both, small, Added}
use Rattle.runs.specs.Invariants.{keeps_tree, keeps}
use Rattle.runs.specs.Runs.{Event, add, Run, begun, then}
use Rattle.runs.specs.Law.{KeptTree, Kept, Keeps, Tested}
use Rattle.runs.proofs.Stepping.{Grants, Change, joins, stays, change}

-- ---- messages within the limit

result_long : (o : Op) (message : List ℕ) → length (apply o message) ≡ result_of o (length message)
result_long sha256 m = sizes_are_lengths Sha256 [] m
result_long (append a) m = sizes_are_lengths Append a m
result_long (prepend a) m = sizes_are_lengths Prepend a m
result_long reverse m = sizes_are_lengths Reverse [] m
result_long hexlify m = sizes_are_lengths Hexlify [] m

pub path_fits_lem : (path : List Op) (depth : ℕ) (message : List ℕ) → length message ≤ message_limit
    → path_fits depth (length message) path ≡ true → fits path message ≡ true
unfolding fits
path_fits_lem [] depth m l h = le-leb (length m) message_limit l
path_fits_lem (o ∷ path) depth m l h =
    let p = and_parts (op_fits depth (length m) o) (path_fits (depth + 1) (result_of o (length m)) path) h in
    let q = and_parts (ltb depth path_limit) (argument_fits o && leb (result_of o (length m)) message_limit) p.0 in
    let r = and_parts (argument_fits o) (leb (result_of o (length m)) message_limit) q.1 in
    let e = result_long o m in
    let k = leb-true (result_of o (length m)) message_limit r.1 in
    and_from _ _ (le-leb (length m) message_limit l)
    (path_fits_lem path (depth + 1) (apply o m) (subst (λ n. n ≤ message_limit) (sym e) k) (subst (λ n. path_fits (depth + 1) n path ≡ true) (sym e) p.1))

-- ---- trees

pub some_in : {A : Type 0} (x : A) (xs : List A) → In x xs → 0 < length xs
some_in x [] i = absurd i
some_in x (y ∷ ys) i = omega arith

first_in : {A : Type 0} (xs : List A) → 0 < length xs → (x : A) × In x xs
first_in [] l = absurd (omega arith)
first_in (x ∷ xs) l = (x, inl refl)

pub tree_lawful : (s : Content) → Kept s → Lawful (tree_in s)
tree_lawful blank k = blank_lawful
tree_lawful (about d x) k = k.lawful

filled_kept : (d : List ℕ) (x : Held) → length d ≡ 32 → Lawful x → filled x.marks x.branches ≡ true → small x ≡ true → KeptTree d x
filled_kept d x l h s w = record {
  digests = l;
  lawful = h;
  some = s;
  limits = w;
  paths = λ e j.
      let f = and_parts (path_fits 0 32 e.path) (att_fits e.attestation) (every_in claim_fits (claims_of x) (kept x h).fit e j) in
      path_fits_lem e.path 0 d (omega arith) (subst (λ n. path_fits 0 n e.path ≡ true) (sym l) f.0);
}

tree_kept : (d : List ℕ) (x : Held) → length d ≡ 32 → Lawful x → small x ≡ true → (c : Claim) → In c (claims_of x) → KeptTree d x
tree_kept d x l h w c i =
    filled_kept d x l h (filled_from x.marks x.branches (claims_of x) (some_in c (claims_of x) i) (alike_same (claims_of x))) w

-- ---- the test

pub tree_tested : (d : List ℕ) (x : Held) → keeps_tree d x ≡ true → KeptTree d x
unfolding keeps_tree
tree_tested d x h =
    let p = and_parts (eqb (length d) 32) (lawful x.marks x.branches && (filled x.marks x.branches && small x)) h in
    let q = and_parts (lawful x.marks x.branches) (filled x.marks x.branches && small x) p.1 in
    let r = and_parts (filled x.marks x.branches) (small x) q.1 in
    filled_kept d x (eqb-true (length d) 32 p.0) q.0 r.0 r.1

pub tree_tests : (d : List ℕ) (x : Held) → KeptTree d x → keeps_tree d x ≡ true
unfolding keeps_tree
tree_tests d x k = and_from _ _ (eq-eqb (length d) 32 k.digests) (and_from _ _ k.lawful (and_from _ _ k.some k.limits))

pub tested : Tested
tested blank = ((λ h. tt), (λ k. refl))
tested (about d x) = (tree_tested d x, tree_tests d x)

-- ---- what a grant keeps

grant_kept : (old : Content) (file : List ℕ) (new : Content) → Kept old → Grants old file new → Kept new
grant_kept old file new k g =
    let s = g.says in
    let f = unique_law.fits file s g.end g.reads in
    let h = union_kept (tree_in old) (gathered s.claims) (tree_lawful old k) (gathered_lawful s.claims f.fit) in
    let c = first_in s.claims f.some in
    let i = (union_in c.0 (tree_in old) (gathered s.claims)).1 (inr (((gathered_holds s.claims).claims c.0).1 c.1)) in
    subst Kept (sym g.leaves) (tree_kept s.head.digest (both old s) (unique_law.digests file s g.end g.reads) h g.limits c.0 i)

kept_by : (s t : Content) (e : Event) → Kept s → Change s t e → Kept t
kept_by s t e k (joins file q g) = grant_kept s file t k g
kept_by s t e k (stays q n) = subst Kept (sym q) k

pub keep : {es : List Event} {s : Dossier} → Run es s → Kept (content s)
keep begun = tt
keep (then {e} {s} {t} r k) = kept_by (content s) (content t) e (keep r) (change s e t k)

-- an add keeps the test
pub added_keeps : (s : Content) (file : List ℕ) (r : Answer (Unit {0})) (t : Content) → keeps s ≡ true → Added s file r t → keeps t ≡ true
added_keeps s file r t h a = (tested t).1 (kept_by s t (add file r) ((tested s).0 h) (change (opened s) (add file r) (opened t) a))

pub keeps_always : Keeps
keeps_always es s r = keep r
