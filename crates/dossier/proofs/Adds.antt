-- What adding answers, case by case, and that a refusal keeps the content.
use Rattle.std.proofs.Common.{◌≡◌, ℕ, Bool, true, false, cond, List, length, IsErrAnd, Ok, Err, Result, sym, refl, ap, ◌∙◌, subst}
use Rattle.std.proofs.lemmas.Result.{err_from_is_err_and}
use Rattle.format.specs.Outcome.{Outcome, got}
use Rattle.format.specs.Nodes.{Claim}
use Rattle.format.specs.Files.{Head, Said}
use Rattle.claim_trees.specs.Tree.{Held}
use Rattle.claim_trees.specs.Union.{union}
use Rattle.claim_trees.specs.Gathered.{gathered}
use Rattle.claim_trees.specs.Laws.{claims_of}
use Rattle.claim_trees.proofs.Gathering.{holds_own, holds_one, gathered_append}
use Rattle.claim_trees.proofs.Unions.{kept}
use Rattle.proof.specs.declared.fault.Fault.{Fault}
use Rattle.proof.specs.declared.head.Head.{Head as Read}
use Rattle.proof.specs.Faults.{numbered}
use Rattle.claims.specs.declared.tree.Node.{Node}
use Rattle.claims.specs.Models.{node}
use Rattle.gather.specs.declared.trouble.Trouble.{Trouble}
use Rattle.gather.specs.declared.trouble.Trouble.TheVariants.{File, Memory, Large}
use Rattle.gather.specs.Trees.{Says, Refused, Heads, Fails, fitting, Gathers}
use Rattle.gather.proofs.Larger.{passes_right}
use Rattle.runs.specs.Contents.{Content, about, tree_in}
use Rattle.runs.specs.Answers.{granted, refused}
use Rattle.runs.specs.Adding.{agrees, both, small, joined, adding_by, adding, NeedsMemory, Added}
use Rattle.runs.specs.Invariants.{keeps}
use Rattle.runs.proofs.Keeping.{tested, tree_lawful}
use Rattle.dossier.specs.declared.refusal.Refusal.{Refusal}
use Rattle.dossier.specs.Refusals.{refusal, answered, troubled}

one_said : (s t : Said) (m n : ℕ) → ◌≡◌ {A = Outcome Said} (got s m) (got t n) → s ≡ t
one_said s t m n e = cc

-- a lawful tree is the one of its claims, so a union with what is too large is too large
passes_union : (old : Content) (ds : List Claim) → keeps old ≡ true → fitting (gathered ds) ≡ false → small (union (tree_in old) (gathered ds)) ≡ false
passes_union old ds k p =
    let x = tree_in old in
    let h = kept x (tree_lawful old ((tested old).0 k)) in
    let e : x ≡ gathered (claims_of x) = holds_one x (claims_of x) (holds_own x.marks x.branches h.marks h.branches) in
    ap (λ (y : Held). small (union y (gathered ds))) e ∙ (ap small (gathered_append (claims_of x) ds) ∙ passes_right (claims_of x) ds p)

pub add_fault : (old : Content) (file : List ℕ) (f : Fault) → Refused file f → adding old file ≡ refused (numbered f).0 (numbered f).1
add_fault old file f e = ap (adding_by old) e

-- whether memory is granted or the limit refuses, both may want memory
may_need : (s : Content) (b : Bool) → NeedsMemory (cond b (granted s) (refused 14 0))
may_need s true = tt
may_need s false = refl

-- what is answered for a file that was read, by what the two tests say
decided : (old : Content) (file : List ℕ) (s : Said) (a b : Bool) → Says file s → agrees old s.head.digest ≡ a → small (both old s) ≡ b
    → adding old file ≡ cond a (cond b (granted (joined old s)) (refused 14 0)) (refused 13 s.head.hash)
decided old file s a b e p q =
    ap (adding_by old) e ∙ (λ i. cond (p i) (cond (q i) (granted (joined old s)) (refused 14 0)) (refused 13 s.head.hash))

module _ (old : Content) (file : List ℕ) (h : Read) (r : Heads file (Ok h)) where
  is_digest : h.digest.now ≡ r.0.head.digest
  is_digest = ap (λ (z : Head). z.digest) r.1.1

  is_hash : h.hash ≡ r.0.head.hash
  is_hash = ap (λ (z : Head). z.hash) r.1.1

  is_agreed : (b : Bool) → agrees old h.digest.now ≡ b → agrees old r.0.head.digest ≡ b
  is_agreed b a = ap (agrees old) (sym is_digest) ∙ a

  pub add_differs : agrees old h.digest.now ≡ false → adding old file ≡ refused 13 h.hash
  add_differs a =
      decided old file r.0 false (small (both old r.0)) r.1.0 (is_agreed false a) refl ∙ ap (λ (n : ℕ). refused 13 n) (sym is_hash)

  -- the tree that was gathered is that of what was read
  is_tree : (n : Node) (t : Said) → Says file t → node n ≡ gathered t.claims → union (tree_in old) (node n) ≡ both old r.0
  is_tree n t e g =
      ap (λ (x : Held). union (tree_in old) x) (g ∙ ap (λ (z : Said). gathered z.claims) (one_said t r.0 (length file) (length file) (sym e ∙ r.1.0)))

  module _ (a : agrees old h.digest.now ≡ true) where
    pub add_trouble : keeps old ≡ true → (t : Trouble) → Fails file t → Added old file (refusal (troubled t)) old
    add_trouble k (File f) e = (add_fault old file f e, refl)
    add_trouble k Large e =
        let q = one_said e.0 r.0 (length file) (length file) (sym e.1.0 ∙ r.1.0) in
        let f = passes_union old e.0.claims k e.1.1 in
        (decided old file r.0 true false r.1.0 (is_agreed true a) (ap (λ (z : Said). small (both old z)) (sym q) ∙ f), refl)
    add_trouble k Memory e = (
      subst NeedsMemory (sym (decided old file r.0 true (small (both old r.0)) r.1.0 (is_agreed true a) refl))
          (may_need (joined old r.0) (small (both old r.0))),
      refl,
    )

    -- as the code hands it on
    pub add_stops : keeps old ≡ true → (a : Result (Unit {0}) Refusal) (t : Trouble) → IsErrAnd a (λ z. z ≡ troubled t) → Fails file t → Added old file (answered a) old
    add_stops k a t e f =
        let p = err_from_is_err_and a e in
        subst (λ (z : Result (Unit {0}) Refusal). Added old file (answered z) old) (sym (p.1 ∙ ap Err p.2)) (add_trouble k t f)

    pub add_granted : (n : Node) → Gathers file (Ok n) → small (union (tree_in old) (node n)) ≡ true
        → adding old file ≡ granted (about h.digest.now (union (tree_in old) (node n)))
    add_granted n g f =
        let q = is_tree n g.0 g.1.0 g.1.1.0 in
        decided old file r.0 true true r.1.0 (is_agreed true a) (ap small (sym q) ∙ f)
        ∙ (λ i. granted (about (sym is_digest i) (sym q i)))
