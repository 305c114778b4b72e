-- What a step changes: an add that was granted joins its file, every other call keeps the content.
use Rattle.std.proofs.Common.{◌≡◌, ℕ, Bool, true, false, cond, List, [], ◌∷◌, sym, refl, ◌∙◌, arith}
use Rattle.format.specs.Outcome.{Outcome, got, fault}
use Rattle.format.specs.Files.{Said, file_at}
use Rattle.runs.specs.Contents.{Content, Dossier, opened, settled, content}
use Rattle.runs.specs.Answers.{Answer, granted, refused, memory}
use Rattle.runs.specs.Adding.{agrees, both, joined, small, adding_by, adding, Added}
use Rattle.runs.specs.Runs.{Event, add, settle, reopen, write, row, tally, sheet, Step, then}
use Rattle.runs.specs.Law.{Begins, Protocol, OneOutcome}

pub differ : {P : Type 0} → ◌≡◌ {A = ℕ} 0 1 → P
differ e = absurd (omega arith)

-- a file that was granted: it was read, its digest agrees, and the union is within the limits
pub record Grants (old : Content) (file : List ℕ) (new : Content) : Type 0 where
  pub says : Said
  pub end : ℕ
  pub reads : file_at file ≡ got says end
  pub agree : agrees old says.head.digest ≡ true
  pub limits : small (both old says) ≡ true
  pub leaves : new ≡ joined old says

grants_if : (old : Content) (file : List ℕ) (new : Content) (s : Said) (n : ℕ) (a b : Bool)
    → file_at file ≡ got s n → agrees old s.head.digest ≡ a → small (both old s) ≡ b
    → cond a (cond b (granted (joined old s)) (refused 14 0)) (refused 13 s.head.hash) ≡ granted new → Grants old file new
grants_if old file new s n true true r p q e =
    record { says = s; end = n; reads = r; agree = p; limits = q; leaves = (let k : new ≡ joined old s = cc in k) }
grants_if old file new s n true false r p q e = differ (cc)
grants_if old file new s n false b r p q e = differ (cc)

grants_by : (old : Content) (file : List ℕ) (new : Content) (o : Outcome Said) → file_at file ≡ o → adding_by old o ≡ granted new → Grants old file new
grants_by old file new (got s n) r e = grants_if old file new s n (agrees old s.head.digest) (small (both old s)) r refl refl e
grants_by old file new (fault c o) r e = differ (cc)

pub grants : (old : Content) (file : List ℕ) (new : Content) → adding old file ≡ granted new → Grants old file new
grants old file new e = grants_by old file new (file_at file) refl e

-- ---- the two kinds of steps

pub data Change (s t : Content) (e : Event) : Type 0 where
  joins : (file : List ℕ) → e ≡ add file (granted tt) → Grants s file t → Change s t e
  stays : t ≡ s → ((file : List ℕ) → add file (granted tt) ≡ e → ⊥) → Change s t e

added_change : (s t : Content) (file : List ℕ) (r : Answer (Unit {0})) → Added s file r t → Change s t (add file r)
added_change s t file (granted u) k = joins file refl (grants s file t k)
added_change s t file (refused n o) k = stays k.1 (λ f e. differ (cc))
added_change s t file memory k = stays k.1 (λ f e. differ (cc))

pub change : (s : Dossier) (e : Event) (t : Dossier) → Step s e t → Change (content s) (content t) e
change (opened s) (add file r) (opened t) k = added_change s t file r k
change (opened s) (add file r) (settled t) k = absurd k
change (opened s) settle (opened t) k = absurd k
change (opened s) settle (settled t) k = stays k (λ f e. differ (cc))
change (opened s) reopen t k = absurd k
change (opened s) (write o r a) t k = absurd k
change (opened s) (row m i w r a) t k = absurd k
change (opened s) (tally m w r a) t k = absurd k
change (opened s) (sheet m o w r a b) t k = absurd k
change (settled s) (add file r) t k = absurd k
change (settled s) settle t k = absurd k
change (settled s) reopen (opened t) k = stays k (λ f e. differ (cc))
change (settled s) reopen (settled t) k = absurd k
change (settled s) (write o r a) (opened t) k = absurd k
change (settled s) (write o r a) (settled t) k = stays k.1 (λ f e. differ (cc))
change (settled s) (row m i w r a) (opened t) k = absurd k
change (settled s) (row m i w r a) (settled t) k = stays k.1 (λ f e. differ (cc))
change (settled s) (tally m w r a) (opened t) k = absurd k
change (settled s) (tally m w r a) (settled t) k = stays k.1 (λ f e. differ (cc))
change (settled s) (sheet m o w r a b) (opened t) k = absurd k
change (settled s) (sheet m o w r a b) (settled t) k = stays k.1 (λ f e. differ (cc))

-- ---- beginnings, and what is not taken

pub begins : Begins
begins [] es t r = (t, r)
begins (e ∷ later) es t (then {s} r k) = begins later es s r

pub protocol : Protocol
protocol = record {
  settled_add = λ s t file r k. k;
  open_row = λ s t m i work after r k. k;
  open_write = λ s t out after r k. k;
  open_tally = λ s t m work after r k. k;
  open_sheet = λ s t m out work a b r k. k;
}

-- ---- one outcome

never_if : (new : Content) (at : ℕ) (a b : Bool) → cond a (cond b (granted new) (refused 14 0)) (refused 13 at) ≡ memory → ⊥
never_if new at true true e = differ (cc)
never_if new at true false e = differ (cc)
never_if new at false b e = differ (cc)

never_memory : (old : Content) (o : Outcome Said) → adding_by old o ≡ memory → ⊥
never_memory old (got s n) e = never_if (joined old s) s.head.hash (agrees old s.head.digest) (small (both old s)) e
never_memory old (fault c o) e = differ (cc)

abbrev OutcomeOf : Content → List ℕ → Type 0
OutcomeOf s file = (r : Answer (Unit {0})) × (t : Content) × (r ≡ memory → ⊥) × Added s file r t

some_by : (s : Content) (file : List ℕ) (a : Answer Content) → adding s file ≡ a → OutcomeOf s file
some_by s file (granted t) e = (granted tt, t, (λ k. differ (cc)), e)
some_by s file (refused n o) e = (refused n o, s, (λ k. differ (cc)), (e, refl))
some_by s file memory e = absurd (never_memory s (file_at file) e)

same_refusal : {A : Type 0} (n o m p : ℕ) → ◌≡◌ {A = Answer Content} (refused n o) (refused m p) → ◌≡◌ {A = Answer A} (refused n o) (refused m p)
same_refusal n o m p e = let x : n ≡ m = cc in let y : o ≡ p = cc in λ i. refused (x i) (y i)

one_by : (s : Content) (file : List ℕ) (r q : Answer (Unit {0})) (t u : Content) → (r ≡ memory → ⊥) → (q ≡ memory → ⊥)
    → Added s file r t → Added s file q u → (r ≡ q) × (t ≡ u)
one_by s file (granted x) (granted y) t u h k a b =
    let e : ◌≡◌ {A = Answer Content} (granted t) (granted u) = sym a ∙ b in (refl, (let d : t ≡ u = cc in d))
one_by s file (granted x) (refused n o) t u h k a b =
    let e : ◌≡◌ {A = Answer Content} (granted t) (refused n o) = sym a ∙ b.0 in differ (cc)
one_by s file (granted x) memory t u h k a b = absurd (k refl)
one_by s file (refused n o) (granted y) t u h k a b =
    let e : ◌≡◌ {A = Answer Content} (refused n o) (granted u) = sym a.0 ∙ b in differ (cc)
one_by s file (refused n o) (refused m p) t u h k a b = (same_refusal n o m p (sym a.0 ∙ b.0), a.1 ∙ sym b.1)
one_by s file (refused n o) memory t u h k a b = absurd (k refl)
one_by s file memory q t u h k a b = absurd (h refl)

pub one_outcome : OneOutcome
one_outcome = record { some = λ s file. some_by s file (adding s file) refl; one = one_by }
