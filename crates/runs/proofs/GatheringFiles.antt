-- A dossier holds exactly the claims of the files that were granted.
use Rattle.std.proofs.Common.{◌≡◌, ℕ, true, List, [], ◌∷◌, Some, None, Option, sym, refl, ap, ◌∙◌, subst, inl, inr, ⊎_elim}
use Rattle.std.proofs.lemmas.Slice.Eq.{bytes_eq-Decides}
use Rattle.format.specs.Outcome.{Outcome, got}
use Rattle.format.specs.Nodes.{Claim}
use Rattle.format.specs.Files.{Said, file_at}
use Rattle.format.specs.FirstFault.{Iff}
use Rattle.claim_trees.specs.Tree.{through, In}
use Rattle.claim_trees.specs.Gathered.{gathered}
use Rattle.claim_trees.specs.Laws.{claims_of}
use Rattle.claim_trees.proofs.Gathering.{union_in, gathered_holds}
use Rattle.runs.specs.Contents.{Content, blank, about, tree_in, claims_in, digest_in, Dossier, content}
use Rattle.runs.specs.Answers.{granted}
use Rattle.runs.specs.Adding.{agrees, joined}
use Rattle.runs.specs.Runs.{Event, add, Run, begun, then}
use Rattle.runs.specs.Law.{Granted, Union, DigestOf, Gathered, Gathers, Same, SameGrants}
use Rattle.runs.proofs.Stepping.{differ, Change, joins, stays, change}

gathered_blank : Gathered [] blank
gathered_blank = record {
  claims = λ c. ((λ i. absurd i), (λ u. absurd u.grant));
  digest = record { theirs = λ file s n g r. absurd g; some = λ d e. differ (cc); none = λ e file g. g };
  reads = λ file g. absurd g;
}

-- ---- a call that is no granted add

later : {es : List Event} {e : Event} {c : Claim} → Union es c → Union (e ∷ es) c
later u = record { file = u.file; says = u.says; end = u.end; grant = inr u.grant; reads = u.reads; has = u.has }

gathered_other : (es : List Event) (e : Event) (s : Content) → ((file : List ℕ) → add file (granted tt) ≡ e → ⊥) → Gathered es s → Gathered (e ∷ es) s
gathered_other es e s never g =
    let back : (file : List ℕ) → Granted (e ∷ es) file → Granted es file = λ file m. ⊎_elim (λ k. absurd (never file k)) (λ k. k) m in
    record {
      claims = λ c. (
        (λ i. later ((g.claims c).0 i)),
        (λ u. (g.claims c).1 (record { file = u.file; says = u.says; end = u.end; grant = back u.file u.grant; reads = u.reads; has = u.has })),
      );
      digest = record {
        theirs = λ file f n m r. g.digest.theirs file f n (back file m) r;
        some = λ d k.
            let u = g.digest.some d k in
            record { file = u.file; says = u.says; end = u.end; grant = inr u.grant; reads = u.reads; has = u.has };
        none = λ k file m. g.digest.none k file (back file m);
      };
      reads = λ file m. g.reads file (back file m);
    }

-- ---- a granted add

agreed : (s : Content) (d e : List ℕ) → agrees s d ≡ true → digest_in s ≡ Some e → d ≡ e
agreed blank d e a k = differ (cc)
agreed (about own x) d e a k = let q = (bytes_eq-Decides own d).0 a in cc

-- the claims in written order are those of the tree
tree_claims : (s : Content) → claims_in s ≡ claims_of (tree_in s)
unfolding through
tree_claims blank = refl
tree_claims (about d x) = refl

one_event : (f g : List ℕ) → add f (granted tt) ≡ add g (granted tt) → f ≡ g
one_event f g e = cc

one_said : (s t : Said) (m n : ℕ) → ◌≡◌ {A = Outcome Said} (got s m) (got t n) → s ≡ t
one_said s t m n e = cc

said_same : (f g : List ℕ) (s t : Said) (m n : ℕ) → f ≡ g → file_at f ≡ got s m → file_at g ≡ got t n → s ≡ t
said_same f g s t m n e p q = one_said s t m n (sym p ∙ (ap file_at e ∙ q))

gathered_join : (es : List Event) (s : Content) (file : List ℕ) → Gathered es s → (f : Said) (n : ℕ) → file_at file ≡ got f n → agrees s f.head.digest ≡ true
    → Gathered (add file (granted tt) ∷ es) (joined s f)
gathered_join es s file g f n r a = record {
  claims = λ c.
      let u = union_in c (tree_in s) (gathered f.claims) in
      let h = (gathered_holds f.claims).claims c in (
        (λ i. ⊎_elim
            (λ j. later ((g.claims c).0 (subst (In c) (sym (tree_claims s)) j)))
            (λ j. record { file = file; says = f; end = n; grant = inl refl; reads = r; has = h.0 j })
            (u.0 i)),
        (λ v. ⊎_elim
            (λ q. u.1 (inr (h.1 (subst (λ (t : Said). In c t.claims) (said_same v.file file v.says f v.end n (one_event v.file file q) v.reads r) v.has))))
            (λ q. u.1 (inl (subst (In c) (tree_claims s)
            ((g.claims c).1 (record { file = v.file; says = v.says; end = v.end; grant = q; reads = v.reads; has = v.has })))))
            v.grant),
      );
  digest = record {
    theirs = λ file2 t m q p. ⊎_elim
        (λ e. ap (λ (z : Said). Some z.head.digest) (said_same file file2 f t n m (sym (one_event file2 file e)) r p))
        (λ j. ap (λ (z : List ℕ). Some z) (agreed s f.head.digest t.head.digest a (g.digest.theirs file2 t m j p)))
        q;
    some = λ d e. record { file = file; says = f; end = n; grant = inl refl; reads = r; has = (let k : d ≡ f.head.digest = cc in k) };
    none = λ e file2 q. differ (cc);
  };
  reads = λ file2 q. ⊎_elim (λ e. (f, n, ap file_at (one_event file2 file e) ∙ r)) (λ j. g.reads file2 j) q;
}

gathered_by : (es : List Event) (s t : Content) (e : Event) → Gathered es s → Change s t e → Gathered (e ∷ es) t
gathered_by es s t e g (joins file q k) =
    subst (λ (x : Event). Gathered (x ∷ es) t) (sym q)
    (subst (Gathered (add file (granted tt) ∷ es)) (sym k.leaves) (gathered_join es s file g k.says k.end k.reads k.agree))
gathered_by es s t e g (stays q never) = subst (Gathered (e ∷ es)) (sym q) (gathered_other es e s never g)

pub gather : {es : List Event} {s : Dossier} → Run es s → Gathered es (content s)
gather begun = gathered_blank
gather (then {es} {e} {s} {t} r k) = gathered_by es (content s) (content t) e (gather r) (change s e t k)

-- ---- a run has one digest, and what was granted is what is held

one_digest : (es : List Event) (o p : Option (List ℕ)) → DigestOf es o → DigestOf es p → o ≡ p
one_digest es None None a b = refl
one_digest es None (Some d) a b = let u = b.some d refl in a.theirs u.file u.says u.end u.grant u.reads ∙ ap (λ (z : List ℕ). Some z) (sym u.has)
one_digest es (Some d) p a b =
    let u = a.some d refl in ap (λ (z : List ℕ). Some z) u.has ∙ sym (b.theirs u.file u.says u.end u.grant u.reads)

pub same_grants : (es fs : List Event) (s t : Content) → Gathered es s → Gathered fs t → Iff (Same s t) (SameGrants es fs)
same_grants es fs s t g h = (
  (λ a. (
    (λ c. (
      (λ u. (h.claims c).0 ((a.1 c).0 ((g.claims c).1 u))),
      (λ u. (g.claims c).0 ((a.1 c).1 ((h.claims c).1 u))),
    )),
    (λ o. (
      (λ k. subst (DigestOf fs) (sym (one_digest es o (digest_in s) k g.digest ∙ a.0)) h.digest),
      (λ k. subst (DigestOf es) (sym (one_digest fs o (digest_in t) k h.digest ∙ sym a.0)) g.digest),
    )),
  )),
  (λ m. (
    one_digest fs (digest_in s) (digest_in t) ((m.1 (digest_in s)).0 g.digest) h.digest,
    (λ c. (
      (λ i. (h.claims c).1 ((m.0 c).0 ((g.claims c).0 i))),
      (λ i. (g.claims c).1 ((m.0 c).1 ((h.claims c).0 i))),
    )),
  )),
)

-- what was granted before a call that is no granted add
gathered_before : (es : List Event) (s t : Content) (e : Event) → ((file : List ℕ) → add file (granted tt) ≡ e → ⊥) → Gathered es s → Change s t e → Gathered es t
gathered_before es s t e never g (joins file q k) = absurd (never file (sym q))
gathered_before es s t e never g (stays q n) = subst (Gathered es) (sym q) g

pub gather_before : {es : List Event} {e : Event} {t : Dossier} → ((file : List ℕ) → add file (granted tt) ≡ e → ⊥) → Run (e ∷ es) t → Gathered es (content t)
gather_before {es} {e} {t} never (then {s} r k) = gathered_before es (content s) (content t) e never (gather r) (change s e t k)

pub gathers : Gathers
gathers es s r = gather r
