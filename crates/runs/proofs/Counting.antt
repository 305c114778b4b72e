-- How a tally comes to count the claims with each verdict.
use Rattle.std.proofs.Common.{◌≡◌, ℕ, ◌+◌, Bool, true, false, cond, ◌⊎◌, List, [], ◌∷◌, length, sym, refl, ap, ◌∙◌, inl, inr, ⊎_elim, arith}
use Rattle.format.specs.Nodes.{Claim}
use Rattle.format.specs.FirstFault.{Iff}
use Rattle.claim_trees.specs.Tree.{In, Apart}
use Rattle.judge.specs.declared.verdict.Verdict.{Verdict}
use Rattle.judge.specs.declared.verdict.Verdict.TheVariants.{Confirmed, Rejected, Waiting, Foreign}
use Rattle.runs.specs.declared.report.Tally.{Tally}
use Rattle.runs.specs.Reports.{none_counted, counted, tallied}
use Rattle.runs.specs.Law.{Count}
use Rattle.runs.proofs.Stepping.{differ}

-- ---- the members that pass a test

those : (Claim → Bool) → List Claim → List Claim
those p [] = []
those p (c ∷ cs) = cond (p c) (c ∷ those p cs) (those p cs)

module _ (x c : Claim) (xs : List Claim) where
  in_if : (b : Bool) → In x (cond b (c ∷ xs) xs) → ((x ≡ c) × (b ≡ true)) ⊎ In x xs
  in_if true i = ⊎_elim (λ e. inl (e, refl)) (λ j. inr j) i
  in_if false i = inr i

  if_in : (b : Bool) → ((x ≡ c) × (b ≡ true)) ⊎ In x xs → In x (cond b (c ∷ xs) xs)
  if_in true i = ⊎_elim (λ e. inl e.0) (λ j. inr j) i
  if_in false i = ⊎_elim (λ e. differ (let h = e.1 in cc)) (λ j. j) i

apart_if : (c : Claim) (xs : List Claim) (b : Bool) → (In c xs → ⊥) → Apart xs → Apart (cond b (c ∷ xs) xs)
apart_if c xs true n a = (n, a)
apart_if c xs false n a = a

passes : (p : Claim → Bool) (cs : List Claim) (x : Claim) → In x (those p cs) → In x cs × (p x ≡ true)
unfolding those
passes p [] x i = absurd i
passes p (c ∷ cs) x i = ⊎_elim
    (λ e. (inl e.0, ap p e.0 ∙ e.1))
    (λ j. let h = passes p cs x j in (inr h.0, h.1))
    (in_if x c (those p cs) (p c) i)

passed : (p : Claim → Bool) (cs : List Claim) (x : Claim) → In x cs → p x ≡ true → In x (those p cs)
unfolding those
passed p [] x i h = absurd i
passed p (c ∷ cs) x (inl e) h = if_in x c (those p cs) (p c) (inl (e, ap p (sym e) ∙ h))
passed p (c ∷ cs) x (inr i) h = if_in x c (those p cs) (p c) (inr (passed p cs x i h))

those_apart : (p : Claim → Bool) (cs : List Claim) → Apart cs → Apart (those p cs)
unfolding those
those_apart p [] a = tt
those_apart p (c ∷ cs) a = apart_if c (those p cs) (p c) (λ i. a.0 (passes p cs c i).0) (those_apart p cs a.1)

-- ---- one of the counts, and the test of its verdict

abbrev more : Bool → ℕ → ℕ
more b n = cond b (n + 1) n

many_if : (b : Bool) (n : ℕ) (c : Claim) (cs : List Claim) → more b n + length cs ≡ n + length (cond b (c ∷ cs) cs)
many_if true n c cs = omega arith
many_if false n c cs = refl

module _ (n : Tally → ℕ) (q : Verdict → Bool) (law : (t : Tally) (k : ℕ) (v : Verdict) → n (counted t k v) ≡ more (q v) (n t)) (f : Claim → Verdict) where
  many : (cs : List Claim) (k : ℕ) (t : Tally) → n (tallied f k t cs) ≡ n t + length (those (λ c. q (f c)) cs)
  unfolding tallied those
  many [] k t = omega arith
  many (c ∷ cs) k t =
      many cs (k + 1) (counted t k (f c))
      ∙ (ap (λ (z : ℕ). z + length (those (λ c. q (f c)) cs)) (law t k (f c)) ∙ many_if (q (f c)) (n t) c (those (λ c. q (f c)) cs))

  counts : (P : Verdict → Type 0) → ((v : Verdict) → Iff (q v ≡ true) (P v)) → n none_counted ≡ 0
      → (cs : List Claim) → Apart cs → Count (λ c. In c cs × P (f c)) (n (tallied f 0 none_counted cs))
  counts P test zero cs a = (
    those (λ c. q (f c)) cs,
    record {
      members = λ c. (
        (λ i. let h = passes (λ c. q (f c)) cs c i in (h.0, (test (f c)).0 h.1)),
        (λ h. passed (λ c. q (f c)) cs c h.0 ((test (f c)).1 h.1)),
      );
      apart = those_apart (λ c. q (f c)) cs a;
    },
    many cs 0 none_counted ∙ (ap (λ (z : ℕ). z + length (those (λ c. q (f c)) cs)) zero ∙ (let e : 0 + length (those (λ c. q (f c)) cs) ≡ length (those (λ c. q (f c)) cs) = omega arith in e)),
  )

-- ---- the four counts

abbrev is_confirmed : Verdict → Bool
is_confirmed (Confirmed t) = true
is_confirmed Rejected = false
is_confirmed Waiting = false
is_confirmed Foreign = false

abbrev is_rejected : Verdict → Bool
is_rejected (Confirmed t) = false
is_rejected Rejected = true
is_rejected Waiting = false
is_rejected Foreign = false

abbrev is_waiting : Verdict → Bool
is_waiting (Confirmed t) = false
is_waiting Rejected = false
is_waiting Waiting = true
is_waiting Foreign = false

abbrev is_foreign : Verdict → Bool
is_foreign (Confirmed t) = false
is_foreign Rejected = false
is_foreign Waiting = false
is_foreign Foreign = true

confirmed_is : (v : Verdict) → Iff (is_confirmed v ≡ true) ((t : ℕ) × (v ≡ Confirmed t))
confirmed_is (Confirmed t) = ((λ h. (t, refl)), (λ h. refl))
confirmed_is Rejected = ((λ h. differ (cc)), (λ h. differ (let k = h.1 in cc)))
confirmed_is Waiting = ((λ h. differ (cc)), (λ h. differ (let k = h.1 in cc)))
confirmed_is Foreign = ((λ h. differ (cc)), (λ h. differ (let k = h.1 in cc)))

rejected_is : (v : Verdict) → Iff (is_rejected v ≡ true) (v ≡ Rejected)
rejected_is (Confirmed t) = ((λ h. differ (cc)), (λ h. differ (cc)))
rejected_is Rejected = ((λ h. refl), (λ h. refl))
rejected_is Waiting = ((λ h. differ (cc)), (λ h. differ (cc)))
rejected_is Foreign = ((λ h. differ (cc)), (λ h. differ (cc)))

waiting_is : (v : Verdict) → Iff (is_waiting v ≡ true) (v ≡ Waiting)
waiting_is (Confirmed t) = ((λ h. differ (cc)), (λ h. differ (cc)))
waiting_is Rejected = ((λ h. differ (cc)), (λ h. differ (cc)))
waiting_is Waiting = ((λ h. refl), (λ h. refl))
waiting_is Foreign = ((λ h. differ (cc)), (λ h. differ (cc)))

foreign_is : (v : Verdict) → Iff (is_foreign v ≡ true) (v ≡ Foreign)
foreign_is (Confirmed t) = ((λ h. differ (cc)), (λ h. differ (cc)))
foreign_is Rejected = ((λ h. differ (cc)), (λ h. differ (cc)))
foreign_is Waiting = ((λ h. differ (cc)), (λ h. differ (cc)))
foreign_is Foreign = ((λ h. refl), (λ h. refl))

confirmed_more : (t : Tally) (k : ℕ) (v : Verdict) → (counted t k v).confirmed ≡ more (is_confirmed v) t.confirmed
confirmed_more t k (Confirmed u) = refl
confirmed_more t k Rejected = refl
confirmed_more t k Waiting = refl
confirmed_more t k Foreign = refl

rejected_more : (t : Tally) (k : ℕ) (v : Verdict) → (counted t k v).rejected ≡ more (is_rejected v) t.rejected
rejected_more t k (Confirmed u) = refl
rejected_more t k Rejected = refl
rejected_more t k Waiting = refl
rejected_more t k Foreign = refl

waiting_more : (t : Tally) (k : ℕ) (v : Verdict) → (counted t k v).waiting ≡ more (is_waiting v) t.waiting
waiting_more t k (Confirmed u) = refl
waiting_more t k Rejected = refl
waiting_more t k Waiting = refl
waiting_more t k Foreign = refl

foreign_more : (t : Tally) (k : ℕ) (v : Verdict) → (counted t k v).foreign ≡ more (is_foreign v) t.foreign
foreign_more t k (Confirmed u) = refl
foreign_more t k Rejected = refl
foreign_more t k Waiting = refl
foreign_more t k Foreign = refl

module _ (f : Claim → Verdict) (cs : List Claim) (a : Apart cs) where
  pub confirmed_counted : Count (λ c. In c cs × ((t : ℕ) × (f c ≡ Confirmed t))) (tallied f 0 none_counted cs).confirmed
  confirmed_counted = counts (λ t. t.confirmed) is_confirmed confirmed_more f (λ v. (t : ℕ) × (v ≡ Confirmed t)) confirmed_is refl cs a

  pub rejected_counted : Count (λ c. In c cs × (f c ≡ Rejected)) (tallied f 0 none_counted cs).rejected
  rejected_counted = counts (λ t. t.rejected) is_rejected rejected_more f (λ v. v ≡ Rejected) rejected_is refl cs a

  pub waiting_counted : Count (λ c. In c cs × (f c ≡ Waiting)) (tallied f 0 none_counted cs).waiting
  waiting_counted = counts (λ t. t.waiting) is_waiting waiting_more f (λ v. v ≡ Waiting) waiting_is refl cs a

  pub foreign_counted : Count (λ c. In c cs × (f c ≡ Foreign)) (tallied f 0 none_counted cs).foreign
  foreign_counted = counts (λ t. t.foreign) is_foreign foreign_more f (λ v. v ≡ Foreign) foreign_is refl cs a
