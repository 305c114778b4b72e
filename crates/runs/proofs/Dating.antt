-- How a tally comes to have the earliest confirmed time with its lowest row.
use Rattle.std.proofs.Common.{◌≡◌, ℕ, zero, suc, ◌+◌, ◌<◌, ◌≤◌, Bool, true, false, cond, ltb, ◌⊎◌, List, [], ◌∷◌, Some, None, Option, refl, ap, ◌∙◌, subst, inl, inr, ⊎_elim, arith}
use Rattle.std.proofs.lemmas.Bool.{ltb-true, ltb-false, cases_order}
use Rattle.std.specs.List.{slice_get}
use Rattle.format.specs.Nodes.{Claim}
use Rattle.format.specs.FirstFault.{Iff}
use Rattle.judge.specs.declared.verdict.Verdict.{Verdict}
use Rattle.judge.specs.declared.verdict.Verdict.TheVariants.{Confirmed, Rejected, Waiting, Foreign}
use Rattle.runs.specs.declared.report.Date.{Date}
use Rattle.runs.specs.declared.report.Tally.{Tally}
use Rattle.runs.specs.Reports.{date, earlier, none_counted, counted, tallied}
use Rattle.runs.proofs.Stepping.{differ}

-- ---- the best of the rows that P tells, each with its time

pub record First (P : ℕ → ℕ → Type 0) (d : Date) : Type 0 where
  pub is : P d.row d.time
  pub least : (k time : ℕ) → P k time → (d.time < time) ⊎ ((d.time ≡ time) × (d.row ≤ k))

abbrev pub Best : (ℕ → ℕ → Type 0) → Option Date → Type 0
Best P None = (k time : ℕ) → P k time → ⊥
Best P (Some d) = First P d

pub best_same : {P Q : ℕ → ℕ → Type 0} (o : Option Date) → ((k time : ℕ) → Iff (P k time) (Q k time)) → Best P o → Best Q o
best_same None h b = λ k time q. b k time ((h k time).1 q)
best_same (Some d) h b = record { is = (h d.row d.time).0 b.is; least = λ k time q. b.least k time ((h k time).1 q) }

-- P, and one row more
abbrev With : (ℕ → ℕ → Type 0) → ℕ → Verdict → ℕ → ℕ → Type 0
With P row v k time = P k time ⊎ ((k ≡ row) × (v ≡ Confirmed time))

one_time : (t u : ℕ) → Confirmed t ≡ Confirmed u → t ≡ u
one_time t u e = cc

module _ (P : ℕ → ℕ → Type 0) (row : ℕ) (below : (k time : ℕ) → P k time → k < row) where
  best_if : (time : ℕ) (d : Date) (b : Bool) → ltb time d.time ≡ b → First P d → First (With P row (Confirmed time)) (cond b (date time row) d)
  best_if time d true e f =
      let l = ltb-true time d.time e in
      record {
        is = inr (refl, refl);
        least = λ k t q. ⊎_elim
            (λ p. ⊎_elim (λ x. inl (omega arith)) (λ x. let y = x.0 in inl (omega arith)) (f.least k t p))
            (λ p. inr (one_time time t p.1, (let y = p.0 in omega arith)))
            q;
      }
  best_if time d false e f =
      let l = ltb-false time d.time e in
      let o = below d.row d.time f.is in
      record {
        is = inl f.is;
        least = λ k t q. ⊎_elim
            (λ p. f.least k t p)
            (λ p.
            let y = p.0 in let z = one_time time t p.1 in
            ⊎_elim (λ x. inr (omega arith, omega arith)) (λ x. ⊎_elim (λ w. inl (omega arith)) (λ w. absurd (omega arith)) x) (cases_order d.time t))
            q;
      }

  best_more : (o : Option Date) (time : ℕ) → Best P o → Best (With P row (Confirmed time)) (earlier o time row)
  best_more None time b = record {
    is = inr (refl, refl);
    least = λ k t q. ⊎_elim (λ p. absurd (b k t p)) (λ p. inr (one_time time t p.1, (let y = p.0 in omega arith))) q;
  }
  best_more (Some d) time b = best_if time d (ltb time d.time) refl b

  best_not : (o : Option Date) (v : Verdict) → ((time : ℕ) → v ≡ Confirmed time → ⊥) → Best P o → Best (With P row v) o
  best_not o v n b = best_same o (λ k time. ((λ p. inl p), (λ q. ⊎_elim (λ p. p) (λ p. absurd (n time p.1)) q))) b

  best_counted : (t : Tally) (v : Verdict) → Best P t.date → Best (With P row v) (counted t row v).date
  best_counted t (Confirmed time) b = best_more t.date time b
  best_counted t Rejected b = best_not t.date Rejected (λ time e. differ (cc)) b
  best_counted t Waiting b = best_not t.date Waiting (λ time e. differ (cc)) b
  best_counted t Foreign b = best_not t.date Foreign (λ time e. differ (cc)) b

-- ---- rows of a list

-- the row k, of the claims from row on, is confirmed at this time
abbrev From : (Claim → Verdict) → ℕ → List Claim → ℕ → ℕ → Type 0
From f row [] k time = ⊥
From f row (c ∷ cs) k time = ((k ≡ row) × (f c ≡ Confirmed time)) ⊎ From f (row + 1) cs k time

best_tallied : (f : Claim → Verdict) (cs : List Claim) (P : ℕ → ℕ → Type 0) (row : ℕ) (t : Tally) → ((k time : ℕ) → P k time → k < row) → Best P t.date
    → Best (λ k time. P k time ⊎ From f row cs k time) (tallied f row t cs).date
unfolding tallied
best_tallied f [] P row t below b = best_same t.date (λ k time. ((λ p. inl p), (λ q. ⊎_elim (λ p. p) (λ p. absurd p) q))) b
best_tallied f (c ∷ cs) P row t below b =
    best_same (tallied f (row + 1) (counted t row (f c)) cs).date
    (λ k time. (
      (λ q. ⊎_elim (λ w. ⊎_elim (λ p. inl p) (λ p. inr (inl p)) w) (λ r. inr (inr r)) q),
      (λ q. ⊎_elim (λ p. inl (inl p)) (λ w. ⊎_elim (λ p. inl (inr p)) (λ r. inr r) w) q),
    ))
    (best_tallied f cs (With P row (f c)) (row + 1) (counted t row (f c))
    (λ k time q. ⊎_elim (λ p. let l = below k time p in let g : k < row + 1 = omega arith in g) (λ p. let e = p.0 in let g : k < row + 1 = omega arith in g) q)
    (best_counted P row below t (f c) b))

-- ---- by number

abbrev pub At : (Claim → Verdict) → List Claim → ℕ → ℕ → Type 0
At f cs k time = (c : Claim) × (slice_get cs k ≡ Some c) × (f c ≡ Confirmed time)

from_at : (f : Claim → Verdict) (cs : List Claim) (row i time : ℕ) → At f cs i time → From f row cs (row + i) time
from_at f [] row i time a = differ (let e = a.1 in cc)
from_at f (c ∷ cs) row zero time a = inl (omega arith, (let e = a.1 in let d : c ≡ a.0 = cc in ap f d ∙ a.2))
from_at f (c ∷ cs) row (suc i) time a =
    inr (subst (λ (n : ℕ). From f (row + 1) cs n time) (let e : (row + 1) + i ≡ row + suc i = omega arith in e) (from_at f cs (row + 1) i time a))

at_from : (f : Claim → Verdict) (cs : List Claim) (row k time : ℕ) → From f row cs k time → (i : ℕ) × (k ≡ row + i) × At f cs i time
at_from f [] row k time q = absurd q
at_from f (c ∷ cs) row k time (inl p) = (0, (let e = p.0 in omega arith), (c, refl, p.1))
at_from f (c ∷ cs) row k time (inr q) = let h = at_from f cs (row + 1) k time q in (suc h.0, (let e = h.1 in omega arith), h.2)

pub dated : (f : Claim → Verdict) (cs : List Claim) → Best (At f cs) (tallied f 0 none_counted cs).date
dated f cs = best_same (tallied f 0 none_counted cs).date
    (λ k time. (
      (λ q. ⊎_elim (λ p. absurd p)
          (λ p. let h = at_from f cs 0 k time p in subst (λ (n : ℕ). At f cs n time) (let e = h.1 in let g : h.0 ≡ k = omega arith in g) h.2) q),
      (λ a. inr (subst (λ (n : ℕ). From f 0 cs n time) (let e : 0 + k ≡ k = omega arith in e) (from_at f cs 0 k time a))),
    ))
    (best_tallied f cs (λ k time. ⊥) 0 none_counted (λ k time p. absurd p) (λ k time p. p))
