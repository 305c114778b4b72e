-- Rows, tallies and sheets that were granted are true.
use Rattle.std.proofs.Common.{◌≡◌, ℕ, zero, suc, Bool, true, false, cond, ltb, List, [], ◌∷◌, map, length, Some, None, Option, sym, refl, ap, subst}
use Rattle.std.specs.List.{slice_get}
use Rattle.format.specs.Operations.{message_limit}
use Rattle.claim_trees.proofs.Ascending.{written_rising, claims_apart}
use Rattle.claim_trees.proofs.Unions.{kept}
use Rattle.judge.specs.Meaning.{Meaning}
use Rattle.runs.specs.declared.report.Row.{Row}
use Rattle.runs.specs.declared.report.Date.{Date}
use Rattle.runs.specs.declared.report.Tally.{Tally}
use Rattle.runs.specs.Contents.{Content, blank, about, claims_in, top_in, Dossier, opened, settled, content}
use Rattle.runs.specs.Answers.{Answer, granted, refused, fitted, placed}
use Rattle.runs.specs.Reports.{verdict_on, row_on, rows_in, as_row, tally_in, Read, Tallied}
use Rattle.runs.specs.Sheets.{sheet_in, Listed}
use Rattle.runs.specs.Runs.{Event, row, tally, sheet, Step, Run, then}
use Rattle.runs.specs.Law.{Kept, Rows, ConfirmedRow, Dated, TrueTally, Tallies, Reads, ListsRows, Clears}
use Rattle.runs.proofs.Stepping.{differ}
use Rattle.runs.proofs.Keeping.{keep}
use Rattle.runs.proofs.WritingFiles.{Put, put}
use Rattle.runs.proofs.Counting.{confirmed_counted, rejected_counted, waiting_counted, foreign_counted}
use Rattle.runs.proofs.Dating.{Best, dated}

-- ---- the claims in written order

rows_kept : (s : Content) → Kept s → Rows s (claims_in s)
rows_kept blank k = record { ordered = refl; lists = record { members = λ c. ((λ i. i), (λ i. i)); apart = tt } }
rows_kept (about d x) k =
    let h = kept x k.lawful in
    record {
      ordered = written_rising x.marks x.branches h.marks h.branches;
      lists = record { members = λ c. ((λ i. i), (λ i. i)); apart = claims_apart x.marks x.branches h.marks h.branches };
    }

-- ---- tallies

dated_by : (m : Meaning) (s : Content) (o : Option Date) → Best (ConfirmedRow m s) o → Dated m s o
dated_by m s None b = b
dated_by m s (Some d) b = record { is = b.is; least = b.least }

true_tally : (m : Meaning) (s : Content) → Kept s → TrueTally m s (tally_in m s)
true_tally m s k =
    let a = (rows_kept s k).lists.apart in
    let f = verdict_on m (top_in s) in
    let n = confirmed_counted f (claims_in s) a in
    record {
      confirmed = (
        n.0,
        record {
          members = λ c. (
            (λ i. let h = (n.1.members c).0 i in (h.1.0, (h.0, h.1.1))),
            (λ h. (n.1.members c).1 (h.1.0, (h.0, h.1.1))),
          );
          apart = n.1.apart;
        },
        n.2,
      );
      rejected = rejected_counted f (claims_in s) a;
      waiting = waiting_counted f (claims_in s) a;
      foreign = foreign_counted f (claims_in s) a;
      date = dated_by m s (tally_in m s).date (dated f (claims_in s));
    }

tally_if : (b : Bool) (t u : Tally) → ◌≡◌ {A = Answer Tally} (granted t) (cond b (refused 18 0) (granted u)) → u ≡ t
tally_if true t u e = differ (cc)
tally_if false t u e = cc

tallied_by : (s t : Dossier) (m : Meaning) (work after : List ℕ) (r : Answer Tally) → Step s (tally m work r after) t → Tallied (content t) m work r after
tallied_by (opened s) t m work after r k = absurd k
tallied_by (settled s) (opened t) m work after r k = absurd k
tallied_by (settled s) (settled t) m work after r k = subst (λ (z : Content). Tallied z m work r after) (sym k.1) k.0

last_tally : {es : List Event} {t : Dossier} {m : Meaning} {work after : List ℕ} {r : Answer Tally} → Run (tally m work r after ∷ es) t
    → Tallied (content t) m work r after
last_tally {t} {m} {work} {after} {r} (then {s} q k) = tallied_by s t m work after r k

pub tallies : Tallies
tallies es s m work after t r =
    subst (TrueTally m (content s)) (tally_if (ltb (length work) message_limit) t (tally_in m (content s)) (last_tally r).answer)
    (true_tally m (content s) (keep r))

-- ---- rows

nth_mapped : {A B : Type 0} (f : A → B) (xs : List A) (k : ℕ) (y : B) → slice_get (map f xs) k ≡ Some y → (x : A) × (slice_get xs k ≡ Some x) × (y ≡ f x)
nth_mapped f [] k y e = differ (cc)
nth_mapped f (x ∷ xs) zero y e = (x, refl, (let d : y ≡ f x = cc in d))
nth_mapped f (x ∷ xs) (suc k) y e = nth_mapped f xs k y e

as_row_lem : (o : Option Row) (r : Row) → granted r ≡ as_row o → o ≡ Some r
as_row_lem None r e = differ (cc)
as_row_lem (Some q) r e = let d : q ≡ r = cc in ap (λ (z : Row). Some z) d

row_if : (b : Bool) (o : Option Row) (r : Row) → ◌≡◌ {A = Answer Row} (granted r) (cond b (refused 18 0) (as_row o)) → o ≡ Some r
row_if true o r e = differ (cc)
row_if false o r e = as_row_lem o r e

read_by : (s t : Dossier) (m : Meaning) (i : ℕ) (work after : List ℕ) (r : Answer Row) → Step s (row m i work r after) t → Read (content t) m i work r after
read_by (opened s) t m i work after r k = absurd k
read_by (settled s) (opened t) m i work after r k = absurd k
read_by (settled s) (settled t) m i work after r k = subst (λ (z : Content). Read z m i work r after) (sym k.1) k.0

last_row : {es : List Event} {t : Dossier} {m : Meaning} {i : ℕ} {work after : List ℕ} {r : Answer Row} → Run (row m i work r after ∷ es) t
    → Read (content t) m i work r after
last_row {t} {m} {i} {work} {after} {r} (then {s} q k) = read_by s t m i work after r k

pub rows : Reads
rows es s m i work after r q =
    let e = row_if (ltb (length work) message_limit) (slice_get (rows_in m (content s)) i) r (last_row q).answer in
    let c = nth_mapped (row_on m (top_in (content s))) (claims_in (content s)) i r e in
    record { claim = c.0; ordered = rows_kept (content s) (keep q); is = c.1; says = c.2 }

-- ---- sheets

sheet_if : (b : Bool) (bytes out after : List ℕ) (n : ℕ) → ◌≡◌ {A = Answer ℕ} (granted n) (cond b (refused 18 0) (fitted bytes out))
    → after ≡ cond b out (placed bytes out) → Put bytes out n after
sheet_if true bytes out after n a e = differ (cc)
sheet_if false bytes out after n a e = put bytes out after n a e

listed_by : (s t : Dossier) (m : Meaning) (out work a b : List ℕ) (r : Answer ℕ) → Step s (sheet m out work r a b) t → Listed (content t) m out work r a b
listed_by (opened s) t m out work a b r k = absurd k
listed_by (settled s) (opened t) m out work a b r k = absurd k
listed_by (settled s) (settled t) m out work a b r k = subst (λ (z : Content). Listed z m out work r a b) (sym k.1) k.0

last_sheet : {es : List Event} {t : Dossier} {m : Meaning} {out work a b : List ℕ} {r : Answer ℕ} → Run (sheet m out work r a b ∷ es) t
    → Listed (content t) m out work r a b
last_sheet {t} {m} {out} {work} {a} {b} {r} (then {s} q k) = listed_by s t m out work a b r k

pub sheets : ListsRows
sheets es s m out work a b n q =
    let l = last_sheet q in
    let p = sheet_if (ltb (length work) message_limit) (sheet_in m (content s)) out a n l.answer l.out in
    record {
      counts = tally_in m (content s);
      ordered = rows_kept (content s) (keep q);
      tallies = true_tally m (content s) (keep q);
      sheet = p.front;
      behind = p.behind;
    }

-- ---- work areas

pub clears : Clears
clears = record {
  row_work = λ s t m k work after r h. (read_by s t m k work after r h).work;
  tally_work = λ s t m work after r h. (tallied_by s t m work after r h).work;
  sheet_work = λ s t m out work out_after work_after r h. (listed_by s t m out work out_after work_after r h).work;
}
