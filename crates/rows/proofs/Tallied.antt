-- A tally row by row.
use Rattle.std.proofs.Common.{◌≡◌, ℕ, zero, suc, ◌+◌, ◌<◌, ◌≤◌, true, List, [], ◌∷◌, map, length, drop, Some, sym, refl, ap, ◌∙◌, subst, arith}
use Rattle.std.specs.List.{slice_get}
use Rattle.std.specs.Option.{IsSome}
use Rattle.std.proofs.lemmas.List.{drop_all}
use Rattle.format.specs.Nodes.{Claim}
use Rattle.claim_trees.specs.Size.{atts_in}
use Rattle.claim_trees.specs.Tree.{Held, claims}
use Rattle.judge.specs.declared.verdict.Verdict.{Verdict}
use Rattle.judge.specs.declared.verdict.Verdict.TheVariants.{Confirmed, Rejected, Waiting, Foreign}
use Rattle.judge.specs.Meaning.{Meaning}
use Rattle.runs.specs.declared.report.Row.{Row}
use Rattle.runs.specs.declared.report.Tally.{Tally}
use Rattle.runs.specs.Invariants.{keeps_tree}
use Rattle.runs.specs.Reports.{none_counted, counted, tallied, row_on, verdict_on}
use Rattle.rows.proofs.Places.{claims_length}
use Rattle.rows.proofs.Walks.{walkable}

-- none of the counts is above n
pub record Within (t : Tally) (n : ℕ) : Type 0 where
  pub confirmed : t.confirmed ≤ n
  pub rejected : t.rejected ≤ n
  pub waiting : t.waiting ≤ n
  pub foreign : t.foreign ≤ n

-- the rows up to the k-th are counted
pub record Counting (f : Claim → Verdict) (cs : List Claim) (k : ℕ) (t : Tally) : Type 0 where
  pub within : Within t k
  pub left : tallied f k t (drop k cs) ≡ tallied f 0 none_counted cs

within_more : (t : Tally) (k : ℕ) (v : Verdict) → Within t k → Within (counted t k v) (k + 1)
within_more t k (Confirmed time) h = record { confirmed = omega arith; rejected = omega arith; waiting = omega arith; foreign = omega arith }
within_more t k Rejected h = record { confirmed = omega arith; rejected = omega arith; waiting = omega arith; foreign = omega arith }
within_more t k Waiting h = record { confirmed = omega arith; rejected = omega arith; waiting = omega arith; foreign = omega arith }
within_more t k Foreign h = record { confirmed = omega arith; rejected = omega arith; waiting = omega arith; foreign = omega arith }

-- the k-th row is the first of those that are left
drop_row : (m : Meaning) (digest : List ℕ) (cs : List Claim) (k : ℕ) (row : Row) → Some row ≡ slice_get (map (row_on m digest) cs) k
    → (t : Tally) (j : ℕ) → tallied (verdict_on m digest) (j + 1) (counted t j row.verdict) (drop (suc k) cs) ≡ tallied (verdict_on m digest) j t (drop k cs)
unfolding tallied
drop_row m digest [] k row e t j = absurd (let z : ◌≡◌ {A = ℕ} 0 1 = cc in omega arith)
drop_row m digest (c ∷ cs) zero row e t j =
    ap (λ r. tallied (verdict_on m digest) (j + 1) (counted t j r.verdict) cs) (let d : row ≡ row_on m digest c = cc in d)
drop_row m digest (c ∷ cs) (suc k) row e t j = drop_row m digest cs k row e t j

-- as many rows are there as claims
pub row_there : (m : Meaning) (digest : List ℕ) (cs : List Claim) (k : ℕ) → k < length cs → IsSome (slice_get (map (row_on m digest) cs) k)
row_there m digest [] k h = absurd (omega arith)
row_there m digest (c ∷ cs) zero h = refl
row_there m digest (c ∷ cs) (suc k) h = row_there m digest cs k (omega arith)

-- a tree that is kept has as many claims as its count says, and no more than 128
pub record Counted (x : Held) (n : ℕ) : Type 0 where
  pub all : length (claims x.marks x.branches) ≡ n
  pub few : n ≤ 128

pub claims_counted : (digest : List ℕ) (x : Held) (n : ℕ) → keeps_tree digest x ≡ true → n ≡ length x.marks + atts_in x.branches → Counted x n
claims_counted digest x n h is = record {
  all = claims_length x.marks x.branches ∙ sym is;
  few = omega (arith, (walkable digest x h).few);
}

-- none is counted yet
pub counting_none : (f : Claim → Verdict) (cs : List Claim) → Counting f cs 0 none_counted
counting_none f cs = record {
  within = record { confirmed = omega arith; rejected = omega arith; waiting = omega arith; foreign = omega arith };
  left = refl;
}

module _ (m : Meaning) (digest : List ℕ) (cs : List Claim) {k : ℕ} {t : Tally} (h : Counting (verdict_on m digest) cs k t) where
  pub counting_more : {row : Row} {u : Tally} → Some row ≡ slice_get (map (row_on m digest) cs) k → u ≡ counted t k row.verdict
      → Counting (verdict_on m digest) cs (k + 1) u
  counting_more {row} {u} e is =
      let n : k + 1 ≡ suc k = omega arith in
      record {
        within = subst (λ z. Within z (k + 1)) (sym is) (within_more t k row.verdict h.within);
        left = ap (λ z. tallied (verdict_on m digest) (k + 1) z (drop (k + 1) cs)) is
            ∙ ap (λ z. tallied (verdict_on m digest) (k + 1) (counted t k row.verdict) (drop z cs)) n
            ∙ drop_row m digest cs k row e t k
            ∙ h.left;
      }

  -- all are
  pub counting_all : length cs ≤ k → t ≡ tallied (verdict_on m digest) 0 none_counted cs
  unfolding tallied
  counting_all l = sym (ap (tallied (verdict_on m digest) k t) (drop_all k cs l)) ∙ h.left
