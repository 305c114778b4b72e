-- The lines that are left, row by row.
use Rattle.std.proofs.Common.{◌≡◌, ℕ, zero, suc, ◌+◌, ◌≤◌, true, List, [], ◌∷◌, ◌++◌, length, drop, Some, None, sym, refl, ap, ◌∙◌, append_assoc, arith, length-append}
use Rattle.std.specs.List.{slice_get}
use Rattle.std.proofs.lemmas.List.{length-map, drop_all}
use Rattle.claim_trees.specs.Tree.{Held, claims}
use Rattle.judge.specs.Meaning.{Meaning}
use Rattle.runs.specs.declared.report.Row.{Row}
use Rattle.runs.specs.declared.report.Tally.{Tally}
use Rattle.runs.specs.Contents.{Content, about}
use Rattle.runs.specs.Invariants.{keeps_tree}
use Rattle.runs.specs.Reports.{row_on, rows_in, tally_in}
use Rattle.runs.specs.Sheets.{line_of, lines_from, last_line, sheet_in}
use Rattle.rows.proofs.Places.{claims_length}
use Rattle.rows.proofs.Walks.{walkable}
use Rattle.listing.specs.Left.{lines_left}

-- the k-th row is the first of those that are left
drop_line : (rows : List Row) (k : ℕ) (row : Row) (j : ℕ) → Some row ≡ slice_get rows k
    → lines_from j (drop k rows) ≡ line_of j row ++ lines_from (j + 1) (drop (suc k) rows)
unfolding lines_from
drop_line [] k row j e = absurd (let z : ◌≡◌ {A = ℕ} 0 1 = cc in omega arith)
drop_line (r ∷ rows) zero row j e = ap (λ z. line_of j z ++ lines_from (j + 1) rows) (let d : r ≡ row = cc in d)
drop_line (r ∷ rows) (suc k) row j e = drop_line rows k row j e

drop_none : (rows : List Row) (k j : ℕ) → None ≡ slice_get rows k → lines_from j (drop k rows) ≡ []
unfolding lines_from
drop_none [] zero j e = refl
drop_none [] (suc k) j e = refl
drop_none (r ∷ rows) zero j e = absurd (let z : ◌≡◌ {A = ℕ} 0 1 = cc in omega arith)
drop_none (r ∷ rows) (suc k) j e = drop_none rows k j e

pub left_none : (m : Meaning) (s : Content) (k : ℕ) → None ≡ slice_get (rows_in m s) k → lines_left m s k ≡ []
left_none m s k e = drop_none (rows_in m s) k k e

pub left_more : (m : Meaning) (s : Content) (k : ℕ) (row : Row) → Some row ≡ slice_get (rows_in m s) k → lines_left m s k ≡ line_of k row ++ lines_left m s (k + 1)
left_more m s k row e =
    let n : suc k ≡ k + 1 = omega arith in
    drop_line (rows_in m s) k row k e ∙ ap (λ z. line_of k row ++ lines_from (k + 1) (drop z (rows_in m s))) n

-- no tree that is kept has more than 128 rows
pub rows_all : (m : Meaning) (digest : List ℕ) (x : Held) (k : ℕ) → 128 ≤ k → keeps_tree digest x ≡ true → lines_left m (about digest x) k ≡ []
unfolding lines_from
rows_all m digest x k l h =
    let w = walkable digest x h in
    ap (lines_from k) (drop_all k (rows_in m (about digest x)) (omega (arith, w.few, claims_length x.marks x.branches, length-map (claims x.marks x.branches) (row_on m digest))))

pub more_long : (m : Meaning) (s : Content) (k : ℕ) (row : Row) → Some row ≡ slice_get (rows_in m s) k
    → length (lines_left m s k) ≡ length (line_of k row) + length (lines_left m s (k + 1))
more_long m s k row e = ap length (left_more m s k row e) ∙ length-append (line_of k row) (lines_left m s (k + 1))

pub more_behind : (m : Meaning) (s : Content) (k : ℕ) (row : Row) (acc : List ℕ) → Some row ≡ slice_get (rows_in m s) k
    → (acc ++ line_of k row) ++ lines_left m s (k + 1) ≡ acc ++ lines_left m s k
more_behind m s k row acc e = append_assoc acc (line_of k row) (lines_left m s (k + 1)) ∙ ap (λ z. acc ++ z) (sym (left_more m s k row e))

-- ---- the sheet

pub sheet_long : (m : Meaning) (s : Content) (t : Tally) → t ≡ tally_in m s → length (sheet_in m s) ≡ length (lines_left m s 0) + length (last_line t)
sheet_long m s t e = length-append (lines_left m s 0) (last_line (tally_in m s)) ∙ ap (λ z. length (lines_left m s 0) + length (last_line z)) (sym e)
