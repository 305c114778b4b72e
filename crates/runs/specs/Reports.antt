-- Rows and tallies: what a judge says of the claims that a dossier holds.
use Rattle.std.specs.Prelude.{◌≡◌, ℕ, ◌+◌, cond, List, [], ◌∷◌, map, length, Some, None, Option, nat_lt}
use Rattle.std.specs.List.{slice_get}
use Rattle.format.specs.Operations.{message_limit}
use Rattle.format.specs.Nodes.{Claim}
use Rattle.claim_trees.specs.Order.{tag_of}
use Rattle.claim_trees.specs.Bytes.{payload_of}
use Rattle.replay.specs.Messages.{replay}
use Rattle.replay.specs.Areas.{left}
use Rattle.judge.specs.declared.verdict.Verdict.{Verdict}
use Rattle.judge.specs.declared.verdict.Verdict.TheVariants.{Confirmed, Rejected, Waiting, Foreign}
use Rattle.judge.specs.Meaning.{Meaning, judged}
use Rattle.runs.specs.declared.report.Row.{Row}
use Rattle.runs.specs.declared.report.Date.{Date}
use Rattle.runs.specs.declared.report.Tally.{Tally}
use Rattle.runs.specs.Contents.{Content, claims_in, top_in}
use Rattle.runs.specs.Answers.{Answer, granted, refused}

-- the verdict for the claim's tag, its payload in shortest form, and its message
abbrev pub verdict_on : Meaning → List ℕ → Claim → Verdict
verdict_on m digest c = judged m (tag_of c.attestation) (payload_of c.attestation) (replay c.path digest)

abbrev pub row_on : Meaning → List ℕ → Claim → Row
row_on m digest c = record { tag = tag_of c.attestation; operations = length c.path; verdict = verdict_on m digest c }

-- the rows, numbered from 0 in written order
abbrev pub rows_in : Meaning → Content → List Row
rows_in m s = map (row_on m (top_in s)) (claims_in s)

-- 18 where the work area is below 4,096 bytes; else what is answered behind that check
abbrev pub worked : {A : Type 0} → List ℕ → Answer A → Answer A
worked work answer = cond (nat_lt (length work) message_limit) (refused 18 0) answer

abbrev pub as_row : Option Row → Answer Row
as_row None = refused 17 0
as_row (Some r) = granted r

abbrev pub reading : Meaning → Content → ℕ → List ℕ → Answer Row
reading m s k work = worked work (as_row (slice_get (rows_in m s) k))

-- ---- tallies

abbrev pub date : ℕ → ℕ → Date
date time row = record { time = time; row = row }

abbrev pub tally : ℕ → ℕ → ℕ → ℕ → Option Date → Tally
tally confirmed rejected waiting foreign date =
    record { confirmed = confirmed; rejected = rejected; waiting = waiting; foreign = foreign; date = date }

abbrev pub none_counted : Tally
none_counted = tally 0 0 0 0 None

-- the earlier of the two; the row that came first where they are equal
abbrev pub earlier : Option Date → ℕ → ℕ → Option Date
earlier None time row = Some (date time row)
earlier (Some d) time row = Some (cond (nat_lt time d.time) (date time row) d)

-- one row more, of this number and verdict
abbrev pub counted : Tally → ℕ → Verdict → Tally
counted t row (Confirmed time) = tally (t.confirmed + 1) t.rejected t.waiting t.foreign (earlier t.date time row)
counted t row Rejected = tally t.confirmed (t.rejected + 1) t.waiting t.foreign t.date
counted t row Waiting = tally t.confirmed t.rejected (t.waiting + 1) t.foreign t.date
counted t row Foreign = tally t.confirmed t.rejected t.waiting (t.foreign + 1) t.date

-- the tally so far, and the claims that follow from this row on
unfoldable pub tallied : (Claim → Verdict) → ℕ → Tally → List Claim → Tally
tallied f row t [] = t
tallied f row t (c ∷ cs) = tallied f (row + 1) (counted t row (f c)) cs

abbrev pub tally_in : Meaning → Content → Tally
tally_in m s = tallied (verdict_on m (top_in s)) 0 none_counted (claims_in s)

abbrev pub tallying : Meaning → Content → List ℕ → Answer Tally
tallying m s work = worked work (granted (tally_in m s))

-- ---- the calls

pub record Read (s : Content) (m : Meaning) (k : ℕ) (lent : List ℕ) (r : Answer Row) (after : List ℕ) : Type 0 where
  pub answer : r ≡ reading m s k lent
  pub work : after ≡ left lent

pub record Tallied (s : Content) (m : Meaning) (lent : List ℕ) (r : Answer Tally) (after : List ℕ) : Type 0 where
  pub answer : r ≡ tallying m s lent
  pub work : after ≡ left lent
