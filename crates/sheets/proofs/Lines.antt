-- The lines part by part are the lines, and as long.
use Rattle.std.proofs.Common.{◌≡◌, ℕ, ◌+◌, ◌≤◌, List, ◌++◌, length, decimal, refl, ap, ◌∙◌, append_assoc, arith, lit≤, length-append}
use Rattle.replay.specs.Messages.{digits}
use Rattle.replay.proofs.Sizes.{digits_length}
use Rattle.judge.specs.declared.verdict.Verdict.{Verdict}
use Rattle.judge.specs.declared.verdict.Verdict.TheVariants.{Confirmed as ConfirmedAt, Rejected as IsRejected, Waiting as IsWaiting, Foreign as IsForeign}
use Rattle.runs.specs.declared.report.Row.{Row}
use Rattle.runs.specs.declared.report.Tally.{Tally}
use Rattle.runs.specs.Sheets.{space, line_end, verdict_text, line_of, last_line}
use Rattle.sheets.specs.declared.words.Word.{Word}
use Rattle.sheets.specs.declared.words.Word.TheVariants.{Confirmed, Rejected, Waiting, Foreign}
use Rattle.sheets.specs.Onto.{word_of, verdict_length, verdict_onto, field_onto, line_length, line_onto, last_length, last_onto}

-- ---- over any parts

count_long : (w n : List ℕ) → length (w ++ (space ++ n)) ≡ length w + (1 + length n)
count_long w n = simp length-append (omega arith)

count_joined : (acc w n : List ℕ) → ((acc ++ w) ++ space) ++ n ≡ acc ++ (w ++ (space ++ n))
count_joined acc w n = simp append_assoc

line_long : (k t o v : List ℕ)
    → length (k ++ (space ++ (t ++ (space ++ (o ++ (space ++ (v ++ line_end)))))))
    ≡ (length k + 1) + (length t + (1 + ((length o + 1) + (length v + 1))))
line_long k t o v = simp length-append (omega arith)

row_joined : (acc k t o v : List ℕ)
    → (((((((acc ++ k) ++ space) ++ t) ++ space) ++ o) ++ space) ++ v) ++ line_end
    ≡ acc ++ (k ++ (space ++ (t ++ (space ++ (o ++ (space ++ (v ++ line_end)))))))
row_joined acc k t o v = simp append_assoc

counts_long : (w x y z a b c d : List ℕ)
    → length ((w ++ (space ++ a)) ++ (space ++ ((x ++ (space ++ b)) ++ (space ++ ((y ++ (space ++ c)) ++ (space ++ ((z ++ (space ++ d)) ++ line_end)))))))
    ≡ ((length w + (1 + length a)) + 1) + (((length x + (1 + length b)) + 1) + (((length y + (1 + length c)) + 1) + ((length z + (1 + length d)) + 1)))
counts_long w x y z a b c d = simp length-append (omega arith)

counts_joined : (acc w x y z a b c d : List ℕ)
    → (((((((((((((((acc ++ w) ++ space) ++ a) ++ space) ++ x) ++ space) ++ b) ++ space) ++ y) ++ space) ++ c) ++ space) ++ z) ++ space) ++ d) ++ line_end
    ≡ acc ++ ((w ++ (space ++ a)) ++ (space ++ ((x ++ (space ++ b)) ++ (space ++ ((y ++ (space ++ c)) ++ (space ++ ((z ++ (space ++ d)) ++ line_end)))))))
counts_joined acc w x y z a b c d = simp append_assoc

-- ---- the words

pub word_short : (w : Word) → length (word_of w) ≤ 9
unfolding word_of
word_short Confirmed = lit≤ tt
word_short Rejected = lit≤ tt
word_short Waiting = lit≤ tt
word_short Foreign = lit≤ tt

-- ---- a row

verdict_long : (v : Verdict) → length (verdict_text v) ≡ verdict_length v
unfolding word_of
verdict_long (ConfirmedAt time) = count_long (word_of Confirmed) (decimal time)
verdict_long IsRejected = refl
verdict_long IsWaiting = refl
verdict_long IsForeign = refl

verdict_joined : (acc : List ℕ) (v : Verdict) → verdict_onto acc v ≡ acc ++ verdict_text v
unfolding word_of
verdict_joined acc (ConfirmedAt time) = count_joined acc (word_of Confirmed) (decimal time)
verdict_joined acc IsRejected = refl
verdict_joined acc IsWaiting = refl
verdict_joined acc IsForeign = refl

pub line_measured : (k : ℕ) (r : Row) → length (line_of k r) ≡ line_length k r
line_measured k r =
    let l = line_long (decimal k) (digits r.tag) (decimal r.operations) (verdict_text r.verdict) in
    let t = digits_length r.tag in
    let v = verdict_long r.verdict in
    omega arith

pub line_joined : (acc : List ℕ) (k : ℕ) (r : Row) → line_onto acc k r ≡ acc ++ line_of k r
line_joined acc k r =
    ap (λ z. z ++ line_end) (verdict_joined (field_onto ((field_onto acc k ++ digits r.tag) ++ space) r.operations) r.verdict)
    ∙ row_joined acc (decimal k) (digits r.tag) (decimal r.operations) (verdict_text r.verdict)

-- ---- the last line

pub last_measured : (t : Tally) → length (last_line t) ≡ last_length t
unfolding word_of
last_measured t =
    counts_long (word_of Confirmed) (word_of Rejected) (word_of Waiting) (word_of Foreign)
    (decimal t.confirmed) (decimal t.rejected) (decimal t.waiting) (decimal t.foreign)

pub last_joined : (acc : List ℕ) (t : Tally) → last_onto acc t ≡ acc ++ last_line t
unfolding word_of
last_joined acc t =
    counts_joined acc (word_of Confirmed) (word_of Rejected) (word_of Waiting) (word_of Foreign)
    (decimal t.confirmed) (decimal t.rejected) (decimal t.waiting) (decimal t.foreign)
