-- A refusal keeps the dossier and the out area.
use Rattle.std.proofs.Common.{◌≡◌, ℕ, Bool, true, false, cond, ltb, List, ◌++◌, length, drop, refl, ap, ◌∙◌, subst}
use Rattle.format.specs.Operations.{message_limit}
use Rattle.claim_trees.specs.Bytes.{file_bytes}
use Rattle.judge.specs.Meaning.{Meaning}
use Rattle.runs.specs.Contents.{Content, blank, about, Dossier, opened, settled}
use Rattle.runs.specs.Answers.{Answer, granted, refused, memory, fitted, placed}
use Rattle.runs.specs.Adding.{Added}
use Rattle.runs.specs.Writing.{Wrote}
use Rattle.runs.specs.Sheets.{sheet_in, Listed}
use Rattle.runs.specs.Runs.{Event, add, settle, reopen, write, row, tally, sheet, Step}
use Rattle.runs.specs.Law.{Refusal, Refused, Refusals}

-- ---- the dossier

added_kept : (s t : Content) (file : List ℕ) (r : Answer (Unit {0})) → Added s file r t → Refusal r → t ≡ s
added_kept s t file (granted u) k h = absurd h
added_kept s t file (refused n o) k h = k.1
added_kept s t file memory k h = k.1

same_settled : (s t : Content) → t ≡ s → settled t ≡ settled s
same_settled s t e = ap (λ (z : Content). settled z) e

dossier_kept : (s : Dossier) (e : Event) (t : Dossier) → Step s e t → Refused e → t ≡ s
dossier_kept (opened s) (add file r) (opened t) k h = ap (λ (z : Content). opened z) (added_kept s t file r k h)
dossier_kept (opened s) (add file r) (settled t) k h = absurd k
dossier_kept (opened s) settle t k h = absurd h
dossier_kept (opened s) reopen t k h = absurd h
dossier_kept (opened s) (write o r a) t k h = absurd k
dossier_kept (opened s) (row m i w r a) t k h = absurd k
dossier_kept (opened s) (tally m w r a) t k h = absurd k
dossier_kept (opened s) (sheet m o w r a b) t k h = absurd k
dossier_kept (settled s) (add file r) t k h = absurd k
dossier_kept (settled s) settle t k h = absurd h
dossier_kept (settled s) reopen t k h = absurd h
dossier_kept (settled s) (write o r a) (opened t) k h = absurd k
dossier_kept (settled s) (write o r a) (settled t) k h = same_settled s t k.1
dossier_kept (settled s) (row m i w r a) (opened t) k h = absurd k
dossier_kept (settled s) (row m i w r a) (settled t) k h = same_settled s t k.1
dossier_kept (settled s) (tally m w r a) (opened t) k h = absurd k
dossier_kept (settled s) (tally m w r a) (settled t) k h = same_settled s t k.1
dossier_kept (settled s) (sheet m o w r a b) (opened t) k h = absurd k
dossier_kept (settled s) (sheet m o w r a b) (settled t) k h = same_settled s t k.1

-- ---- the out area

out_if : (bytes out : List ℕ) (b : Bool) → Refusal {A = ℕ} (cond b (refused 16 0) (granted (length bytes))) → cond b out (bytes ++ drop (length bytes) out) ≡ out
out_if bytes out true h = refl
out_if bytes out false h = absurd h

placed_kept : (bytes out : List ℕ) → Refusal (fitted bytes out) → placed bytes out ≡ out
placed_kept bytes out h = out_if bytes out (ltb (length out) (length bytes)) h

wrote_kept : (s : Content) (out after : List ℕ) (r : Answer ℕ) → Wrote s out r after → Refusal r → after ≡ out
wrote_kept blank out after r w h = w.out
wrote_kept (about d x) out after r w h =
    w.out ∙ placed_kept (file_bytes d x.marks x.branches) out (subst (λ (a : Answer ℕ). Refusal a) w.answer h)

write_kept : (s t : Dossier) (out after : List ℕ) (r : Answer ℕ) → Step s (write out r after) t → Refusal r → after ≡ out
write_kept (opened s) t out after r k h = absurd k
write_kept (settled s) (opened t) out after r k h = absurd k
write_kept (settled s) (settled t) out after r k h = wrote_kept s out after r k.0 h

sheet_if : (bytes out : List ℕ) (b : Bool) → Refusal {A = ℕ} (cond b (refused 18 0) (fitted bytes out)) → cond b out (placed bytes out) ≡ out
sheet_if bytes out true h = refl
sheet_if bytes out false h = placed_kept bytes out h

listed_kept : (s : Content) (m : Meaning) (out work a b : List ℕ) (r : Answer ℕ) → Listed s m out work r a b → Refusal r → a ≡ out
listed_kept s m out work a b r l h =
    l.out ∙ sheet_if (sheet_in m s) out (ltb (length work) message_limit) (subst (λ (z : Answer ℕ). Refusal z) l.answer h)

sheet_kept : (s t : Dossier) (m : Meaning) (out work a b : List ℕ) (r : Answer ℕ) → Step s (sheet m out work r a b) t → Refusal r → a ≡ out
sheet_kept (opened s) t m out work a b r k h = absurd k
sheet_kept (settled s) (opened t) m out work a b r k h = absurd k
sheet_kept (settled s) (settled t) m out work a b r k h = listed_kept s m out work a b r k.0 h

pub refusals : Refusals
refusals = record { dossier = dossier_kept; write_out = write_kept; sheet_out = sheet_kept }
