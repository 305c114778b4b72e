-- The covered headers alone mean as much as all the bytes.
use Rattle.std.proofs.Common.{◌≡◌, ℕ, ◌+◌, ◌-◌, ◌*◌, ◌/◌, ◌<◌, ◌≤◌, cond, ◌&&◌, ltb, leb, List, [], length, get_or, take, drop, sym, refl, ap, ◌∙◌, ⊎_elim, arith}
use mathlib.Core.Path.{fun_ext}
use Rattle.std.specs.Simd.{first_chunks}
use Rattle.std.proofs.lemmas.List.{length-take-le, take-take, drop-take}
use Rattle.std.proofs.lemmas.Bool.{and_parts, and_from, le-leb, lt-ltb, ltb-true, cases_Bool, cases_lt, cond-true, cond-false}
use Rattle.format.specs.Outcome.{Outcome, got, fault}
use Rattle.format.specs.Attestations.{same, bitcoin_tag, height_at}
use Rattle.headers.specs.Headers.{header_at, root_of, time_of}
use Rattle.headers.specs.declared.ending.Run.{Run}
use Rattle.headers.specs.Following.{run_of, covered_by}
use Rattle.headers.proofs.Longest.{covered_good}
use Rattle.headers.proofs.Passing.{header_chunk}
use Rattle.judge.specs.Meaning.{Ruling, confirmed, rejected, ruled_by, Meaning}
use Rattle.judge.specs.HeaderRules.{ruled_at, standing, header_meaning}

-- what is covered lies within the bytes
pub covered_within : (base : ℕ) (previous : List ℕ) (ceiling : ℕ) (bytes : List ℕ) → 80 * covered_by base previous ceiling bytes ≤ length bytes
covered_within base previous ceiling bytes =
    let n = covered_by base previous ceiling bytes in
    ⊎_elim
    (λ l. let w = (covered_good base previous ceiling bytes (n - 1) (omega arith)).whole in omega arith)
    (λ l. omega arith)
    (cases_lt 0 n)

header_of_front : (bytes : List ℕ) (n k : ℕ) → k < n → header_at (take (80 * n) bytes) k ≡ header_at bytes k
header_of_front bytes n k l =
    let e : 80 * n ≡ 80 * k + (80 * n - 80 * k) = omega arith in
    ap (λ m. take 80 (drop (80 * k) (take m bytes))) e
    ∙ ap (take 80) (drop-take (80 * k) (80 * n - 80 * k) bytes)
    ∙ take-take 80 (80 * n - 80 * k) (drop (80 * k) bytes) (omega arith)

abbrev pub against : List ℕ → List ℕ → Ruling
against message header = cond (same message (root_of header)) (confirmed (time_of header)) rejected

-- a height that is covered is ruled by its header
ruled_here : (base n : ℕ) (bytes message header : List ℕ) (height place : ℕ)
    → base ≤ height → place ≡ height - base → place < n → header ≡ header_at bytes place
    → ruled_at base n bytes message height ≡ against message header
ruled_here base n bytes message header height place b p l h =
    cond-true _ _ _ (and_from _ _ (le-leb base height b) (lt-ltb (height - base) n (omega arith)))
    ∙ ap (λ k. against message (header_at bytes k)) (sym p) ∙ ap (against message) (sym h)

pub ruled_among : (base : ℕ) (bytes message header : List ℕ) (headers : List (List ℕ)) (height place : ℕ)
    → base ≤ height → place ≡ height - base
    → headers ≡ first_chunks 80 (length bytes / 80) bytes → place < length bytes / 80 → header ≡ get_or headers place []
    → ruled_at base (length bytes / 80) bytes message height ≡ against message header
ruled_among base bytes message header headers height place b p h l e =
    ruled_here base (length bytes / 80) bytes message header height place b p l
    (e ∙ ap (λ hs. get_or hs place []) h ∙ header_chunk bytes place l)

ruled_front : (base n m : ℕ) (front bytes message : List ℕ) (height : ℕ)
    → m ≡ n → ((k : ℕ) → k < n → header_at front k ≡ header_at bytes k)
    → ruled_at base m front message height ≡ ruled_at base n bytes message height
ruled_front base n m front bytes message height e s =
    ap (λ x. ruled_at base x front message height) e
    ∙ ⊎_elim
    (λ t. cond-true _ _ _ t ∙ ap (against message) (s (height - base) (ltb-true _ _ (and_parts _ _ t).1)) ∙ sym (cond-true _ _ _ t))
    (λ f. cond-false _ _ _ f ∙ sym (cond-false _ _ _ f))
    (cases_Bool (leb base height && ltb (height - base) n))

by_front : (base n m : ℕ) (front bytes message : List ℕ) (o : Outcome ℕ)
    → m ≡ n → ((k : ℕ) → k < n → header_at front k ≡ header_at bytes k)
    → ruled_by (ruled_at base m front message) o ≡ ruled_by (ruled_at base n bytes message) o
by_front base n m front bytes message (got height next) e s = ruled_front base n m front bytes message height e s
by_front base n m front bytes message (fault number at) e s = refl

abbrev meant : (List ℕ → List ℕ → List ℕ → Ruling) → Meaning
meant rules = record { owns = λ tag. same tag bitcoin_tag; rules = rules }

pub stands : (base : ℕ) (previous : List ℕ) (ceiling : ℕ) (bytes : List ℕ)
    → standing base (take (80 * covered_by base previous ceiling bytes) bytes) ≡ header_meaning base previous ceiling bytes
stands base previous ceiling bytes =
    let n = covered_by base previous ceiling bytes in
    let l = length-take-le (80 * n) bytes (covered_within base previous ceiling bytes) in
    let e : length (take (80 * n) bytes) / 80 ≡ n = ap (λ x. x / 80) l ∙ omega arith in
    ap meant (fun_ext (λ tag. fun_ext (λ payload. fun_ext (λ message.
    by_front base n (length (take (80 * n) bytes) / 80) (take (80 * n) bytes) bytes message (height_at payload 0 (length payload)) e
    (header_of_front bytes n)))))

-- the same by the run, which says how many are covered
pub stands_run : (base : ℕ) (previous : List ℕ) (ceiling : ℕ) (bytes : List ℕ) (run : Run)
    → run ≡ run_of base previous ceiling bytes
    → standing base (take (80 * run.covered) bytes) ≡ header_meaning base previous ceiling bytes
unfolding covered_by
stands_run base previous ceiling bytes run e =
    let n : run.covered ≡ covered_by base previous ceiling bytes = ap (λ r. r.covered) e in
    ap (λ k. standing base (take (80 * k) bytes)) n ∙ stands base previous ceiling bytes
