-- A decided verdict stays when headers follow.
use Rattle.std.proofs.Common.{◌≡◌, ℕ, ◌-◌, ◌<◌, ◌≤◌, Bool, true, false, cond, ◌&&◌, ltb, leb, List, ◌++◌, length, sym, refl, ap, ◌∙◌, ⊎_elim, arith}
use Rattle.std.proofs.lemmas.Bool.{and_parts, and_from, ltb-true, lt-ltb, cases_Bool, cond-true, cond-false}
use Rattle.format.specs.Outcome.{Outcome, got, fault}
use Rattle.format.specs.Attestations.{same, bitcoin_tag, height_at}
use Rattle.headers.specs.Headers.{header_at, root_of, time_of}
use Rattle.headers.specs.Following.{covered_by}
use Rattle.headers.proofs.Extending.{more_bytes_extend_the_run}
use Rattle.judge.specs.declared.verdict.Verdict.{Verdict}
use Rattle.judge.specs.declared.verdict.Verdict.TheVariants.{Confirmed, Rejected, Waiting, Foreign}
use Rattle.judge.specs.Meaning.{Ruling, confirmed, rejected, waiting, ruled_by, spoken, judged}
use Rattle.judge.specs.HeaderRules.{ruled_at, header_meaning}
use Rattle.judge.specs.Lasting.{DecisionsLast}

-- what a message is against one header
abbrev against : List ℕ → List ℕ → Ruling
against message header = cond (same message (root_of header)) (confirmed (time_of header)) rejected

ruled_more : (base n m : ℕ) (bytes more message : List ℕ) (height : ℕ)
    → n ≤ m → ((k : ℕ) → k < n → header_at (bytes ++ more) k ≡ header_at bytes k)
    → (ruled_at base n bytes message height ≡ waiting → ⊥)
    → ruled_at base m (bytes ++ more) message height ≡ ruled_at base n bytes message height
ruled_more base n m bytes more message height l s decided =
    ⊎_elim
    (λ t.
    let p = and_parts _ _ t in
    let k : height - base < n = ltb-true _ _ p.1 in
    cond-true _ _ _ (and_from _ _ p.0 (lt-ltb (height - base) m (omega arith)))
    ∙ ap (against message) (s (height - base) k)
    ∙ sym (cond-true _ _ _ t))
    (λ f. absurd (decided (cond-false _ _ _ f)))
    (cases_Bool (leb base height && ltb (height - base) n))

by_more : (base n m : ℕ) (bytes more message : List ℕ) (o : Outcome ℕ)
    → n ≤ m → ((k : ℕ) → k < n → header_at (bytes ++ more) k ≡ header_at bytes k)
    → (ruled_by (ruled_at base n bytes message) o ≡ waiting → ⊥)
    → ruled_by (ruled_at base m (bytes ++ more) message) o ≡ ruled_by (ruled_at base n bytes message) o
by_more base n m bytes more message (got height next) l s decided = ruled_more base n m bytes more message height l s decided
by_more base n m bytes more message (fault number at) l s decided = refl

owned_more : (b : Bool) (r r' : Ruling) → ((r ≡ waiting → ⊥) → r' ≡ r)
    → (cond b (spoken r) Foreign ≡ Waiting → ⊥) → cond b (spoken r') Foreign ≡ cond b (spoken r) Foreign
owned_more true r r' h decided = ap spoken (h (λ w. decided (ap spoken w)))
owned_more false r r' h decided = refl

-- all but waiting verdicts stay
pub undecided_only : (base : ℕ) (previous : List ℕ) (ceiling : ℕ) (bytes more tag payload message : List ℕ)
    → (judged (header_meaning base previous ceiling bytes) tag payload message ≡ Waiting → ⊥)
    → judged (header_meaning base previous ceiling (bytes ++ more)) tag payload message ≡ judged (header_meaning base previous ceiling bytes) tag payload message
undecided_only base previous ceiling bytes more tag payload message decided =
    let x = more_bytes_extend_the_run base previous ceiling bytes more in
    owned_more (same tag bitcoin_tag) _ _
    (by_more base (covered_by base previous ceiling bytes) (covered_by base previous ceiling (bytes ++ more)) bytes more message
    (height_at payload 0 (length payload)) x.longer x.same)
    decided

confirmed_decided : (v : Verdict) (time : ℕ) → v ≡ Confirmed time → v ≡ Waiting → ⊥
confirmed_decided v time e w = let z : ◌≡◌ {A = ℕ} 0 1 = cc in omega arith

rejected_decided : (v : Verdict) → v ≡ Rejected → v ≡ Waiting → ⊥
rejected_decided v e w = let z : ◌≡◌ {A = ℕ} 0 1 = cc in omega arith

pub decisions_last : DecisionsLast
decisions_last base previous ceiling bytes more tag payload message = (
  (λ time e. undecided_only base previous ceiling bytes more tag payload message (confirmed_decided _ time e) ∙ e),
  (λ e. undecided_only base previous ceiling bytes more tag payload message (rejected_decided _ e) ∙ e),
)
