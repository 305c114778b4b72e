-- What is read of a payload, which must be all of it, answers by the definition.
use Rattle.std.proofs.Common.{◌≡◌, ℕ, ◌≤◌, Bool, true, false, cond, eqb, List, length, take, Ok, Err, Result, sym, refl, ap, ◌∙◌}
use Rattle.std.proofs.lemmas.Bool.{eqb-true}
use Rattle.std.proofs.lemmas.List.{length-take-le}
use Rattle.format.specs.Outcome.{Outcome, got, fault}
use Rattle.format.specs.Attestations.{whole}
use Rattle.proof.specs.declared.fault.Fault.{Fault}
use Rattle.proof.specs.declared.fault.Fault.TheVariants.{Content}
use Rattle.proof.specs.Answers.{outcome}
use Rattle.proof.specs.Faults.{numbered}
use Rattle.proof.specs.Wholes.{wholly}

module _ {X A : Type 0} (v : X → A) (first end n : ℕ) where
  ended : (x : X) (b : Bool) → (b ≡ true → n ≡ end) → outcome v (cond b (Ok x) (Err (Content first))) end ≡ cond b (got (v x) n) (fault 10 first)
  ended x true e = ap (got (v x)) (sym (e refl))
  ended x false e = refl

  faulted : (f : Fault) (b : Bool) → outcome v (cond b (Err (Content first)) (Err f)) end ≡ cond b (fault 10 first) (fault (numbered f).0 (numbered f).1)
  faulted f true = refl
  faulted f false = refl

  wholly_read : (r : Result X Fault) → outcome v (wholly first end r n) end ≡ whole first end (outcome v r n)
  wholly_read (Ok x) = ended x (eqb n end) (eqb-true n end)
  wholly_read (Err f) = faulted f (eqb (numbered f).0 2)

-- the payload is the file from first to end
pub payload_read : {X A : Type 0} (v : X → A) (first end n : ℕ) (file cut : List ℕ) (r answer : Result X Fault) (o : Outcome A)
    → cut ≡ take end file → end ≤ length file → outcome v r n ≡ o → answer ≡ wholly first (length cut) r n → outcome v answer end ≡ whole first end o
payload_read v first end n file cut r answer o c l q e =
    let k : length cut ≡ end = ap length c ∙ length-take-le end file l in
    ap (λ z. outcome v z end) (e ∙ ap (λ z. wholly first z r n) k) ∙ (wholly_read v first end n r ∙ ap (whole first end) q)
