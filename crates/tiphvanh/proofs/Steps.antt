use Rattle.std.proofs.Common.{◌≡◌, Result, Ok, Err, sym, ap, ◌∙◌}
use Rattle.std.specs.Result.{MatchResult}

-- the value of an Ok, and otherwise what stands beside it
value_or : {X D E : Type 0} → Result X D → Result X E → Result X E
value_or (Ok x) r = Ok x
value_or (Err d) r = r

-- what is Ok once its error has been exchanged was Ok before
pub was_ok : {X D E : Type 0} → (r : Result X E) (q : Result X D) (y : X) → q ≡ Ok y → MatchResult r (λ x. q ≡ Ok x) (λ _. ⊥) → r ≡ Ok y
unfolding value_or
was_ok (Ok x) q y e h = ap (λ z. value_or z (Ok x)) (sym h ∙ e)
was_ok (Err d) q y e h = absurd h
