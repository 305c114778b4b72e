-- One byte of a number at a time.
use Rattle.std.proofs.Common.{◌≡◌, ℕ, suc, ◌+◌, ◌-◌, ◌*◌, ◌^◌, cond, ltb, List, ap}
use Rattle.format.specs.Outcome.{got, fault, then}
use Rattle.format.specs.Numbers.{byte_at, number_from}

pub number_none : (k : ℕ) (file : List ℕ) (first w v at : ℕ) → k ≡ 0 → number_from k file first w v at ≡ fault 7 first
unfolding number_from
number_none k file first w v at e = ap (λ x. number_from x file first w v at) e

pub number_more : (k j : ℕ) (file : List ℕ) (first w v at : ℕ) → k ≡ suc j
    → number_from k file first w v at ≡ then (byte_at file at) (λ b next.
    cond (ltb b 128)
    (cond (ltb (v + b * w) (2 ^ 32)) (got (v + b * w) next) (fault 7 first))
    (number_from j file first (w * 128) (v + (b - 128) * w) next))
unfolding number_from
number_more k j file first w v at e = ap (λ x. number_from x file first w v at) e
