-- The weight of a group of seven bits.
use Rattle.std.proofs.Common.{◌≡◌, ℕ, suc, ◌*◌, ◌^◌, sym, ap, ◌∙◌, mul_assoc}
use native.Mathlib.Nat.{pow-succ'}

pub weight_more : (w k j m : ℕ) → k ≡ suc j → w * 128 ^ k ≡ m → (w * 128) * 128 ^ j ≡ m
weight_more w k j m l e =
    mul_assoc w 128 (128 ^ j) ∙ ap (λ x. w * x) (sym (pow-succ' 128 j)) ∙ ap (λ x. w * 128 ^ x) (sym l) ∙ e
