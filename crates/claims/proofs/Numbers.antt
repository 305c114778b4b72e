-- How long the shortest form of a number is.
use Rattle.std.proofs.Common.{◌≡◌, ℕ, suc, ◌/◌, ◌<◌, ◌≤◌, length, refl, ap, ◌∙◌, arith}
use Rattle.claim_trees.specs.Bytes.{groups, shortest}
use Rattle.claim_trees.proofs.Shortest.{groups_one, groups_more}

one_group : (k n : ℕ) → n < 128 → length (groups k n) ≡ 1
one_group k n h = ap length (groups_one k n h)

-- a byte more
more_groups : (k n j : ℕ) → 128 ≤ n → length (groups k (n / 128)) ≡ j → length (groups (suc k) n) ≡ suc j
more_groups k n j h e = ap length (groups_more k n h) ∙ ap suc e

-- the fifth byte takes what is left
last_group : (n : ℕ) → length (groups 0 n) ≡ 1
unfolding groups
last_group n = refl

pub one_byte : (n : ℕ) → n < 0x80 → length (shortest n) ≡ 1
unfolding shortest
one_byte n h = one_group 4 n h

pub two_bytes : (n : ℕ) → 0x80 ≤ n → n < 0x4000 → length (shortest n) ≡ 2
unfolding shortest
two_bytes n l h = more_groups 3 n 1 l (one_group 3 (n / 128) (omega arith))

pub three_bytes : (n : ℕ) → 0x4000 ≤ n → n < 0x200000 → length (shortest n) ≡ 3
unfolding shortest
three_bytes n l h = more_groups 3 n 2 (omega arith) (more_groups 2 (n / 128) 1 (omega arith) (one_group 2 (n / 128 / 128) (omega arith)))

pub four_bytes : (n : ℕ) → 0x200000 ≤ n → n < 0x10000000 → length (shortest n) ≡ 4
unfolding shortest
four_bytes n l h =
    more_groups 3 n 3 (omega arith) (more_groups 2 (n / 128) 2 (omega arith)
    (more_groups 1 (n / 128 / 128) 1 (omega arith) (one_group 1 (n / 128 / 128 / 128) (omega arith))))

pub five_bytes : (n : ℕ) → 0x10000000 ≤ n → length (shortest n) ≡ 5
unfolding shortest
five_bytes n l =
    more_groups 3 n 4 (omega arith) (more_groups 2 (n / 128) 3 (omega arith)
    (more_groups 1 (n / 128 / 128) 2 (omega arith) (more_groups 0 (n / 128 / 128 / 128) 1 (omega arith) (last_group (n / 128 / 128 / 128 / 128)))))

pub ruleset lengths = (one_byte, two_bytes, three_bytes, four_bytes, five_bytes)
