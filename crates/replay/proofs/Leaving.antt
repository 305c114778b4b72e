-- What a guard leaves.
use Rattle.std.proofs.Common.{◌≡◌, ℕ, ◌≤◌, cond, ltb, List, ◌++◌, length, drop, replicate, ap, arith}
use Rattle.replay.specs.Laws.{GuardsLeave}

leave_at : (n : ℕ) (xs ys : List ℕ) → n ≤ length xs → drop n ys ≡ drop n xs → replicate n 0 ++ drop n ys ≡ cond (ltb (length xs) n) xs (replicate n 0 ++ drop n xs)
leave_at n xs ys h e = grind (arith, ap (λ t. replicate n 0 ++ t) e)

pub guards_leave : GuardsLeave
guards_leave area worked h e = leave_at 4096 area worked h e
