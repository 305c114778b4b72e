-- Byte strings, one byte at a time: what is left from an index on.
use Rattle.std.proofs.Common.{◌≡◌, ℕ, ◌+◌, ◌<◌, ◌≤◌, cond, eqb, List, length, get_or, drop}
use Rattle.std.proofs.lemmas.List.{at_drop_more, at_drop_all}
use Rattle.format.specs.Outcome.{got, fault, then}
use Rattle.format.specs.Numbers.{byte_at}
use Rattle.format.specs.Files.{mark_at}

pub mark_more : (ms file : List ℕ) (at i : ℕ) → i < length ms
    → mark_at (drop i ms) file at ≡ then (byte_at file at) (λ b next. cond (eqb b (get_or ms i 0)) (mark_at (drop (i + 1) ms) file next) (fault 3 at))
unfolding mark_at
mark_more ms file at i l = at_drop_more (λ z. mark_at z file at) ms i 0 l

pub mark_all : (ms file : List ℕ) (at i : ℕ) → length ms ≤ i → mark_at (drop i ms) file at ≡ got tt at
unfolding mark_at
mark_all ms file at i l = at_drop_all (λ z. mark_at z file at) ms i l
