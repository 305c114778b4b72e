-- What calls answer, and what they leave of an out area.
use Rattle.std.specs.Prelude.{ℕ, cond, List, ◌++◌, length, drop, nat_lt}

-- granted with a value; refused with a number at an offset; or refused for want of memory, which has no number
pub data Answer (A : Type 0) : Type 0 where
  granted : A → Answer A
  refused : (number offset : ℕ) → Answer A
  memory : Answer A

-- bytes for an out area: their length, or 16 where the area is too short
abbrev pub fitted : List ℕ → List ℕ → Answer ℕ
fitted bytes out = cond (nat_lt (length out) (length bytes)) (refused 16 0) (granted (length bytes))

-- the out area afterwards: the bytes, and those behind them kept; an area that is too short is kept
abbrev pub placed : List ℕ → List ℕ → List ℕ
placed bytes out = cond (nat_lt (length out) (length bytes)) out (bytes ++ drop (length bytes) out)
