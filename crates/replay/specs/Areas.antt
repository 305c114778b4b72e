-- What stands in a work area.
use Rattle.std.specs.Prelude.{ℕ, ◌-◌, cond, List, ◌++◌, length, drop, replicate, nat_lt}
use Rattle.format.specs.Operations.{message_limit}

-- the first 4,096 bytes zero, all others kept
abbrev pub cleared : List ℕ → List ℕ
cleared area = replicate message_limit 0 ++ drop message_limit area

-- what a call leaves of the area that it was lent: all of one that is too short, else a cleared one
abbrev pub left : List ℕ → List ℕ
left area = cond (nat_lt (length area) message_limit) area (cleared area)

-- a message at the front, zeros behind it up to 4,096, all others kept
abbrev pub holding : List ℕ → List ℕ → List ℕ
holding message area = message ++ (replicate (message_limit - length message) 0 ++ drop message_limit area)
