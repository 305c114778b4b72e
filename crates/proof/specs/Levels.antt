-- A place by what a walk holds: the levels above, and how long the message of its node is.
use Rattle.std.specs.Prelude.{ℕ, List, Some, None, Option}
use Rattle.format.specs.declared.Level.{Level}
use Rattle.format.specs.Walks.{Place, inside, behind}

-- in a node over a message of so many bytes, or behind the top node
abbrev pub standing : Option ℕ → List Level → Place
standing (Some size) levels = inside levels size
standing None levels = behind
