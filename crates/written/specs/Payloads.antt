-- How much room a payload wants.
use Rattle.std.specs.Prelude.{ℕ, length}
use Rattle.format.specs.Attestations.{Att, pending, bitcoin, unknown}
use Rattle.claim_trees.specs.Bytes.{shortest}
use Rattle.claim_trees.specs.Onto.{block_length}

-- the bytes of a payload in shortest form, unless they stand in the tree already
abbrev pub apart : Att → ℕ
apart (pending address) = block_length address
apart (bitcoin height) = length (shortest height)
apart (unknown tag payload) = 0
