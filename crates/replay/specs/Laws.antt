-- Laws of messages and of the area that they are worked in.
use Rattle.std.specs.Prelude.{◌≡◌, ℕ, ◌≤◌, List, ◌++◌, length, drop}
use Rattle.format.specs.declared.Kind.{Kind}
use Rattle.format.specs.Operations.{Op, op_of, result_size, message_limit}
use Rattle.replay.specs.Areas.{cleared, left}
use Rattle.replay.specs.Messages.{apply, replay}

-- the size that the reader holds to the limit is the size of the message
abbrev pub SizesAreLengths : Type 0
SizesAreLengths =
    (kind : Kind) (argument message : List ℕ) → length (apply (op_of kind argument) message) ≡ result_size kind (length message) (length argument)

-- a path that goes on is replayed on what its beginning made
abbrev pub PathsGoOn : Type 0
PathsGoOn = (path further : List Op) (digest : List ℕ) → replay (path ++ further) digest ≡ replay further (replay path digest)

-- an area that was worked in below 4,096 alone is, once cleared, what a call leaves
abbrev pub GuardsLeave : Type 0
GuardsLeave =
    (area worked : List ℕ) → message_limit ≤ length area → drop message_limit worked ≡ drop message_limit area → cleared worked ≡ left area
