-- A path as the code has it, and what its replay in a lent area gives.
use Rattle.std.specs.Prelude.{ℕ, cond, ◌&&◌, List, [], ◌∷◌, length, Some, None, Option, nat_le}
use Rattle.format.specs.Operations.{Op, op_of, message_limit}
use Rattle.replay.specs.declared.link.Link.{Link}
use Rattle.replay.specs.Messages.{replay, fits}
use Rattle.replay.specs.Areas.{holding}

-- the operations of a path
unfoldable pub ops : List Link → List Op
ops [] = []
ops (l ∷ path) = op_of l.kind l.argument.now ∷ ops path

-- an answer, the size of a message, and the area beside it
pub record Replayed : Type 0 where
  pub answer : Option ℕ
  pub area : List ℕ

abbrev pub replayed : Option ℕ → List ℕ → Replayed
replayed answer area = record { answer = answer; area = area }

-- the message at the front of the area; or no answer and the area as it was, where the area is too short or a message on the way too long
abbrev pub replay_in : List Op → List ℕ → List ℕ → Replayed
replay_in path digest area =
    cond (nat_le message_limit (length area) && fits path digest)
    (replayed (Some (length (replay path digest))) (holding (replay path digest) area))
    (replayed None area)
