-- The items of a node.
use Rattle.std.specs.Prelude.{ℕ, ◌-◌, cond, List, length, Some, None, Option, ◌==◌, nat_le}
use Rattle.format.specs.declared.Kind.{Kind}
use Rattle.format.specs.Outcome.{Outcome, got, fault, then}
use Rattle.format.specs.Numbers.{byte_at, bytes_at, block_at}
use Rattle.format.specs.Operations.{kind_of, result_size, argument_at, message_limit, path_limit}
use Rattle.format.specs.Attestations.{Att, payload_limit, content_at}

-- an item, with the offset of its tag and the offset of its argument or payload
pub data Piece : Type 0 where
  operation : Kind → List ℕ → ℕ → ℕ → Piece
  attestation : Att → List ℕ → ℕ → ℕ → Piece

-- an operation whose tag stands at offset, under depth others, over a message of size bytes: its argument stands at at
abbrev pub operation_at : Option Kind → ℕ → ℕ → ℕ → List ℕ → ℕ → Outcome Piece
operation_at None offset depth size file at = fault 6 offset
operation_at (Some kind) offset depth size file at =
    cond (nat_le path_limit depth) (fault 11 offset)
    (then (argument_at kind file at) (λ argument end.
    cond (nat_le (result_size kind size (length argument)) message_limit)
    (got (operation kind argument offset (end - length argument)) end)
    (fault 9 offset)))

-- an attestation: eight bytes of tag, then a payload that is read whole before anything in it
abbrev pub attestation_at : List ℕ → ℕ → Outcome Piece
attestation_at file at =
    then (bytes_at 8 file at) (λ tag next.
    then (block_at 0 payload_limit file next) (λ payload end.
    then (content_at tag payload file (end - length payload) end) (λ a last.
    got (attestation a payload at (end - length payload)) last)))

-- 00 and an attestation, or an operation
abbrev pub item_at : ℕ → ℕ → List ℕ → ℕ → Outcome Piece
item_at depth size file at =
    then (byte_at file at) (λ tag next.
    cond (tag == 0) (attestation_at file next) (operation_at (kind_of tag) at depth size file next))
