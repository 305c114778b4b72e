-- What an item that the reader hands out stands for.
use Rattle.std.specs.Prelude.{ℕ, ◌<◌, ◌≤◌, length}
use Rattle.proof.specs.declared.item.Item.{Item}
use Rattle.proof.specs.declared.item.Item.TheVariants.{Operation, Attestation}
use Rattle.proof.specs.declared.item.Content.{Content}
use Rattle.proof.specs.declared.item.Content.TheVariants.{Pending, Bitcoin, Unknown}
use Rattle.format.specs.Operations.{result_size, message_limit, path_limit}
use Rattle.format.specs.Attestations.{Att, pending, bitcoin, unknown}
use Rattle.format.specs.Items.{Piece, operation, attestation}

abbrev pub attested : Content → Att
attested (Pending address) = pending address.now
attested (Bitcoin height) = bitcoin height
attested (Unknown tag payload) = unknown tag.now payload.now

abbrev pub piece : Item → Piece
piece (Operation kind argument offset first) = operation kind argument.now offset first
piece (Attestation content payload offset first) = attestation (attested content) payload.now offset first

-- what is known of an item that was read under depth operations, over a message of size bytes
abbrev pub Bounded : ℕ → ℕ → Item → Type 0
Bounded depth size (Operation kind argument offset first) =
    (depth < path_limit) × (length argument.now ≤ message_limit) × (result_size kind size (length argument.now) ≤ message_limit)
Bounded depth size (Attestation content payload offset first) = Unit {0}
