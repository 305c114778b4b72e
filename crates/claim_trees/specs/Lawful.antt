-- What every dossier's tree keeps.
use Rattle.std.specs.Prelude.{ℕ, ◌+◌, ◌^◌, Bool, true, not, ◌&&◌, List, [], ◌∷◌, length, ◌==◌, nat_le, nat_lt}
pub use Rattle.std.specs.List.{list_all as every}
use Rattle.format.specs.Operations.{Op, sha256, append, prepend, reverse, hexlify, result_size, message_limit, path_limit}
use Rattle.format.specs.Attestations.{Att, pending, bitcoin, unknown, pending_tag, bitcoin_tag, payload_limit, address_limit, same, address_bytes}
use Rattle.format.specs.Nodes.{Claim}
use Rattle.claim_trees.specs.Tree.{Tree, end, more, claims}
use Rattle.claim_trees.specs.Order.{kind_of_op, argument_of, ascends, sorted}

-- how long the result is, of a message of size bytes
abbrev pub result_of : Op → ℕ → ℕ
result_of o size = result_size (kind_of_op o) size (length (argument_of o))

-- an argument has 1 to 4,096 bytes, where there is one
abbrev pub argument_fits : Op → Bool
argument_fits sha256 = true
argument_fits (append argument) = nat_le 1 (length argument) && nat_le (length argument) message_limit
argument_fits (prepend argument) = nat_le 1 (length argument) && nat_le (length argument) message_limit
argument_fits reverse = true
argument_fits hexlify = true

-- an operation under depth others, over a message of size bytes
abbrev pub op_fits : ℕ → ℕ → Op → Bool
op_fits depth size o = nat_lt depth path_limit && (argument_fits o && nat_le (result_of o size) message_limit)

abbrev pub att_fits : Att → Bool
att_fits (pending address) = nat_le (length address) address_limit && address_bytes address
att_fits (bitcoin height) = nat_lt height (2 ^ 32)
att_fits (unknown tag payload) =
    (length tag == 8) && (nat_le (length payload) payload_limit && (not (same tag bitcoin_tag) && not (same tag pending_tag)))

abbrev pub path_fits : ℕ → ℕ → List Op → Bool
path_fits depth size [] = true
path_fits depth size (o ∷ os) = op_fits depth size o && path_fits (depth + 1) (result_of o size) os

-- a claim that a node can hold, under depth operations, over a message of size bytes
abbrev pub fits_at : ℕ → ℕ → Claim → Bool
fits_at depth size c = path_fits depth size c.path && att_fits c.attestation

-- a claim that a proof file can hold
abbrev pub claim_fits : Claim → Bool
claim_fits c = fits_at 0 32 c

-- sorted without repeats, no operation over an empty node, and every claim one that a proof file can hold
abbrev pub lawful : List Att → Tree → Bool
lawful marks branches = ascends marks && (sorted branches && every claim_fits (claims marks branches))

-- ---- the limits again, node by node

abbrev pub marks_fit : List Att → Bool
marks_fit marks = every att_fits marks

abbrev pub branches_fit : ℕ → ℕ → Tree → Bool
branches_fit depth size end = true
branches_fit depth size (more o marks below rest) =
    op_fits depth size o && (marks_fit marks && (branches_fit (depth + 1) (result_of o size) below && branches_fit depth size rest))
