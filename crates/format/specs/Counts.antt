-- The claims of a file, counted by the kind of their attestation.
use Rattle.std.specs.Prelude.{ℕ, ◌+◌, List, [], ◌∷◌}
use Rattle.format.specs.Attestations.{Att, pending, bitcoin, unknown}
use Rattle.format.specs.Items.{Piece, operation, attestation}
use Rattle.format.specs.Nodes.{Claim}

pub record Counts : Type 0 where
  pub pending : ℕ
  pub bitcoin : ℕ
  pub unknown : ℕ

abbrev pub counts : ℕ → ℕ → ℕ → Counts
counts p b u = record { pending = p; bitcoin = b; unknown = u }

abbrev pub plus : Counts → Counts → Counts
plus c d = counts (c.pending + d.pending) (c.bitcoin + d.bitcoin) (c.unknown + d.unknown)

-- one attestation
abbrev pub one : Att → Counts
one (pending address) = counts 1 0 0
one (bitcoin height) = counts 0 1 0
one (unknown tag payload) = counts 0 0 1

unfoldable pub counts_of : List Claim → Counts
counts_of [] = counts 0 0 0
counts_of (c ∷ cs) = plus (one c.attestation) (counts_of cs)

-- what an item of a walk adds
abbrev pub adds : Piece → Counts
adds (operation kind argument offset first) = counts 0 0 0
adds (attestation a payload offset first) = one a
