-- What a walk finds, and the row that a judge makes of it.
use Rattle.std.specs.Prelude.{ℕ, ◌+◌, List, length, take, Some, None, Option}
use Rattle.std.specs.Borrow.{Bor}
use Rattle.format.specs.Attestations.{Att}
use Rattle.format.specs.Nodes.{Claim}
use Rattle.claim_trees.specs.Bytes.{payload_of}
use Rattle.claim_trees.specs.Order.{tag_of}
use Rattle.claims.specs.declared.tree.Attestation.{Attestation}
use Rattle.claims.specs.Models.{att}
use Rattle.replay.specs.Messages.{replay}
use Rattle.judge.specs.Meaning.{Meaning, judged}
use Rattle.runs.specs.declared.report.Row.{Row}
use Rattle.rows.specs.declared.place.Place.{Place}

-- an attestation that was looked up
abbrev pub marked : Option (Bor Attestation) → Option Att
marked None = None
marked (Some a) = Some (att a.now)

-- the attestation of a claim, how many operations lead to it, and the message that they make
pub record Found : Type 0 where
  pub attestation : Att
  pub operations : ℕ
  pub message : List ℕ

-- what was found, with the area as it is then
abbrev pub seen : Place → List ℕ → Found
seen p area = record { attestation = att p.attestation.now; operations = p.operations; message = take p.size area }

abbrev pub view : Option Place → List ℕ → Option Found
view None area = None
view (Some p) area = Some (seen p area)

-- what is sought: a claim, below so many operations more that have made the message
abbrev pub shown : ℕ → List ℕ → Option Claim → Option Found
shown done message None = None
shown done message (Some c) =
    Some (record { attestation = c.attestation; operations = done + length c.path; message = replay c.path message })

-- the row that a judge of this meaning makes of it
abbrev pub row_at : Meaning → Found → Row
row_at m s = record {
  tag = tag_of s.attestation;
  operations = s.operations;
  verdict = judged m (tag_of s.attestation) (payload_of s.attestation) s.message;
}

abbrev pub row_in : Meaning → Option Found → Option Row
row_in m None = None
row_in m (Some s) = Some (row_at m s)
