-- What the calendar judge means.
use Rattle.std.specs.Prelude.{ℕ, cond, List, length}
use Rattle.format.specs.Attestations.{same, pending_tag, address_at}
use Rattle.judge.specs.Listing.{listed}
use Rattle.judge.specs.Meaning.{rejected, waiting, ruled_by, Meaning}

-- it owns the Pending tag; a listed address waits, any other is rejected
abbrev pub calendar_meaning : List ℕ → Meaning
calendar_meaning text = record {
  owns = λ tag. same tag pending_tag;
  rules = λ tag payload message.
      ruled_by (λ address. cond (listed text address) waiting rejected) (address_at payload 0 (length payload));
}
