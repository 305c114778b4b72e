-- What the header judge means.
use Rattle.std.specs.Prelude.{ℕ, ◌-◌, ◌/◌, cond, ◌&&◌, List, length, nat_le, nat_lt}
use Rattle.format.specs.Attestations.{same, bitcoin_tag, height_at}
use Rattle.headers.specs.Headers.{header_at, root_of, time_of}
use Rattle.headers.specs.Following.{covered_by}
use Rattle.judge.specs.Meaning.{Ruling, confirmed, rejected, waiting, ruled_by, Meaning}

-- a message against the header of its height: it waits where the height is not covered
abbrev pub ruled_at : ℕ → ℕ → List ℕ → List ℕ → ℕ → Ruling
ruled_at base covered bytes message height =
    cond (nat_le base height && nat_lt (height - base) covered)
    (cond (same message (root_of (header_at bytes (height - base)))) (confirmed (time_of (header_at bytes (height - base)))) rejected)
    waiting

-- it owns the Bitcoin tag, and a payload is exactly one number
abbrev pub by_headers : ℕ → ℕ → List ℕ → Meaning
by_headers base covered bytes = record {
  owns = λ tag. same tag bitcoin_tag;
  rules = λ tag payload message. ruled_by (ruled_at base covered bytes message) (height_at payload 0 (length payload));
}

-- the longest run is covered
abbrev pub header_meaning : ℕ → List ℕ → ℕ → List ℕ → Meaning
header_meaning base previous ceiling bytes = by_headers base (covered_by base previous ceiling bytes) bytes

-- the same by the covered headers alone, which the judge keeps
abbrev pub standing : ℕ → List ℕ → Meaning
standing base covered = by_headers base (length covered / 80) covered
