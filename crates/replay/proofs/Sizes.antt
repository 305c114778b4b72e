-- How long the messages are that operations make.
use Rattle.std.proofs.Common.{◌≡◌, ℕ, zero, suc, ◌*◌, ◌/◌, List, [], ◌∷◌, length, refl, ap, ◌∙◌, add_comm, arith}
use Rattle.std.proofs.lemmas.List.{length-append, length-reverse}
use Rattle.format.specs.declared.Kind.TheVariants.{Sha256, Append, Prepend, Reverse, Hexlify}
use Rattle.sha256.specs.Sha256.{H0, padded, added, block_step, hash_value, final_hash, digest, sha256}
use Rattle.replay.specs.Laws.{SizesAreLengths, PathsGoOn}
use Rattle.replay.specs.Messages.{digits, replay}

eight : (bytes : List ℕ) (n : ℕ) → length (hash_value H0 bytes n) ≡ 8
unfolding hash_value block_step added
eight bytes zero = refl
eight bytes (suc n) = refl

four_each : (hash : List ℕ) → length (digest hash) ≡ 4 * length hash
unfolding digest
four_each [] = refl
four_each (x ∷ hash) = omega (arith, four_each hash)

-- a digest has 32 bytes
pub digest_length : (message : List ℕ) → length (sha256 message) ≡ 32
unfolding final_hash
digest_length message =
    four_each (final_hash message) ∙ ap (λ n. 4 * n) (eight (padded message) (length (padded message) / 64))

pub digits_length : (message : List ℕ) → length (digits message) ≡ length message * 2
unfolding digits
digits_length [] = refl
digits_length (b ∷ message) = omega (arith, digits_length message)

pub sizes_are_lengths : SizesAreLengths
sizes_are_lengths Sha256 a m = digest_length m
sizes_are_lengths Append a m = length-append m a
sizes_are_lengths Prepend a m = length-append a m ∙ add_comm (length a) (length m)
sizes_are_lengths Reverse a m = length-reverse m
sizes_are_lengths Hexlify a m = digits_length m

pub paths_go_on : PathsGoOn
unfolding replay
paths_go_on [] further digest = refl
paths_go_on (o ∷ path) further digest = paths_go_on path further _
