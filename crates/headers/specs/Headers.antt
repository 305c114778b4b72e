-- A header: version, previous hash, root, time, bits and nonce, in 80 bytes.
use Rattle.std.specs.Prelude.{ℕ, zero, suc, ◌*◌, List, take, drop}
use Rattle.sha256.specs.Sha256.{sha256}
use Rattle.headers.specs.Targets.{little}

-- the header at place k
abbrev pub header_at : List ℕ → ℕ → List ℕ
header_at bytes k = take 80 (drop (80 * k) bytes)

abbrev pub previous_of : List ℕ → List ℕ
previous_of header = take 32 (drop 4 header)

abbrev pub root_of : List ℕ → List ℕ
root_of header = take 32 (drop 36 header)

abbrev pub time_of : List ℕ → ℕ
time_of header = little (take 4 (drop 68 header))

abbrev pub bits_of : List ℕ → ℕ
bits_of header = little (take 4 (drop 72 header))

abbrev pub hash_of : List ℕ → List ℕ
hash_of header = sha256 (sha256 header)

-- the hash that the header at place k has to name: the one before it, and for the first the given one
unfoldable pub hash_before : List ℕ → List ℕ → ℕ → List ℕ
hash_before previous bytes zero = previous
hash_before previous bytes (suc k) = hash_of (header_at bytes k)
