-- What operations make of a message.
use Rattle.std.specs.Prelude.{ℕ, ◌+◌, ◌/◌, ◌%◌, Bool, cond, ◌&&◌, List, [], ◌∷◌, ◌++◌, reverse as reversed, length, nat_le, nat_lt}
use Rattle.format.specs.Operations.{Op, sha256, append, prepend, reverse, hexlify, message_limit}
use Rattle.sha256.specs.Sha256.{sha256 as digest_of}

-- the lowercase hexadecimal digit of a number below 16: 0 to 9, then a to f
abbrev pub digit : ℕ → ℕ
digit n = cond (nat_lt n 10) (0x30 + n) (0x57 + n)

-- each byte as two digits, the high one first
unfoldable pub digits : List ℕ → List ℕ
digits [] = []
digits (b ∷ bs) = digit (b / 16) ∷ digit (b % 16) ∷ digits bs

-- one operation
abbrev pub apply : Op → List ℕ → List ℕ
apply sha256 message = digest_of message
apply (append argument) message = message ++ argument
apply (prepend argument) message = argument ++ message
apply reverse message = reversed message
apply hexlify message = digits message

-- a path, its first operation first
unfoldable pub replay : List Op → List ℕ → List ℕ
replay [] message = message
replay (o ∷ path) message = replay path (apply o message)

-- whether the message, and every other that the path makes on the way, is within the limit
unfoldable pub fits : List Op → List ℕ → Bool
fits [] message = nat_le (length message) message_limit
fits (o ∷ path) message = nat_le (length message) message_limit && fits path (apply o message)
