-- Operations: their tags, arguments and results.
use Rattle.std.specs.Prelude.{ℕ, ◌+◌, ◌*◌, cond, List, [], Some, None, Option, ◌==◌}
use Rattle.format.specs.declared.Kind.{Kind}
use Rattle.format.specs.declared.Kind.TheVariants.{Sha256, Append, Prepend, Reverse, Hexlify}
use Rattle.format.specs.Outcome.{Outcome, got}
use Rattle.format.specs.Numbers.{block_at}

-- an operation with its argument; two are equal exactly when their tags and arguments are
pub data Op : Type 0 where
  sha256 : Op
  append : List ℕ → Op
  prepend : List ℕ → Op
  reverse : Op
  hexlify : Op

abbrev pub op_of : Kind → List ℕ → Op
op_of Sha256 argument = sha256
op_of Append argument = append argument
op_of Prepend argument = prepend argument
op_of Reverse argument = reverse
op_of Hexlify argument = hexlify

abbrev pub kind_of : ℕ → Option Kind
kind_of tag =
    cond (tag == 0x08) (Some Sha256)
    (cond (tag == 0xf0) (Some Append)
    (cond (tag == 0xf1) (Some Prepend)
    (cond (tag == 0xf2) (Some Reverse)
    (cond (tag == 0xf3) (Some Hexlify) None))))

-- how long the result is, of a message of size bytes and an argument of n
abbrev pub result_size : Kind → ℕ → ℕ → ℕ
result_size Sha256 size n = 32
result_size Append size n = size + n
result_size Prepend size n = size + n
result_size Reverse size n = size
result_size Hexlify size n = size * 2

-- the longest message, and so the longest argument
abbrev pub message_limit : ℕ
message_limit = 4096

-- the most operations on a path
abbrev pub path_limit : ℕ
path_limit = 255

-- the argument behind a tag
abbrev pub argument_at : Kind → List ℕ → ℕ → Outcome (List ℕ)
argument_at Sha256 file at = got [] at
argument_at Append file at = block_at 1 message_limit file at
argument_at Prepend file at = block_at 1 message_limit file at
argument_at Reverse file at = got [] at
argument_at Hexlify file at = got [] at
