-- The bytes of operations, attestations, nodes and files, each number in its shortest form.
use Rattle.std.specs.Prelude.{ℕ, zero, suc, ◌+◌, ◌/◌, ◌%◌, Bool, true, false, cond, ◌&&◌, List, [], ◌∷◌, ◌++◌, length, nat_lt}
use Rattle.format.specs.Operations.{Op, sha256, append, prepend, reverse, hexlify}
use Rattle.format.specs.Attestations.{Att, pending, bitcoin, unknown}
use Rattle.format.specs.Files.{mark}
use Rattle.claim_trees.specs.Tree.{Tree, end, more}
use Rattle.claim_trees.specs.Order.{tag_of}

-- seven bits in each byte, the low ones first: at most k bytes with the top bit, then one without
unfoldable pub groups : ℕ → ℕ → List ℕ
groups zero n = n ∷ []
groups (suc k) n = cond (nat_lt n 128) (n ∷ []) ((128 + n % 128) ∷ groups k (n / 128))

-- a number below 2 ^ 32 in its shortest form
unfoldable pub shortest : ℕ → List ℕ
shortest n = groups 4 n

-- a length and that many bytes
abbrev pub block : List ℕ → List ℕ
block bs = shortest (length bs) ++ bs

-- an operation without the node below it
abbrev pub op_bytes : Op → List ℕ
op_bytes sha256 = 0x08 ∷ []
op_bytes (append argument) = 0xf0 ∷ block argument
op_bytes (prepend argument) = 0xf1 ∷ block argument
op_bytes reverse = 0xf2 ∷ []
op_bytes hexlify = 0xf3 ∷ []

-- a payload in its shortest form
abbrev pub payload_of : Att → List ℕ
payload_of (pending address) = block address
payload_of (bitcoin height) = shortest height
payload_of (unknown tag payload) = payload

abbrev pub att_bytes : Att → List ℕ
att_bytes a = 0x00 ∷ (tag_of a ++ block (payload_of a))

-- ff before each item but the last of its node
abbrev pub ff : Bool → List ℕ
ff true = []
ff false = 0xff ∷ []

-- no branch, no attestation
abbrev pub none : Tree → Bool
none end = true
none (more o marks below rest) = false

abbrev pub nil : List Att → Bool
nil [] = true
nil (a ∷ marks) = false

-- the attestations of a node; where no branch follows, alone, the last of them is the last item
unfoldable pub marks_bytes : List Att → Bool → List ℕ
marks_bytes [] alone = []
marks_bytes (a ∷ marks) alone = ff (nil marks && alone) ++ (att_bytes a ++ marks_bytes marks alone)

-- the branches, each with the node below it
unfoldable pub branches_bytes : Tree → List ℕ
branches_bytes end = []
branches_bytes (more o marks below rest) =
    ff (none rest) ++ ((op_bytes o ++ (marks_bytes marks (none below) ++ branches_bytes below)) ++ branches_bytes rest)

abbrev pub node_bytes : List Att → Tree → List ℕ
node_bytes marks branches = marks_bytes marks (none branches) ++ branches_bytes branches

-- the mark, the version 1, the file hash tag, a digest and a node
abbrev pub file_of : List ℕ → List ℕ → List ℕ
file_of digest node = mark ++ (0x01 ∷ (0x08 ∷ (digest ++ node)))

abbrev pub file_bytes : List ℕ → List Att → Tree → List ℕ
file_bytes digest marks branches = file_of digest (node_bytes marks branches)
