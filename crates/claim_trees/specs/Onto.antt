-- The bytes again as they are put one behind another, and how many they are.
use Rattle.std.specs.Prelude.{◌≡◌, ℕ, ◌+◌, Bool, true, false, ◌&&◌, List, [], ◌∷◌, ◌++◌, length}
use Rattle.format.specs.Operations.{Op, sha256, append, prepend, reverse, hexlify}
use Rattle.format.specs.Attestations.{Att, pending, bitcoin, unknown, pending_tag, bitcoin_tag}
use Rattle.format.specs.Files.{mark}
use Rattle.claim_trees.specs.Tree.{Tree, end, more}
use Rattle.claim_trees.specs.Bytes.{shortest, payload_of, none, nil, node_bytes, file_bytes}

-- ---- how many

abbrev pub block_length : List ℕ → ℕ
block_length bs = length (shortest (length bs)) + length bs

abbrev pub op_length : Op → ℕ
op_length sha256 = 1
op_length (append argument) = 1 + block_length argument
op_length (prepend argument) = 1 + block_length argument
op_length reverse = 1
op_length hexlify = 1

abbrev pub payload_length : Att → ℕ
payload_length (pending address) = block_length address
payload_length (bitcoin height) = length (shortest height)
payload_length (unknown tag payload) = length payload

abbrev pub att_length : Att → ℕ
att_length (pending address) = 9 + (length (shortest (block_length address)) + block_length address)
att_length (bitcoin height) = 9 + (length (shortest (length (shortest height))) + length (shortest height))
att_length (unknown tag payload) = 1 + (length tag + block_length payload)

abbrev pub ff_length : Bool → ℕ
ff_length true = 0
ff_length false = 1

abbrev pub marks_length : List Att → Bool → ℕ
marks_length [] alone = 0
marks_length (a ∷ marks) alone = ff_length (nil marks && alone) + (att_length a + marks_length marks alone)

abbrev pub branches_length : Tree → ℕ
branches_length end = 0
branches_length (more o marks below rest) =
    ff_length (none rest) + (op_length o + (marks_length marks (none below) + (branches_length below + branches_length rest)))

abbrev pub node_length : List Att → Tree → ℕ
node_length marks branches = marks_length marks (none branches) + branches_length branches

abbrev pub file_length : List ℕ → List Att → Tree → ℕ
file_length digest marks branches = 33 + (length digest + node_length marks branches)

-- ---- which, behind what stands there already

abbrev pub ff_onto : List ℕ → Bool → List ℕ
ff_onto acc true = acc
ff_onto acc false = acc ++ (0xff ∷ [])

abbrev pub block_onto : List ℕ → List ℕ → List ℕ
block_onto acc bs = (acc ++ shortest (length bs)) ++ bs

abbrev pub op_onto : List ℕ → Op → List ℕ
op_onto acc sha256 = acc ++ (0x08 ∷ [])
op_onto acc (append argument) = block_onto (acc ++ (0xf0 ∷ [])) argument
op_onto acc (prepend argument) = block_onto (acc ++ (0xf1 ∷ [])) argument
op_onto acc reverse = acc ++ (0xf2 ∷ [])
op_onto acc hexlify = acc ++ (0xf3 ∷ [])

abbrev pub att_onto : List ℕ → Att → List ℕ
att_onto acc (pending address) = block_onto (((acc ++ (0x00 ∷ [])) ++ pending_tag) ++ shortest (block_length address)) address
att_onto acc (bitcoin height) = (((acc ++ (0x00 ∷ [])) ++ bitcoin_tag) ++ shortest (length (shortest height))) ++ shortest height
att_onto acc (unknown tag payload) = block_onto ((acc ++ (0x00 ∷ [])) ++ tag) payload

abbrev pub marks_onto : List ℕ → List Att → Bool → List ℕ
marks_onto acc [] alone = acc
marks_onto acc (a ∷ marks) alone = marks_onto (att_onto (ff_onto acc (nil marks && alone)) a) marks alone

abbrev pub branches_onto : List ℕ → Tree → List ℕ
branches_onto acc end = acc
branches_onto acc (more o marks below rest) =
    branches_onto (branches_onto (marks_onto (op_onto (ff_onto acc (none rest)) o) marks (none below)) below) rest

abbrev pub node_onto : List ℕ → List Att → Tree → List ℕ
node_onto acc marks branches = branches_onto (marks_onto acc marks (none branches)) branches

abbrev pub file_onto : List ℕ → List ℕ → List Att → Tree → List ℕ
file_onto acc digest marks branches = node_onto ((((acc ++ mark) ++ (0x01 ∷ [])) ++ (0x08 ∷ [])) ++ digest) marks branches

-- ---- laws

pub record OntoLaw : Type 0 where
  pub node : (acc : List ℕ) (marks : List Att) (t : Tree) → node_onto acc marks t ≡ acc ++ node_bytes marks t
  pub node_size : (marks : List Att) (t : Tree) → node_length marks t ≡ length (node_bytes marks t)
  pub file : (digest : List ℕ) (marks : List Att) (t : Tree) → file_onto [] digest marks t ≡ file_bytes digest marks t
  pub file_size : (digest : List ℕ) (marks : List Att) (t : Tree) → file_length digest marks t ≡ length (file_bytes digest marks t)
  pub payload_size : (a : Att) → payload_length a ≡ length (payload_of a)
