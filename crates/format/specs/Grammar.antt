-- The grammar of a proof file: which bytes say which claims, within the limits.
use Rattle.std.specs.Prelude.{◌≡◌, ℕ, ◌+◌, ◌-◌, ◌*◌, ◌^◌, ◌<◌, ◌≤◌, true, List, [], ◌∷◌, ◌++◌, map, length, Some, ◌≢◌}
use Rattle.std.specs.List.{AllByRecursion}
use Rattle.format.specs.declared.Kind.{Kind}
use Rattle.format.specs.declared.Kind.TheVariants.{Sha256, Append, Prepend, Reverse, Hexlify}
use Rattle.format.specs.Operations.{op_of, kind_of, result_size, message_limit, path_limit}
use Rattle.format.specs.Attestations.{Att, pending, bitcoin, unknown, pending_tag, bitcoin_tag, payload_limit, address_limit, address_byte}
use Rattle.format.specs.Nodes.{Claim, claim, under}
use Rattle.format.specs.Files.{mark, file_limit, head, Said, said}

-- seven bits in each byte, the low ones first; the top bit is set on every byte but the last
pub data Groups : List ℕ → ℕ → Type 0 where
  final : {b : ℕ} → b < 128 → Groups (b ∷ []) b
  onward : {b : ℕ} {bs : List ℕ} {v : ℕ} → 128 ≤ b → Groups bs v → Groups (b ∷ bs) (b - 128 + 128 * v)

-- a number has at most five bytes and is below 2 ^ 32
pub record Number (bs : List ℕ) (v : ℕ) : Type 0 where
  pub groups : Groups bs v
  pub short : length bs ≤ 5
  pub small : v < 2 ^ 32

-- a length from lo to hi, then that many bytes
pub data Block (lo hi : ℕ) : List ℕ → List ℕ → Type 0 where
  block : {ns bs : List ℕ} → Number ns (length bs) → lo ≤ length bs → length bs ≤ hi → Block lo hi (ns ++ bs) bs

-- the bytes between the tag of an operation and the node below it, and the argument in them
pub data Argument : Kind → List ℕ → List ℕ → Type 0 where
  sha256 : Argument Sha256 [] []
  append : {bs argument : List ℕ} → Block 1 message_limit bs argument → Argument Append bs argument
  prepend : {bs argument : List ℕ} → Block 1 message_limit bs argument → Argument Prepend bs argument
  reverse : Argument Reverse [] []
  hexlify : Argument Hexlify [] []

-- what a payload under a tag says: a height, an address, or only itself
pub data Content : List ℕ → List ℕ → Att → Type 0 where
  height : {payload : List ℕ} {h : ℕ} → Number payload h → Content bitcoin_tag payload (bitcoin h)
  address : {payload a : List ℕ} → Block 0 address_limit payload a → AllByRecursion (λ b. address_byte b ≡ true) a → Content pending_tag payload (pending a)
  other : {tag payload : List ℕ} → (tag ≢ bitcoin_tag) → (tag ≢ pending_tag) → Content tag payload (unknown tag payload)

mutual
  -- an item and the node below it, under depth operations, over a message of size bytes
  pub data Branch : ℕ → ℕ → List ℕ → List Claim → Type 0 where
    attestation : {depth size : ℕ} {tag ps payload : List ℕ} {a : Att}
        → length tag ≡ 8 → Block 0 payload_limit ps payload → Content tag payload a
        → Branch depth size (0 ∷ (tag ++ ps)) (claim [] a ∷ [])
    operation : {depth size tag : ℕ} {kind : Kind} {xs argument bs : List ℕ} {cs : List Claim}
        → kind_of tag ≡ Some kind → depth < path_limit → Argument kind xs argument → result_size kind size (length argument) ≤ message_limit
        → Node (depth + 1) (result_size kind size (length argument)) bs cs
        → Branch depth size (tag ∷ (xs ++ bs)) (map (under (op_of kind argument)) cs)

  -- branches with ff before each, then a last one without
  pub data Node : ℕ → ℕ → List ℕ → List Claim → Type 0 where
    last : {depth size : ℕ} {bs : List ℕ} {cs : List Claim} → Branch depth size bs cs → Node depth size bs cs
    another : {depth size : ℕ} {xs bs : List ℕ} {cs ds : List Claim}
        → Branch depth size xs cs → Node depth size bs ds → Node depth size (0xff ∷ (xs ++ bs)) (cs ++ ds)

-- the mark, the version, the file hash tag, the digest and the top node
pub data File : List ℕ → Said → Type 0 where
  proof : {vs digest bs : List ℕ} {cs : List Claim}
      → Number vs 1 → length digest ≡ 32 → Node 0 32 bs cs
      → length (mark ++ (vs ++ (0x08 ∷ (digest ++ bs)))) ≤ file_limit
      → File (mark ++ (vs ++ (0x08 ∷ (digest ++ bs)))) (said (head (31 + length vs) digest) cs)
