-- Files to try, about the definitions.
use Rattle.std.specs.Prelude.{◌≡◌, ℕ, List, [], ◌∷◌, ◌++◌, replicate}
use Rattle.std.specs.declared.cmp.Ordering.TheVariants.{Less, Greater}
use Rattle.format.specs.Outcome.{Outcome, got, fault, then}
use Rattle.format.specs.Operations.{append, prepend, sha256}
use Rattle.format.specs.Attestations.{unknown, bitcoin, bitcoin_tag}
use Rattle.format.specs.Nodes.{Claim, claim}
use Rattle.format.specs.Files.{said, head, file_at}
use Rattle.claim_trees.specs.Order.{byte_order, att_order}
use Rattle.claim_trees.specs.Union.{union}
use Rattle.claim_trees.specs.Bytes.{shortest, file_of, file_bytes}
use Rattle.claim_trees.specs.Size.{size, size_of}
use Rattle.claim_trees.specs.Gathered.{gathered, written}

abbrev pub T : List ℕ
T = replicate 8 0x01

abbrev pub U : List ℕ
U = replicate 8 0x02

abbrev pub zeros : List ℕ
zeros = replicate 32 0x00

-- the file with this body, which stands at 65
abbrev pub file : List ℕ → List ℕ
file body = file_of zeros body

-- what is written of the claims of a file
abbrev pub rewritten : List ℕ → Outcome (List ℕ)
rewritten x = then (file_at x) (λ s last. got (written s.head.digest s.claims) last)

-- what is written of the union of two files
abbrev pub merged : List ℕ → List ℕ → Outcome (List ℕ)
merged x y =
    then (file_at x) (λ s _.
    then (file_at y) (λ t last.
    let z = union (gathered s.claims) (gathered t.claims) in
    got (file_bytes s.head.digest z.marks z.branches) last))

-- f0 01 aa 00 T 00 and f1 01 bb 00 T 00
abbrev pub appending : List ℕ
appending = 0xf0 ∷ 0x01 ∷ 0xaa ∷ 0x00 ∷ (T ++ (0x00 ∷ []))

abbrev pub prepending : List ℕ
prepending = 0xf1 ∷ 0x01 ∷ 0xbb ∷ 0x00 ∷ (T ++ (0x00 ∷ []))

-- a Bitcoin attestation with this payload of two bytes
abbrev pub height : ℕ → ℕ → List ℕ
height a b = 0x00 ∷ (bitcoin_tag ++ (0x02 ∷ a ∷ b ∷ []))

-- the claims that docs/CLAIMS.md draws, out of order and one of them twice
abbrev pub drawn : List Claim
drawn =
    claim (prepend (0xbb ∷ []) ∷ []) (unknown T [])
    ∷ claim (append (0xaa ∷ []) ∷ sha256 ∷ []) (bitcoin 256)
    ∷ claim [] (bitcoin 129)
    ∷ claim (prepend (0xbb ∷ []) ∷ []) (unknown T [])
    ∷ claim (append (0xaa ∷ []) ∷ []) (unknown T [])
    ∷ []

pub record Examples : Type 0 where
  -- two files in either order
  pub two : merged (file appending) (file prepending) ≡ got (file (0xff ∷ (appending ++ prepending))) 78
  pub turned : merged (file prepending) (file appending) ≡ got (file (0xff ∷ (appending ++ prepending))) 78
  -- an operation that occurs twice stands for both branches
  pub repeated : rewritten (file (0xff ∷ 0xf0 ∷ 0x01 ∷ 0xaa ∷ 0x00 ∷ (T ++ (0x00 ∷ 0xf0 ∷ 0x01 ∷ 0xaa ∷ 0x00 ∷ (U ++ (0x00 ∷ []))))))
      ≡ got (file (0xf0 ∷ 0x01 ∷ 0xaa ∷ 0xff ∷ 0x00 ∷ (T ++ (0x00 ∷ 0x00 ∷ (U ++ (0x00 ∷ [])))))) 92
  -- a padded height is written short
  pub padded : rewritten (file (height 0x80 0x00)) ≡ got (file (0x00 ∷ (bitcoin_tag ++ (0x01 ∷ 0x00 ∷ [])))) 77
  -- heights are ordered as numbers, not as bytes
  pub heights : rewritten (file (0xff ∷ (height 0x80 0x02 ++ height 0x81 0x01))) ≡ got (file (0xff ∷ (height 0x81 0x01 ++ height 0x80 0x02))) 90
  pub numbers : att_order (bitcoin 129) (bitcoin 256) ≡ Less
  pub payloads : byte_order (shortest 129) (shortest 256) ≡ Greater
  -- faults
  pub twice : file_at (file (0xff ∷ 0xff ∷ [])) ≡ fault 6 66
  pub nothing : file_at (file (0xf0 ∷ 0x00 ∷ [])) ≡ fault 8 66
  -- a result of 4,096 bytes and one of 4,097
  pub longest : file_at (file (0xf0 ∷ 0xe0 ∷ 0x1f ∷ (replicate 4064 0x00 ++ (0x00 ∷ (T ++ (0x00 ∷ []))))))
      ≡ got (said (head 32 zeros) (claim (append (replicate 4064 0x00) ∷ []) (unknown T []) ∷ [])) 4142
  pub longer : file_at (file (0xf0 ∷ 0xe1 ∷ 0x1f ∷ (replicate 4065 0x00 ++ (0x00 ∷ (T ++ (0x00 ∷ [])))))) ≡ fault 9 65
  -- the drawn example
  pub drawing : written zeros drawn
      ≡ file (0xff ∷ (height 0x81 0x01 ++ (0xff ∷ 0xf0 ∷ 0x01 ∷ 0xaa ∷ 0xff ∷ 0x00 ∷ (T ++ (0x00 ∷ 0x08 ∷ (height 0x80 0x02 ++ prepending))))))
  pub measured : size_of (gathered drawn).marks (gathered drawn).branches ≡ size 3 4 6
