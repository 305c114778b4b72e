-- The order of operations, attestations and claims, and sorted trees.
use Rattle.std.specs.Prelude.{◌≡◌, ℕ, Bool, true, ◌&&◌, List, [], ◌∷◌}
use Rattle.std.specs.declared.cmp.Ordering.TheVariants.{Less, Equal}
use Rattle.std.specs.declared.cmp.Ordering.{Ordering}
use Rattle.std.specs.Cmp.Lexicographic.{slice_cmp}
use Rattle.std.specs.Ordering.{is_lt, ordering_reverse, ordering_then, nat_cmp}
use Rattle.format.specs.declared.Kind.{Kind}
use Rattle.format.specs.declared.Kind.TheVariants.{Sha256, Append, Prepend, Reverse, Hexlify}
use Rattle.format.specs.Operations.{Op, sha256, append, prepend, reverse, hexlify}
use Rattle.format.specs.Attestations.{Att, pending, bitcoin, unknown, pending_tag, bitcoin_tag}
use Rattle.format.specs.Nodes.{Claim}
use Rattle.claim_trees.specs.Tree.{Tree, end, more, filled, claims, Apart}

abbrev pub kind_of_op : Op → Kind
kind_of_op sha256 = Sha256
kind_of_op (append argument) = Append
kind_of_op (prepend argument) = Prepend
kind_of_op reverse = Reverse
kind_of_op hexlify = Hexlify

abbrev pub op_tag : Op → ℕ
op_tag sha256 = 0x08
op_tag (append argument) = 0xf0
op_tag (prepend argument) = 0xf1
op_tag reverse = 0xf2
op_tag hexlify = 0xf3

abbrev pub argument_of : Op → List ℕ
argument_of sha256 = []
argument_of (append argument) = argument
argument_of (prepend argument) = argument
argument_of reverse = []
argument_of hexlify = []

abbrev pub tag_of : Att → List ℕ
tag_of (pending address) = pending_tag
tag_of (bitcoin height) = bitcoin_tag
tag_of (unknown tag payload) = tag

-- no file has an unknown attestation under a known tag; telling the kinds apart makes the order total there too
abbrev pub kind_of_att : Att → ℕ
kind_of_att (bitcoin height) = 0
kind_of_att (pending address) = 1
kind_of_att (unknown tag payload) = 2

abbrev pub height_of : Att → ℕ
height_of (bitcoin height) = height
height_of (pending address) = 0
height_of (unknown tag payload) = 0

-- the address, or the payload of an unknown attestation
abbrev pub bytes_of : Att → List ℕ
bytes_of (bitcoin height) = []
bytes_of (pending address) = address
bytes_of (unknown tag payload) = payload

-- from the left, a beginning before its continuation
abbrev pub byte_order : List ℕ → List ℕ → Ordering
byte_order xs ys = slice_cmp nat_cmp xs ys

-- by tag, then by argument
abbrev pub op_order : Op → Op → Ordering
op_order o p = ordering_then (nat_cmp (op_tag o) (op_tag p)) (byte_order (argument_of o) (argument_of p))

-- the tag decides first; under one tag the height does, read as a number, or else the bytes of the address or payload
abbrev pub att_order : Att → Att → Ordering
att_order a b =
    ordering_then (byte_order (tag_of a) (tag_of b))
    (ordering_then (nat_cmp (kind_of_att a) (kind_of_att b))
    (ordering_then (nat_cmp (height_of a) (height_of b)) (byte_order (bytes_of a) (bytes_of b))))

abbrev pub path_order : List Op → List Op → Ordering
path_order os ps = slice_cmp op_order os ps

-- the written order: by path, so that attestations stand before the branches of their node, then by attestation
abbrev pub claim_order : Claim → Claim → Ordering
claim_order c d = ordering_then (path_order c.path d.path) (att_order c.attestation d.attestation)

-- ---- sorted without repeats

-- x comes before the first of a list
abbrev pub ahead : {A : Type 0} → (A → A → Ordering) → A → List A → Bool
ahead order x [] = true
ahead order x (y ∷ ys) = is_lt (order x y)

abbrev pub rising : {A : Type 0} → (A → A → Ordering) → List A → Bool
rising order [] = true
rising order (x ∷ xs) = ahead order x xs && rising order xs

abbrev pub ascends : List Att → Bool
ascends marks = rising att_order marks

-- o comes before the first branch
abbrev pub before : Op → Tree → Bool
before o end = true
before o (more p marks below rest) = is_lt (op_order o p)

-- attestations and branches ascend in every node, and no operation stands over an empty node
abbrev pub sorted : Tree → Bool
sorted end = true
sorted (more o marks below rest) = before o rest && (ascends marks && (filled marks below && (sorted below && sorted rest)))

-- ---- laws

-- never before itself, one before the other where they differ, and before what comes later
pub record StrictTotal {A : Type 0} (order : A → A → Ordering) : Type 0 where
  pub itself : (x : A) → order x x ≡ Equal
  pub same : (x y : A) → order x y ≡ Equal → x ≡ y
  pub flip : (x y : A) → order x y ≡ ordering_reverse (order y x)
  pub trans : (x y z : A) → order x y ≡ Less → order y z ≡ Less → order x z ≡ Less

pub record OrderLaw : Type 0 where
  pub of_operations : StrictTotal op_order
  pub of_attestations : StrictTotal att_order
  pub of_claims : StrictTotal claim_order
  -- the claims of a sorted tree ascend as they are written
  pub written : (marks : List Att) (branches : Tree) → ascends marks ≡ true → sorted branches ≡ true
      → rising claim_order (claims marks branches) ≡ true
  -- so each is written once
  pub once : (marks : List Att) (branches : Tree) → ascends marks ≡ true → sorted branches ≡ true → Apart (claims marks branches)
