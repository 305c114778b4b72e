-- A written file is read back, and how long it is at most.
use Rattle.std.proofs.Common.{◌≡◌, ℕ, suc, ◌+◌, ◌*◌, ◌/◌, ◌<◌, ◌≤◌, Bool, true, false, ◌&&◌, leb, List, [], ◌∷◌, ◌++◌, length, ap, subst, ⊎_elim, arith}
use Rattle.std.proofs.lemmas.Bool.{and_parts, leb-true, cases_lt}
use Rattle.std.proofs.lemmas.List.{length-append}
use Rattle.format.specs.Outcome.{got}
use Rattle.format.specs.Operations.{Op, sha256, append, prepend, reverse, hexlify, message_limit}
use Rattle.format.specs.Attestations.{Att}
use Rattle.format.specs.Nodes.{Claim}
use Rattle.format.specs.Files.{mark, file_limit, said, head, file_at}
use Rattle.format.specs.Grammar.{Number, final, proof}
use Rattle.format.proofs.Sound.{mark_long}
use Rattle.format.proofs.Complete.{full_file}
use Rattle.claim_trees.specs.Tree.{Tree, end, more, Held, Alike, filled}
use Rattle.claim_trees.specs.Order.{tag_of, argument_of}
use Rattle.claim_trees.specs.Bytes.{groups, shortest, block, op_bytes, payload_of, att_bytes, ff, none, nil, marks_bytes, branches_bytes, node_bytes, file_bytes}
use Rattle.claim_trees.specs.Lawful.{result_of, argument_fits, att_fits, marks_fit, branches_fit}
use Rattle.claim_trees.specs.Size.{Size, Sized, payloads, ops_in, atts_in, bytes_in, size_of, within, operation_limit, attestation_limit, byte_limit}
use Rattle.claim_trees.specs.Gathered.{gathered, written}
use Rattle.claim_trees.specs.Laws.{claims_of, Lawful, WrittenLaw, written_limit, Fitting}
use Rattle.claim_trees.proofs.Shortest.{groups_one, groups_more}
use Rattle.claim_trees.proofs.Spelling.{fits, eight, payload_long, node_fit, node_spelled}
use Rattle.claim_trees.proofs.Gathering.{alike_same, filled_from, gathered_holds}
use Rattle.claim_trees.proofs.Sizes.{one_size, held_sized}
use Rattle.claim_trees.proofs.Unions.{kept, gathered_lawful}

-- ---- lengths

-- two bytes suffice for a length
two : (n : ℕ) → n < 16384 → length (shortest n) ≤ 2
unfolding shortest
two n h = ⊎_elim
    (λ l. let e : length (groups 4 n) ≡ 1 = ap length (groups_one 4 n l) in omega arith)
    (λ m. let e : length (groups 4 n) ≡ suc (length (groups 3 (n / 128))) = ap length (groups_more 3 n m) in
    let d : length (groups 3 (n / 128)) ≡ 1 = ap length (groups_one 3 (n / 128) (omega arith)) in omega arith)
    (cases_lt n 128)

block_long : (bs : List ℕ) → length bs ≤ 8192 → length (block bs) ≤ 2 + length bs
block_long bs h = let e = length-append (shortest (length bs)) bs in let t = two (length bs) (omega arith) in omega arith

ff_long : (b : Bool) → length (ff b) ≤ 1
ff_long true = omega arith
ff_long false = omega arith

att_long : (a : Att) → att_fits a ≡ true → length (att_bytes a) ≤ 11 + length (payload_of a)
att_long a f =
    let e = length-append (tag_of a) (block (payload_of a)) in
    let t = eight a f in let b = block_long (payload_of a) (payload_long a f) in omega arith

op_long : (o : Op) → argument_fits o ≡ true → length (op_bytes o) ≤ 3 + length (argument_of o)
op_long sha256 f = omega arith
op_long (append a) f =
    let l = leb-true (length a) message_limit (and_parts (leb 1 (length a)) (leb (length a) message_limit) f).1 in let b = block_long a (omega arith) in omega arith
op_long (prepend a) f =
    let l = leb-true (length a) message_limit (and_parts (leb 1 (length a)) (leb (length a) message_limit) f).1 in let b = block_long a (omega arith) in omega arith
op_long reverse f = omega arith
op_long hexlify f = omega arith

marks_long : (marks : List Att) (alone : Bool) → marks_fit marks ≡ true
    → length (marks_bytes marks alone) ≤ 12 * length marks + payloads marks
unfolding marks_bytes
marks_long [] alone f = omega arith
marks_long (a ∷ marks) alone f =
    let p = and_parts (att_fits a) (marks_fit marks) f in
    let x = att_long a p.0 in let y = marks_long marks alone p.1 in let z = ff_long (nil marks && alone) in
    let e = length-append (ff (nil marks && alone)) (att_bytes a ++ marks_bytes marks alone) in
    let d = length-append (att_bytes a) (marks_bytes marks alone) in
    omega arith

branches_long : (depth size : ℕ) (t : Tree) → branches_fit depth size t ≡ true
    → length (branches_bytes t) ≤ 4 * ops_in t + (12 * atts_in t + bytes_in t)
unfolding branches_bytes
branches_long depth size end f = omega arith
branches_long depth size (more o m b r) f =
    let g = fits depth size o m b r f in
    let x = op_long o g.argument in
    let y = marks_long m (none b) g.marks in
    let u = branches_long (depth + 1) (result_of o size) b g.below in
    let v = branches_long depth size r g.rest in
    let z = ff_long (none r) in
    let e = length-append (ff (none r)) ((op_bytes o ++ (marks_bytes m (none b) ++ branches_bytes b)) ++ branches_bytes r) in
    let d = length-append (op_bytes o ++ (marks_bytes m (none b) ++ branches_bytes b)) (branches_bytes r) in
    let h = length-append (op_bytes o) (marks_bytes m (none b) ++ branches_bytes b) in
    let i = length-append (marks_bytes m (none b)) (branches_bytes b) in
    omega arith

-- four bytes at most for an operation, twelve for an attestation, and the bytes
pub node_long : (m : List Att) (t : Tree) → marks_fit m ≡ true → branches_fit 0 32 t ≡ true
    → length (node_bytes m t) ≤ 4 * (size_of m t).operations + (12 * (size_of m t).attestations + (size_of m t).bytes)
node_long m t h f =
    let x = marks_long m (none t) h in let y = branches_long 0 32 t f in
    let e = length-append (marks_bytes m (none t)) (branches_bytes t) in omega arith

record Limits (s : Size) : Type 0 where
  operations : s.operations ≤ operation_limit
  attestations : s.attestations ≤ attestation_limit
  bytes : s.bytes ≤ byte_limit

limits : (s : Size) → within s ≡ true → Limits s
limits s h =
    let p = and_parts (leb s.operations operation_limit) (leb s.attestations attestation_limit && leb s.bytes byte_limit) h in
    let q = and_parts (leb s.attestations attestation_limit) (leb s.bytes byte_limit) p.1 in
    record { operations = leb-true s.operations operation_limit p.0; attestations = leb-true s.attestations attestation_limit q.0; bytes = leb-true s.bytes byte_limit q.1 }

pub file_short : (digest : List ℕ) (x : Held) → length digest ≡ 32 → Lawful x → within (size_of x.marks x.branches) ≡ true
    → length (file_bytes digest x.marks x.branches) ≤ written_limit
file_short digest x l h w =
    let k = kept x h in
    let g = node_fit 0 32 x.marks x.branches k.branches k.fit in
    let n = node_long x.marks x.branches g.0 g.1 in
    let s = limits (size_of x.marks x.branches) w in
    let a = s.operations in let b = s.attestations in let c = s.bytes in
    let e = length-append digest (node_bytes x.marks x.branches) in
    let m = mark_long in
    let j = length-append mark (0x01 ∷ (0x08 ∷ (digest ++ node_bytes x.marks x.branches))) in
    omega arith

-- ---- read back

version : Number (0x01 ∷ []) 1
version = record { groups = final (omega arith); short = omega arith; small = omega arith }

pub file_returns : (digest : List ℕ) (x : Held) → length digest ≡ 32 → Lawful x → filled x.marks x.branches ≡ true
    → within (size_of x.marks x.branches) ≡ true
    → file_at (file_bytes digest x.marks x.branches)
    ≡ got (said (head 32 digest) (claims_of x)) (length (file_bytes digest x.marks x.branches))
file_returns digest x l h f w =
    let k = kept x h in
    let s = file_short digest x l h w in
    let fits : length (file_bytes digest x.marks x.branches) ≤ file_limit = omega arith in
    full_file (file_bytes digest x.marks x.branches) (said (head 32 digest) (claims_of x))
    (proof version l (node_spelled 0 32 x.marks x.branches f k.branches k.fit) fits)

pub reread : (digest : List ℕ) (cs : List Claim) (s : Size) → length digest ≡ 32 → Fitting cs → Sized cs s → within s ≡ true
    → (ds : List Claim) × (file_at (written digest cs) ≡ got (said (head 32 digest) ds) (length (written digest cs))) × Alike ds cs
reread digest cs s l f z w =
    let x = gathered cs in
    let h = gathered_holds cs in
    let e = one_size cs cs s (size_of x.marks x.branches) (alike_same cs) z (held_sized x cs h) in (
      claims_of x,
      file_returns digest x l (gathered_lawful cs f.fit) (filled_from x.marks x.branches cs f.some h.claims) (subst (λ s. within s ≡ true) e w),
      h.claims,
    )

pub written_law : WrittenLaw
written_law = record { returns = file_returns; short = file_short; reread = reread }
