-- No count of the claims of a file passes the file's length.
use Rattle.std.proofs.Common.{◌≡◌, ℕ, ◌+◌, ◌^◌, ◌<◌, ◌≤◌, List, [], ◌∷◌, ◌++◌, map, length, sym, refl, subst, arith}
use Rattle.std.proofs.lemmas.List.{length-append}
use Rattle.format.specs.declared.Kind.{Kind}
use Rattle.format.specs.Outcome.{got}
use Rattle.format.specs.Operations.{Op, op_of}
use Rattle.format.specs.Attestations.{Att, address_limit}
use Rattle.format.specs.Nodes.{Claim, under}
use Rattle.format.specs.Files.{mark, Said, file_at}
use Rattle.format.specs.Grammar.{Block, block, Argument, sha256, append, prepend, reverse, hexlify, Content, height, address, other, Branch, Node, attestation, operation, last, another, File, proof}
use Rattle.claim_trees.specs.Tree.{Held, held, here, end, more}
use Rattle.claim_trees.specs.Order.{argument_of}
use Rattle.claim_trees.specs.Bytes.{shortest, payload_of}
use Rattle.claim_trees.specs.Size.{Size, size_of}
use Rattle.claim_trees.specs.Gathered.{line, gathered}
use Rattle.claim_trees.proofs.Shortest.{shortest_is}
use Rattle.claim_trees.proofs.Gathering.{holds_branch, gathered_holds, holds_one, gathered_append}
use Rattle.claim_trees.proofs.Fitting.{node_some, spelled_file}
use Rattle.claim_trees.proofs.Sizes.{union_most}

pub record UpTo (s : Size) (n : ℕ) : Type 0 where
  pub operations : s.operations ≤ n
  pub attestations : s.attestations ≤ n
  pub bytes : s.bytes ≤ n

abbrev size_of_held : Held → Size
size_of_held x = size_of x.marks x.branches

block_length_lem : {lo hi : ℕ} {ns bs : List ℕ} → Block lo hi ns bs → length bs ≤ length ns
block_length_lem (block {ns = ns} {bs = bs} m l h) = let e = length-append ns bs in omega arith

-- ---- attestations

short_number : (n : ℕ) → n < 2 ^ 32 → length (shortest n) ≤ 5
short_number n h = (shortest_is n h).short

address_length : {payload a : List ℕ} → Block 0 address_limit payload a → length (shortest (length a)) + length a ≤ 5 + length payload
address_length (block {ns = ns} {bs = a} m l h) =
    let e = length-append ns a in let s = short_number (length a) m.small in omega arith

content_length : {tag payload : List ℕ} {a : Att} → Content tag payload a → length (payload_of a) ≤ 5 + length payload
content_length (height {h = h} m) = let s = short_number h m.small in omega arith
content_length (address {a = a} b c) = let s = address_length b in let e = length-append (shortest (length a)) a in omega arith
content_length (other b p) = omega arith

one_mark : (a : Att) → gathered (here a ∷ []) ≡ held (a ∷ []) end
unfolding gathered line
one_mark a = refl

mark_up : (a : Att) (n : ℕ) → length (payload_of a) ≤ n → 1 ≤ n → UpTo (size_of_held (gathered (here a ∷ []))) n
mark_up a n h k = subst (λ z. UpTo (size_of_held z) n) (sym (one_mark a)) (record { operations = omega arith; attestations = omega arith; bytes = omega arith })

-- ---- operations

argument_length : {kind : Kind} {xs a : List ℕ} → Argument kind xs a → length (argument_of (op_of kind a)) ≤ length xs
argument_length sha256 = omega arith
argument_length (append b) = block_length_lem b
argument_length (prepend b) = block_length_lem b
argument_length reverse = omega arith
argument_length hexlify = omega arith

one_branch : (o : Op) (cs : List Claim) → 0 < length cs → gathered (map (under o) cs) ≡ held [] (more o (gathered cs).marks (gathered cs).branches end)
one_branch o cs l = sym (holds_one (held [] (more o (gathered cs).marks (gathered cs).branches end)) (map (under o) cs) (holds_branch o (gathered cs) cs l (gathered_holds cs)))

branch_up : (o : Op) (cs : List Claim) (k n : ℕ) → 0 < length cs → length (argument_of o) ≤ k → UpTo (size_of_held (gathered cs)) n → UpTo (size_of_held (gathered (map (under o) cs))) (1 + (k + n))
branch_up o cs k n l h u =
    let a = u.operations in let b = u.attestations in let c = u.bytes in
    subst (λ z. UpTo (size_of_held z) (1 + (k + n))) (sym (one_branch o cs l)) (record { operations = omega arith; attestations = omega arith; bytes = omega arith })

-- ---- nodes

both_up : (cs ds : List Claim) (m n k : ℕ) → UpTo (size_of_held (gathered cs)) m → UpTo (size_of_held (gathered ds)) n → m + n ≤ k → UpTo (size_of_held (gathered (cs ++ ds))) k
both_up cs ds m n k u v h =
    let x = gathered cs in let y = gathered ds in
    let p = union_most x.marks y.marks x.branches y.branches in
    let p1 = p.operations in let p2 = p.attestations in let p3 = p.bytes in
    let u1 = u.operations in let u2 = u.attestations in let u3 = u.bytes in
    let v1 = v.operations in let v2 = v.attestations in let v3 = v.bytes in
    subst (λ z. UpTo (size_of_held z) k) (gathered_append cs ds)
    (record { operations = omega arith; attestations = omega arith; bytes = omega arith })

up_weaker : (s : Size) (m n : ℕ) → m ≤ n → UpTo s m → UpTo s n
up_weaker s m n h u =
    let a = u.operations in let b = u.attestations in let c = u.bytes in
    record { operations = omega arith; attestations = omega arith; bytes = omega arith }

mutual
  branch_bound : {depth size : ℕ} {bs : List ℕ} {cs : List Claim} → Branch depth size bs cs → UpTo (size_of_held (gathered cs)) (length bs)
  branch_bound (attestation {tag = tag} {ps = ps} {payload = payload} {a = a} l b c) =
      let h = content_length c in let k = block_length_lem b in let e = length-append tag ps in
      mark_up a (length (0 ∷ (tag ++ ps))) (omega arith) (omega arith)
  branch_bound (operation {kind = kind} {xs = xs} {argument = a} {bs = bs} {cs = cs} k d m f n) =
      let e = length-append xs bs in
      up_weaker _ (1 + (length xs + length bs)) (length (0 ∷ (xs ++ bs))) (omega arith)
      (branch_up (op_of kind a) cs (length xs) (length bs) (node_some n) (argument_length m) (node_bound n))

  node_bound : {depth size : ℕ} {bs : List ℕ} {cs : List Claim} → Node depth size bs cs → UpTo (size_of_held (gathered cs)) (length bs)
  node_bound (last b) = branch_bound b
  node_bound (another {xs = xs} {bs = bs} {cs = cs} {ds = ds} b n) =
      let e = length-append xs bs in
      both_up cs ds (length xs) (length bs) (length (0xff ∷ (xs ++ bs))) (branch_bound b) (node_bound n) (omega arith)

file_bound : {file : List ℕ} {s : Said} → File file s → UpTo (size_of_held (gathered s.claims)) (length file)
file_bound (proof {vs = vs} {digest = digest} {bs = bs} {cs = cs} v l n f) =
    let a = length-append mark (vs ++ (0x08 ∷ (digest ++ bs))) in
    let b = length-append vs (0x08 ∷ (digest ++ bs)) in
    let c = length-append digest bs in
    up_weaker (size_of_held (gathered cs)) (length bs) (length (mark ++ (vs ++ (0x08 ∷ (digest ++ bs))))) (omega arith) (node_bound n)

-- the claims of a file that reads
pub size_bound : (file : List ℕ) (s : Said) (end : ℕ) → file_at file ≡ got s end
    → UpTo (size_of (gathered s.claims).marks (gathered s.claims).branches) (length file)
size_bound file s n e = file_bound (spelled_file file s n e)
