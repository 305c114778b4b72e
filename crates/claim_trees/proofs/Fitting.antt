-- Every claim of a proof file is one that fits, and so is every claim of a lawful tree, node by node.
use Rattle.std.proofs.Common.{◌≡◌, ℕ, ◌+◌, ◌^◌, ◌<◌, ◌≤◌, Bool, true, false, not, List, [], ◌∷◌, ◌++◌, map, length, sym, refl, ap, ◌∙◌, subst, inl, inr, arith}
use Rattle.std.proofs.lemmas.Bool.{and_parts, and_from, lt-ltb, le-leb, eq-eqb}
use Rattle.std.proofs.lemmas.List.{length-append, length-map}
use Rattle.std.proofs.lemmas.List.Folds.{list_all-append}
use Rattle.format.specs.declared.Kind.{Kind}
use Rattle.format.specs.Outcome.{Outcome, got}
use Rattle.format.specs.Operations.{Op, op_of, result_size, message_limit, path_limit}
use Rattle.format.specs.Attestations.{Att, pending_tag, bitcoin_tag, payload_limit, address_limit}
use Rattle.format.specs.Nodes.{Claim, under}
use Rattle.format.specs.Files.{Said, file_at}
use Rattle.format.specs.Grammar.{Block, block, Argument, sha256, append, prepend, reverse, hexlify, Content, height, address, other, Branch, Node, attestation, operation, last, another, File, proof}
use Rattle.format.proofs.Sound.{Reads, sound_file, each_address}
use Rattle.format.proofs.Complete.{not_same}
use Rattle.claim_trees.specs.Tree.{In}
use Rattle.claim_trees.specs.Laws.{Fitting}
use Rattle.claim_trees.specs.Lawful.{result_of, argument_fits, op_fits, att_fits, path_fits, fits_at, every}

-- ---- a test of every member

pub every_in : {A : Type 0} (f : A → Bool) (xs : List A) → every f xs ≡ true → (x : A) → In x xs → f x ≡ true
every_in f [] h x i = absurd i
every_in f (y ∷ ys) h x (inl e) = ap f e ∙ (and_parts (f y) (every f ys) h).0
every_in f (y ∷ ys) h x (inr i) = every_in f ys (and_parts (f y) (every f ys) h).1 x i

pub every_all : {A : Type 0} (f : A → Bool) (xs : List A) → ((x : A) → In x xs → f x ≡ true) → every f xs ≡ true
every_all f [] h = refl
every_all f (x ∷ xs) h = and_from _ _ (h x (inl refl)) (every_all f xs (λ y i. h y (inr i)))

pub every_append : {A : Type 0} (f : A → Bool) (xs ys : List A) → every f xs ≡ true → every f ys ≡ true → every f (xs ++ ys) ≡ true
every_append f xs ys h k = list_all-append f xs ys ∙ and_from _ _ h k

-- ---- what the grammar spells

not_from : (b : Bool) → b ≡ false → not b ≡ true
not_from b e = ap not e

block_most : {lo hi : ℕ} {ns bs : List ℕ} → Block lo hi ns bs → (lo ≤ length bs) × (length bs ≤ hi)
block_most (block m l h) = (l, h)

content_fits : {tag payload : List ℕ} {a : Att} → length tag ≡ 8 → length payload ≤ payload_limit → Content tag payload a → att_fits a ≡ true
content_fits l h (height {h = n} m) = lt-ltb n (2 ^ 32) m.small
content_fits l h (address {a = a} b c) = and_from _ _ (le-leb (length a) address_limit (block_most b).1) (each_address a c)
content_fits l h (other {tag = tag} {payload = p} b q) =
    and_from _ _ (eq-eqb (length tag) 8 l) (and_from _ _ (le-leb (length p) payload_limit h)
    (and_from _ _ (not_from _ (not_same tag bitcoin_tag b)) (not_from _ (not_same tag pending_tag q))))

-- an operation that was spelled
record Spelled (kind : Kind) (argument : List ℕ) : Type 0 where
  fits : argument_fits (op_of kind argument) ≡ true
  result : (size : ℕ) → result_of (op_of kind argument) size ≡ result_size kind size (length argument)

spelled : {kind : Kind} {xs argument : List ℕ} → Argument kind xs argument → Spelled kind argument
spelled sha256 = record { fits = refl; result = λ size. refl }
spelled (append {argument = a} b) = let h = block_most b in
    record { fits = and_from _ _ (le-leb 1 (length a) h.0) (le-leb (length a) message_limit h.1); result = λ size. refl }
spelled (prepend {argument = a} b) = let h = block_most b in
    record { fits = and_from _ _ (le-leb 1 (length a) h.0) (le-leb (length a) message_limit h.1); result = λ size. refl }
spelled reverse = record { fits = refl; result = λ size. refl }
spelled hexlify = record { fits = refl; result = λ size. refl }

-- claims under an operation
pub every_under : (depth size : ℕ) (o : Op) (cs : List Claim) → op_fits depth size o ≡ true → every (fits_at (depth + 1) (result_of o size)) cs ≡ true
    → every (fits_at depth size) (map (under o) cs) ≡ true
every_under depth size o [] h k = refl
every_under depth size o (c ∷ cs) h k =
    let p = and_parts (fits_at (depth + 1) (result_of o size) c) (every (fits_at (depth + 1) (result_of o size)) cs) k in
    let q = and_parts (path_fits (depth + 1) (result_of o size) c.path) (att_fits c.attestation) p.0 in
    and_from _ _ (and_from _ _ (and_from _ _ h q.0) q.1) (every_under depth size o cs h p.1)

mutual
  branch_fits : {depth size : ℕ} {bs : List ℕ} {cs : List Claim} → Branch depth size bs cs → every (fits_at depth size) cs ≡ true
  branch_fits (attestation l b c) = and_from _ _ (content_fits l (block_most b).1 c) refl
  branch_fits (operation {depth = depth} {size = size} {kind = kind} {argument = a} {cs = cs} k d m f n) =
      let s = spelled m in
      let e = s.result size in
      every_under depth size (op_of kind a) cs
      (and_from _ _ (lt-ltb depth path_limit d) (and_from _ _ s.fits (le-leb (result_of (op_of kind a) size) message_limit (subst (λ z. z ≤ message_limit) (sym e) f))))
      (subst (λ z. every (fits_at (depth + 1) z) cs ≡ true) (sym e) (node_fits n))

  node_fits : {depth size : ℕ} {bs : List ℕ} {cs : List Claim} → Node depth size bs cs → every (fits_at depth size) cs ≡ true
  node_fits (last b) = branch_fits b
  node_fits (another {depth = depth} {size = size} {cs = cs} {ds = ds} b n) = every_append (fits_at depth size) cs ds (branch_fits b) (node_fits n)

-- a node says something
mutual
  branch_some : {depth size : ℕ} {bs : List ℕ} {cs : List Claim} → Branch depth size bs cs → 0 < length cs
  branch_some (attestation l b c) = omega arith
  branch_some (operation {kind = kind} {argument = a} {cs = cs} k d m f n) =
      let h = node_some n in let e = length-map cs (under (op_of kind a)) in omega arith

  pub node_some : {depth size : ℕ} {bs : List ℕ} {cs : List Claim} → Node depth size bs cs → 0 < length cs
  node_some (last b) = branch_some b
  node_some (another {cs = cs} {ds = ds} b n) = let h = branch_some b in let e = length-append cs ds in omega arith

-- what a file says
pub record Proper (s : Said) : Type 0 where
  pub fitting : Fitting s.claims
  pub digest : length s.head.digest ≡ 32

file_proper : {file : List ℕ} {s : Said} → File file s → Proper s
file_proper (proof v l n f) = record { fitting = record { some = node_some n; fit = node_fits n }; digest = l }

pub spelled_file : (file : List ℕ) (s : Said) (end : ℕ) → file_at file ≡ got s end → File file s
spelled_file file s end e =
    let P : Outcome Said → Type 0 = λ o. Reads (λ s n. (n ≡ length file) × File file s) o in
    let r : (end ≡ length file) × File file s = subst P e (sound_file file) in
    r.1

pub proper : (file : List ℕ) (s : Said) (end : ℕ) → file_at file ≡ got s end → Proper s
proper file s end e = file_proper (spelled_file file s end e)
