-- Bytes put one behind another are those that are defined, and as many.
use Rattle.std.proofs.Common.{◌≡◌, ℕ, Bool, true, false, ◌&&◌, List, [], ◌∷◌, ◌++◌, length, sym, refl, ap, ◌∙◌, arith}
use Rattle.std.proofs.lemmas.List.{append-nil, append_assoc, length-append}
use Rattle.format.specs.Operations.{Op, sha256, append, prepend, reverse, hexlify}
use Rattle.format.specs.Attestations.{Att, pending, bitcoin, unknown, pending_tag}
use Rattle.format.specs.Files.{mark}
use Rattle.format.proofs.Sound.{mark_long}
use Rattle.claim_trees.specs.Tree.{Tree, end, more}
use Rattle.claim_trees.specs.Bytes.{shortest, block, op_bytes, payload_of, att_bytes, ff, none, nil, marks_bytes, branches_bytes, node_bytes, file_bytes}
use Rattle.claim_trees.specs.Onto.{block_length, op_length, payload_length, att_length, ff_length, marks_length, branches_length, node_length, file_length, ff_onto, block_onto, op_onto, att_onto, marks_onto, branches_onto, node_onto, file_onto, OntoLaw}

-- ---- which

ff_onto_lem : (acc : List ℕ) (b : Bool) → ff_onto acc b ≡ acc ++ ff b
ff_onto_lem acc true = sym (append-nil acc)
ff_onto_lem acc false = refl

op_onto_lem : (acc : List ℕ) (o : Op) → op_onto acc o ≡ acc ++ op_bytes o
op_onto_lem acc sha256 = refl
op_onto_lem acc (append a) = simp append_assoc
op_onto_lem acc (prepend a) = simp append_assoc
op_onto_lem acc reverse = refl
op_onto_lem acc hexlify = refl

block_length_lem : (bs : List ℕ) → length (block bs) ≡ block_length bs
block_length_lem bs = length-append (shortest (length bs)) bs

att_onto_lem : (acc : List ℕ) (a : Att) → att_onto acc a ≡ acc ++ att_bytes a
att_onto_lem acc (pending a) = ap (λ n. block_onto (((acc ++ (0 ∷ [])) ++ pending_tag) ++ shortest n) a) (sym (block_length_lem a)) ∙ simp append_assoc
att_onto_lem acc (bitcoin h) = simp append_assoc
att_onto_lem acc (unknown tag p) = simp append_assoc

marks_onto_lem : (acc : List ℕ) (marks : List Att) (alone : Bool) → marks_onto acc marks alone ≡ acc ++ marks_bytes marks alone
unfolding marks_bytes
marks_onto_lem acc [] alone = sym (append-nil acc)
marks_onto_lem acc (a ∷ marks) alone =
    marks_onto_lem (att_onto (ff_onto acc (nil marks && alone)) a) marks alone
    ∙ (ap (λ z. z ++ marks_bytes marks alone) (att_onto_lem (ff_onto acc (nil marks && alone)) a ∙ ap (λ z. z ++ att_bytes a) (ff_onto_lem acc (nil marks && alone)))
    ∙ (append_assoc (acc ++ ff (nil marks && alone)) (att_bytes a) (marks_bytes marks alone)
    ∙ append_assoc acc (ff (nil marks && alone)) (att_bytes a ++ marks_bytes marks alone)))

regroup : (acc x y m b r : List ℕ) → ((((acc ++ x) ++ y) ++ m) ++ b) ++ r ≡ acc ++ (x ++ ((y ++ (m ++ b)) ++ r))
regroup acc x y m b r = simp append_assoc

branches_onto_lem : (t : Tree) (acc : List ℕ) → branches_onto acc t ≡ acc ++ branches_bytes t
unfolding branches_bytes
branches_onto_lem end acc = sym (append-nil acc)
branches_onto_lem (more o m b r) acc =
    branches_onto_lem r _
    ∙ (ap (λ z. z ++ branches_bytes r) (branches_onto_lem b _
    ∙ ap (λ z. z ++ branches_bytes b) (marks_onto_lem _ m (none b)
    ∙ ap (λ z. z ++ marks_bytes m (none b)) (op_onto_lem _ o
    ∙ ap (λ z. z ++ op_bytes o) (ff_onto_lem acc (none r)))))
    ∙ regroup acc (ff (none r)) (op_bytes o) (marks_bytes m (none b)) (branches_bytes b) (branches_bytes r))

pub node_onto_lem : (acc : List ℕ) (m : List Att) (t : Tree) → node_onto acc m t ≡ acc ++ node_bytes m t
node_onto_lem acc m t =
    branches_onto_lem t _ ∙ (ap (λ z. z ++ branches_bytes t) (marks_onto_lem acc m (none t)) ∙ append_assoc acc (marks_bytes m (none t)) (branches_bytes t))

pub file_onto_lem : (digest : List ℕ) (m : List Att) (t : Tree) → file_onto [] digest m t ≡ file_bytes digest m t
file_onto_lem digest m t = node_onto_lem ((((mark ++ (1 ∷ [])) ++ (8 ∷ [])) ++ digest)) m t ∙ simp append_assoc

-- ---- how many

ff_length_lem : (b : Bool) → ff_length b ≡ length (ff b)
ff_length_lem true = refl
ff_length_lem false = refl

op_length_lem : (o : Op) → op_length o ≡ length (op_bytes o)
op_length_lem sha256 = refl
op_length_lem (append a) = let e = block_length_lem a in omega arith
op_length_lem (prepend a) = let e = block_length_lem a in omega arith
op_length_lem reverse = refl
op_length_lem hexlify = refl

pub payload_length_lem : (a : Att) → payload_length a ≡ length (payload_of a)
payload_length_lem (pending a) = sym (block_length_lem a)
payload_length_lem (bitcoin h) = refl
payload_length_lem (unknown tag p) = refl

att_length_lem : (a : Att) → att_length a ≡ length (att_bytes a)
att_length_lem (pending a) = let d = ap (λ n. length (shortest n)) (block_length_lem a) in let e = block_length_lem (block a) in let f = block_length_lem a in omega arith
att_length_lem (bitcoin h) = let e = block_length_lem (shortest h) in omega arith
att_length_lem (unknown tag p) = let e = block_length_lem p in let f = length-append tag (block p) in omega arith

marks_length_lem : (marks : List Att) (alone : Bool) → marks_length marks alone ≡ length (marks_bytes marks alone)
unfolding marks_bytes
marks_length_lem [] alone = refl
marks_length_lem (a ∷ marks) alone =
    let x = ff_length_lem (nil marks && alone) in let y = att_length_lem a in let z = marks_length_lem marks alone in
    let e = length-append (ff (nil marks && alone)) (att_bytes a ++ marks_bytes marks alone) in
    let d = length-append (att_bytes a) (marks_bytes marks alone) in omega arith

branches_length_lem : (t : Tree) → branches_length t ≡ length (branches_bytes t)
unfolding branches_bytes
branches_length_lem end = refl
branches_length_lem (more o m b r) =
    let x = ff_length_lem (none r) in let y = op_length_lem o in let z = marks_length_lem m (none b) in let u = branches_length_lem b in let v = branches_length_lem r in
    let e = length-append (ff (none r)) ((op_bytes o ++ (marks_bytes m (none b) ++ branches_bytes b)) ++ branches_bytes r) in
    let d = length-append (op_bytes o ++ (marks_bytes m (none b) ++ branches_bytes b)) (branches_bytes r) in
    let h = length-append (op_bytes o) (marks_bytes m (none b) ++ branches_bytes b) in
    let i = length-append (marks_bytes m (none b)) (branches_bytes b) in omega arith

pub node_length_lem : (m : List Att) (t : Tree) → node_length m t ≡ length (node_bytes m t)
node_length_lem m t = let x = marks_length_lem m (none t) in let y = branches_length_lem t in let z = length-append (marks_bytes m (none t)) (branches_bytes t) in omega arith

pub file_length_lem : (digest : List ℕ) (m : List Att) (t : Tree) → file_length digest m t ≡ length (file_bytes digest m t)
file_length_lem digest m t =
    let s = node_length_lem m t in
    let e = length-append digest (node_bytes m t) in
    let k = mark_long in
    let j = length-append mark (0x01 ∷ (0x08 ∷ (digest ++ node_bytes m t))) in
    omega arith

pub onto_law : OntoLaw
onto_law = record { node = node_onto_lem; node_size = node_length_lem; file = file_onto_lem; file_size = file_length_lem; payload_size = payload_length_lem }
