-- Capped sums give the capped size, and a cap changes no comparison with a limit.
use Rattle.std.proofs.Common.{◌≡◌, ℕ, ◌+◌, ◌-◌, ◌^◌, ◌<◌, ◌&&◌, leb, List, [], ◌∷◌, length, sym, refl, ap, ◌∙◌, arith}
use Rattle.std.proofs.lemmas.Bool.Decides.{nat_tests}
use Rattle.format.specs.Operations.{Op}
use Rattle.format.specs.Attestations.{Att}
use Rattle.claim_trees.specs.Tree.{Tree, end, more, Held, held}
use Rattle.claim_trees.specs.Order.{argument_of}
use Rattle.claim_trees.specs.Onto.{payload_length}
use Rattle.claim_trees.specs.Size.{Size as Amount, size, within, payloads, ops_in, atts_in, bytes_in}
use Rattle.claim_trees.specs.Union.{union}
use Rattle.claim_trees.proofs.Lengths.{payload_length_lem}
use Rattle.claim_trees.proofs.Sizes.{union_sized}
use Rattle.claims.specs.Sizes.{capped, cap, plus, of_op, of_att, of_marks, of_tree, of_node, size_in, size_in_both}

capped_sum : (a b c d e : ℕ) → a ≡ capped c → b ≡ capped d → c + d ≡ e → capped (a + b) ≡ capped e
capped_sum a b c d e p q r = omega arith

-- a sum of capped sizes is the capped sum of the sizes
plus_is : (s t u v w : Amount) → s ≡ cap u → t ≡ cap v
    → u.operations + v.operations ≡ w.operations → u.attestations + v.attestations ≡ w.attestations → u.bytes + v.bytes ≡ w.bytes
    → plus s t ≡ cap w
unfolding plus cap
plus_is s t u v w p q x y z i =
    size
    (capped_sum s.operations t.operations u.operations v.operations w.operations (λ j. (p j).operations) (λ j. (q j).operations) x i)
    (capped_sum s.attestations t.attestations u.attestations v.attestations w.attestations (λ j. (p j).attestations) (λ j. (q j).attestations) y i)
    (capped_sum s.bytes t.bytes u.bytes v.bytes w.bytes (λ j. (p j).bytes) (λ j. (q j).bytes) z i)

abbrev marks_amount : List Att → Amount
marks_amount m = size 0 (length m) (payloads m)

abbrev tree_amount : Tree → Amount
tree_amount t = size (ops_in t) (atts_in t) (bytes_in t)

one_att : (a : Att) → of_att a ≡ cap (size 0 1 (payload_length a))
unfolding cap
one_att a = refl

one_op : (o : Op) → of_op o ≡ cap (size 1 0 (length (argument_of o)))
unfolding cap
one_op o = refl

none_counted_lem : size 0 0 0 ≡ cap (size 0 0 0)
unfolding cap
none_counted_lem = refl

marks_counted : (m : List Att) → of_marks m ≡ cap (marks_amount m)
marks_counted [] = none_counted_lem
marks_counted (a ∷ m) =
    let p = payload_length_lem a in
    plus_is (of_att a) (of_marks m) (size 0 1 (payload_length a)) (marks_amount m) (marks_amount (a ∷ m)) (one_att a) (marks_counted m)
    refl (omega arith) (omega arith)

-- an operation with the attestations below it
abbrev item_amount : Op → List Att → Amount
item_amount o m = size 1 (length m) (length (argument_of o) + payloads m)

item_counted : (o : Op) (m : List Att) → plus (of_op o) (of_marks m) ≡ cap (item_amount o m)
item_counted o m =
    plus_is (of_op o) (of_marks m) (size 1 0 (length (argument_of o))) (marks_amount m) (item_amount o m) (one_op o) (marks_counted m)
    refl (omega arith) refl

abbrev both_amount : Tree → Tree → Amount
both_amount t u = size (ops_in t + ops_in u) (atts_in t + atts_in u) (bytes_in t + bytes_in u)

tree_counted : (t : Tree) → of_tree t ≡ cap (tree_amount t)
tree_counted end = none_counted_lem
tree_counted (more o m b r) =
    plus_is (plus (of_op o) (of_marks m)) (plus (of_tree b) (of_tree r)) (item_amount o m) (both_amount b r) (tree_amount (more o m b r))
    (item_counted o m)
    (plus_is (of_tree b) (of_tree r) (tree_amount b) (tree_amount r) (both_amount b r) (tree_counted b) (tree_counted r) refl refl refl)
    refl refl (omega arith)

pub node_counted : (x : Held) → of_node x ≡ cap (size_in x)
node_counted x =
    plus_is (of_marks x.marks) (of_tree x.branches) (marks_amount x.marks) (tree_amount x.branches) (size_in x)
    (marks_counted x.marks) (tree_counted x.branches) (omega arith) refl refl

pub union_counted : (x y : Held) → of_node (union x y) ≡ cap (size_in_both x y)
union_counted x y = node_counted (union x y) ∙ ap cap (sym (union_sized x.marks y.marks x.branches y.branches))

limit_kept : (n limit : ℕ) → limit < 2 ^ 64 - 1 → leb (capped n) limit ≡ leb n limit
limit_kept n limit h = grind (arith, nat_tests)

pub within_kept : (s : Amount) → within (cap s) ≡ within s
unfolding cap
within_kept s i =
    limit_kept s.operations 1024 (omega arith) i
    && (limit_kept s.attestations 128 (omega arith) i && limit_kept s.bytes 32768 (omega arith) i)

-- a size that was added up item by item
pub counted : (m : List Att) (t : Tree) → cap (size_in (held m t)) ≡ of_node (held m t)
counted m t = sym (node_counted (held m t))

pub counted_within : (a b c : ℕ) (m : List Att) (t : Tree) → size a b c ≡ of_node (held m t)
    → within (size a b c) ≡ within (size_in (held m t))
counted_within a b c m t e = ap within (e ∙ node_counted (held m t)) ∙ within_kept (size_in (held m t))

pub both_counted : (m n : List Att) (t u : Tree) → cap (size_in_both (held m t) (held n u)) ≡ of_node (union (held m t) (held n u))
both_counted m n t u = sym (union_counted (held m t) (held n u))

pub both_within : (a b c : ℕ) (m n : List Att) (t u : Tree) → size a b c ≡ of_node (union (held m t) (held n u))
    → within (size a b c) ≡ within (size_in_both (held m t) (held n u))
both_within a b c m n t u e = ap within (e ∙ union_counted (held m t) (held n u)) ∙ within_kept (size_in_both (held m t) (held n u))
