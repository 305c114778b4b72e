-- Sizes as the program counts them: no sum passes its greatest number.
use Rattle.std.specs.Prelude.{ℕ, ◌+◌, ◌-◌, ◌^◌, min, List, [], ◌∷◌, length}
use Rattle.format.specs.Operations.{Op}
use Rattle.format.specs.Attestations.{Att}
use Rattle.claim_trees.specs.Tree.{Tree, end, more, Held}
use Rattle.claim_trees.specs.Order.{argument_of}
use Rattle.claim_trees.specs.Onto.{payload_length}
use Rattle.claim_trees.specs.Size.{Size as Amount, size, size_of, size_of_both}
use Rattle.claims.specs.declared.size.Size.{Size}

abbrev pub amount : Size → Amount
amount s = size s.operations s.attestations s.bytes

-- a number, or the greatest that the program has
abbrev pub capped : ℕ → ℕ
capped n = min n (2 ^ 64 - 1)

unfoldable pub cap : Amount → Amount
cap s = size (capped s.operations) (capped s.attestations) (capped s.bytes)

abbrev pub size_in : Held → Amount
size_in x = size_of x.marks x.branches

abbrev pub size_in_both : Held → Held → Amount
size_in_both x y = size_of_both x.marks x.branches y.marks y.branches

-- ---- the same, added up item by item

unfoldable pub plus : Amount → Amount → Amount
plus s t = cap (size (s.operations + t.operations) (s.attestations + t.attestations) (s.bytes + t.bytes))

abbrev pub zero : Amount
zero = size 0 0 0

abbrev pub of_op : Op → Amount
of_op o = size 1 0 (capped (length (argument_of o)))

abbrev pub of_att : Att → Amount
of_att a = size 0 1 (capped (payload_length a))

abbrev pub of_marks : List Att → Amount
of_marks [] = zero
of_marks (a ∷ marks) = plus (of_att a) (of_marks marks)

abbrev pub of_tree : Tree → Amount
of_tree end = zero
of_tree (more o marks below rest) = plus (plus (of_op o) (of_marks marks)) (plus (of_tree below) (of_tree rest))

abbrev pub of_node : Held → Amount
of_node x = plus (of_marks x.marks) (of_tree x.branches)
