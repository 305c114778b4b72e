-- What the program's tree stands for.
use Rattle.std.specs.Prelude.{List, [], ◌∷◌, Option, Box, vec_items}
use Rattle.std.specs.declared.alloc.Global.{Global}
use Rattle.format.specs.Operations.{Op, sha256, append, prepend, reverse, hexlify}
use Rattle.format.specs.Attestations.{Att, pending, bitcoin, unknown}
use Rattle.claim_trees.specs.Tree.{Tree, end, more, Held, held}
use Rattle.claims.specs.declared.tree.Operation.{Operation}
use Rattle.claims.specs.declared.tree.Operation.TheVariants.{Sha256, Append, Prepend, Reverse, Hexlify}
use Rattle.claims.specs.declared.tree.Attestation.{Attestation}
use Rattle.claims.specs.declared.tree.Attestation.TheVariants.{Pending, Bitcoin, Unknown}
use Rattle.claims.specs.declared.tree.Mark.{Mark, Mark', Held-Mark-rest, back-Mark-rest}
use Rattle.claims.specs.declared.tree.Mark.{None' as no_mark, Some' as next_mark}
use Rattle.claims.specs.declared.tree.Branch.{Branch, Branch', Held-Branch-rest, back-Branch-rest}
use Rattle.claims.specs.declared.tree.Branch.{None' as no_branch, Some' as next_branch}
use Rattle.claims.specs.declared.tree.Node.{Node, Node', out-Node}

abbrev pub op : Operation → Op
op Sha256 = sha256
op (Append argument) = append (vec_items argument)
op (Prepend argument) = prepend (vec_items argument)
op Reverse = reverse
op Hexlify = hexlify

abbrev pub att : Attestation → Att
att (Pending address) = pending (vec_items address)
att (Bitcoin height) = bitcoin height
att (Unknown tag payload) = unknown tag (vec_items payload)

abbrev mutual
  pub mark_atts : Mark → List Att
  mark_atts (Mark' a rest) = att a ∷ rest_atts rest

  pub rest_atts : Held-Mark-rest → List Att
  rest_atts no_mark = []
  rest_atts (next_mark p mark) = mark_atts mark

abbrev pub atts : Option (Box Mark Global) → List Att
atts marks = rest_atts (back-Mark-rest marks)

abbrev mutual
  pub branch_tree : Branch → Tree
  branch_tree (Branch' o below rest) = more (op o) (marks_in below) (tree_in below) (rest_tree rest)

  pub rest_tree : Held-Branch-rest → Tree
  rest_tree no_branch = end
  rest_tree (next_branch p branch) = branch_tree branch

  pub tree_in : Node → Tree
  tree_in (Node' marks branches) = rest_tree branches

  pub marks_in : Node → List Att
  marks_in (Node' marks branches) = atts marks

abbrev pub tree : Option (Box Branch Global) → Tree
tree branches = rest_tree (back-Branch-rest branches)

abbrev pub node : Node → Held
node n = held (atts (out-Node n).marks) (tree (out-Node n).branches)
