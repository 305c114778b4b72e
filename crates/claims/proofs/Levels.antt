-- What a mark and a branch stand for.
use Rattle.std.proofs.Common.{◌≡◌, ◌∷◌, ap, ◌∙◌}
use Rattle.claim_trees.specs.Tree.{more}
use Rattle.claims.specs.declared.tree.Mark.{Mark, is-Mark', out-Mark}
use Rattle.claims.specs.declared.tree.Branch.{Branch, is-Branch', out-Branch}
use Rattle.claims.specs.declared.tree.Node.{is-Node'}
use Rattle.claims.specs.Models.{op, att, mark_atts, atts, marks_in, branch_tree, tree_in, tree, node}

pub mark_level : (m : Mark) → mark_atts m ≡ att (out-Mark m).attestation ∷ atts (out-Mark m).rest
mark_level m = ap mark_atts (is-Mark' m)

pub branch_level : (b : Branch)
    → branch_tree b
    ≡ more (op (out-Branch b).operation) (node (out-Branch b).below).marks (node (out-Branch b).below).branches (tree (out-Branch b).rest)
branch_level b =
    let below = (out-Branch b).below in
    ap branch_tree (is-Branch' b)
    ∙ (λ i. more (op (out-Branch b).operation) (marks_in (is-Node' below i)) (tree_in (is-Node' below i)) (tree (out-Branch b).rest))
