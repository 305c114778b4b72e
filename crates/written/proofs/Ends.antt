-- Where the branches are none, no branch stands in the tree.
use Rattle.std.proofs.Common.{◌≡◌, Bool, true, false, not, Some, None, Option, Box, sym, ap, ◌∙◌}
use Rattle.std.specs.Prelude.{is_some}
use Rattle.std.specs.declared.alloc.Global.{Global}
use Rattle.claim_trees.specs.Bytes.{none}
use Rattle.claims.specs.declared.tree.Branch.{Branch}
use Rattle.claims.specs.Models.{tree}
use Rattle.claims.proofs.Levels.{branch_level}

by_not : (b c : Bool) → not c ≡ not b → b ≡ c
by_not true true h = λ i. true
by_not true false h = h
by_not false true h = h
by_not false false h = λ i. false

pub branches_end : (t : Option (Box Branch Global)) (b : Bool) → is_some t ≡ not b → b ≡ none (tree t)
branches_end None b h = by_not b true h
branches_end (Some x) b h = by_not b false h ∙ sym (ap none (branch_level x.value))
