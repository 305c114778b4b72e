use Rattle.std.proofs.Common.{take}
use Rattle.std.specs.List.{slice_get}
use Rattle.claim_trees.specs.Tree.{claims}
use Rattle.claims.specs.Models.{tree, node}
use Rattle.rows.specs.Places.{shown}
use Rattle.rows.proofs.Walks.{Walking}
use Rattle.rows.proofs.walk.walk.Given as goal

abbrev pub invariant-loop-branches : goal.invariant-loop-branches
invariant-loop-branches l =
    Walking
    (shown 0 (take l.start l.initial.work) (slice_get (claims (node l.top).marks (node l.top).branches) l.row))
    l.work l.size l.k l.operations (tree l.branches)
