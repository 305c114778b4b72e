use Rattle.std.proofs.Common.{◌≡◌, ◌<◌, take, sym, ap, ◌∙◌, arith}
use Rattle.claim_trees.specs.Lawful.{att_fits}
use Rattle.claim_trees.specs.Tree.{Tree, more}
use Rattle.claims.specs.declared.tree.Branch.{Branch, out-Branch}
use Rattle.claims.specs.Models.{op, att, tree, node}
use Rattle.claims.proofs.Levels.{branch_level}
use Rattle.rows.specs.Places.{shown}
use Rattle.rows.proofs.Places.{nth_none, nth_every, shown_mark, past_marks}
use Rattle.rows.proofs.Walks.{fitting, walk_on, walk_down, walk_found, walk_ends, found_fits, found_small}
use Rattle.rows.proofs.walk.walk.Goals as goal

abbrev of-branch : Branch → Tree
of-branch y = more (op (out-Branch y).operation) (node (out-Branch y).below).marks (node (out-Branch y).below).branches (tree (out-Branch y).rest)

pub returns-in-Some : goal.returns-in-Some
returns-in-Some c =
    shown_mark 0 (take c.args.start c.args.work.now) (node c.args.top.now).marks (node c.args.top.now).branches c.args.row
    (att c.in-Some.attestation.now) c.in-Some.ensures

pub invariant_of-result : goal.invariant_of-result
invariant_of-result c = record {
  fits = nth_every att_fits (node c.args.top.now).marks c.args.row (att c.in-Some.attestation.now) c.requires.marks c.in-Some.ensures;
  small = c.requires.start;
}

pub overflow_sub-k : goal.overflow_sub-k
overflow_sub-k c = omega (arith, nth_none (node c.args.top.now).marks c.args.row c.in_default.ensures)

pub loop-branches-init : goal.loop-branches-init
loop-branches-init c = record {
  small = c.requires.start;
  fits = c.requires.branches;
  few = omega (arith, c.requires.few);
  finds = ap (shown 0 (take c.args.start c.args.work.now))
      (past_marks (node c.args.top.now).marks (node c.args.top.now).branches c.args.row c.count_marks.result c.in_default.ensures c.count_marks.ensures);
}

pub returns-in-None : goal.returns-in-None
returns-in-None c = walk_ends c.loop-branches.invariant (ap tree c.in-None.is)

pub loop-branches-preserved-then-k-n : goal.loop-branches-preserved-then-k-n
loop-branches-preserved-then-k-n c =
    let e : tree c.loop-branches.branches.now ≡ of-branch c.deref-branch.result.now = ap tree c.in-Some-branches.is ∙ (branch_level c.in-Some-branches.more.value ∙ ap of-branch (sym c.deref-branch.ensures)) in
    walk_on c.loop-branches.invariant e c.count_node-n.ensures c.if-k-n.true

pub step-size-requires : goal.step-size-requires
step-size-requires c =
    let i = c.loop-branches.invariant in
    let e : tree c.loop-branches.branches.now ≡ of-branch c.deref-branch.result.now = ap tree c.in-Some-branches.is ∙ (branch_level c.in-Some-branches.more.value ∙ ap of-branch (sym c.deref-branch.ensures)) in
    (i.small, (fitting i e c.count_node-n.ensures).result)

pub overflow_add-operations : goal.overflow_add-operations
overflow_add-operations c =
    let e : tree c.loop-branches.branches.now ≡ of-branch c.deref-branch.result.now = ap tree c.in-Some-branches.is ∙ (branch_level c.in-Some-branches.more.value ∙ ap of-branch (sym c.deref-branch.ensures)) in
    let s : c.loop-branches.operations < 255 = (fitting c.loop-branches.invariant e c.count_node-n.ensures).shallow in
    omega arith

pub returns-in-Some-mark_at : goal.returns-in-Some-mark_at
returns-in-Some-mark_at c =
    let i = c.loop-branches.invariant in
    let s = c.step-size.ensures in
    let n = c.count_node-n.ensures in
    let e : tree c.loop-branches.branches.now ≡ of-branch c.deref-branch.result.now = ap tree c.in-Some-branches.is ∙ (branch_level c.in-Some-branches.more.value ∙ ap of-branch (sym c.deref-branch.ensures)) in
    walk_found i e n c.step-size.new.work c.if-k-n.false s.value s.message (att c.in-Some-mark_at.attestation.now) c.in-Some-mark_at.ensures

pub invariant_of-result-in-Some-mark_at : goal.invariant_of-result-in-Some-mark_at
invariant_of-result-in-Some-mark_at c =
    let i = c.loop-branches.invariant in
    let n = c.count_node-n.ensures in
    let e : tree c.loop-branches.branches.now ≡ of-branch c.deref-branch.result.now = ap tree c.in-Some-branches.is ∙ (branch_level c.in-Some-branches.more.value ∙ ap of-branch (sym c.deref-branch.ensures)) in
    record {
      fits = found_fits i e n (att c.in-Some-mark_at.attestation.now) c.in-Some-mark_at.ensures;
      small = found_small i e n c.step-size.ensures.value;
    }

pub overflow_sub-k-else-k-n : goal.overflow_sub-k-else-k-n
overflow_sub-k-else-k-n c = omega (arith, nth_none (node (out-Branch c.deref-branch.result.now).below).marks c.loop-branches.k c.in_default-mark_at.ensures)

pub loop-branches-preserved : goal.loop-branches-preserved
loop-branches-preserved c =
    let s = c.step-size.ensures in
    let e : tree c.loop-branches.branches.now ≡ of-branch c.deref-branch.result.now = ap tree c.in-Some-branches.is ∙ (branch_level c.in-Some-branches.more.value ∙ ap of-branch (sym c.deref-branch.ensures)) in
    walk_down c.loop-branches.invariant e c.count_node-n.ensures c.step-size.new.work c.if-k-n.false s.value s.message
    c.in_default-mark_at.ensures c.count_marks-k.ensures
