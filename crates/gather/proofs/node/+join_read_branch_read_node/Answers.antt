use Rattle.std.proofs.Common.{◌≡◌, ◌+◌, false, [], ◌++◌, map, length, sym, refl, ap, ◌∙◌, subst, arith}
use Rattle.format.specs.Outcome.{got, then}
use Rattle.format.specs.Operations.{op_of, result_size}
use Rattle.format.specs.Nodes.{more_at, node_at, under}
use Rattle.claim_trees.specs.Gathered.{gathered}
use Rattle.proof.specs.Pieces.{piece, attested}
use Rattle.claims.specs.Models.{node}
use Rattle.gather.specs.Trees.{fitting}
use Rattle.gather.specs.Readings.{branch_at, TaggedItem, Passes}
use Rattle.gather.proofs.Tags.{tagged}
use Rattle.gather.proofs.Steps.{behind_none, more_on, branch_within, branch_on, branch_fault, branch_mark, branch_below, step_fault, step_last, step_more, step_passes, behind_passes, under_passes, stops_by, built_err, read_mark, read_under, joins, some_behind}
use Rattle.gather.proofs.node.+join_read_branch_read_node.Goals as goal

pub read_branch-returns-in_err-content : goal.read_branch-returns-in_err-content
read_branch-returns-in_err-content t c = record {
  same = c.item.ensures.same;
  reads = built_err _ c.from_residual.result _ _ c.from_residual.ensures.1
      (branch_fault c.args.above.depth c.args.above.size c.args.reader.now.file.now c.args.reader.now.at _ _ c.in_err-content.ensures.reads);
}

pub read_branch-mark-requires : goal.read_branch-mark-requires
read_branch-mark-requires t c =
    subst TaggedItem c.in-Attestation.is
    (tagged _ c.args.above.depth c.args.above.size c.args.reader.now.file.now c.args.reader.now.at _ c.in_ok-content.ensures.reads)

pub read_branch-returns-in_err-below-in-Operation : goal.read_branch-returns-in_err-below-in-Operation
read_branch-returns-in_err-below-in-Operation t c =
    let e = ap (λ i. got (piece i) c.item.new.self.at) (sym c.in-Operation.is) ∙ c.in_ok-content.ensures.reads in
    let b = branch_below c.args.above.depth c.args.above.size c.args.reader.now.file.now c.args.reader.now.at c.in-Operation.kind c.in-Operation.argument.now _ _ _ e in
    let below : node_at (c.args.above.depth + 1) c.result_size-size.result c.item.new.self.file.now c.item.new.self.at
    ≡ node_at (c.args.above.depth + 1) (result_size c.in-Operation.kind c.args.above.size (length c.in-Operation.argument.now)) c.args.reader.now.file.now c.item.new.self.at
    = (λ i. node_at (c.args.above.depth + 1) (c.result_size-size.ensures i) (c.item.ensures.same i) c.item.new.self.at) in
    record {
      same = c.read_node.ensures.same ∙ c.item.ensures.same;
      reads = built_err _ c.from_residual-in_err-below-in-Operation.result _ _ c.from_residual-in_err-below-in-Operation.ensures.1
          (stops_by (node_at (c.args.above.depth + 1) c.result_size-size.result c.item.new.self.file.now c.item.new.self.at) _ _
          (λ m n h. b ∙ ap (λ z. then z (λ cs last. got (map (under (op_of c.in-Operation.kind c.in-Operation.argument.now)) cs) last)) (sym below ∙ h))
          (λ h. subst Passes (sym b) (under_passes c.in-Operation.kind c.in-Operation.argument.now _ (subst Passes below h)))
          c.in_err-below-in-Operation.ensures.reads);
    }

pub read_branch-returns-in_ok-mark-in-Attestation : goal.read_branch-returns-in_ok-mark-in-Attestation
read_branch-returns-in_ok-mark-in-Attestation t c =
    let e = ap (λ i. got (piece i) c.item.new.self.at) (sym c.in-Attestation.is) ∙ c.in_ok-content.ensures.reads in
    record {
      same = c.item.ensures.same;
      reads = read_mark _ _ (attested c.in-Attestation.content) _
          (branch_mark c.args.above.depth c.args.above.size c.args.reader.now.file.now c.args.reader.now.at (attested c.in-Attestation.content) _ _ _ _ e)
          c.in_ok-mark-in-Attestation.ensures;
    }

pub read_branch-returns-in_ok-branch-in-Operation : goal.read_branch-returns-in_ok-branch-in-Operation
read_branch-returns-in_ok-branch-in-Operation t c =
    let e = ap (λ i. got (piece i) c.item.new.self.at) (sym c.in-Operation.is) ∙ c.in_ok-content.ensures.reads in
    let b = branch_below c.args.above.depth c.args.above.size c.args.reader.now.file.now c.args.reader.now.at c.in-Operation.kind c.in-Operation.argument.now _ _ _ e in
    let below : node_at (c.args.above.depth + 1) c.result_size-size.result c.item.new.self.file.now c.item.new.self.at
    ≡ node_at (c.args.above.depth + 1) (result_size c.in-Operation.kind c.args.above.size (length c.in-Operation.argument.now)) c.args.reader.now.file.now c.item.new.self.at
    = (λ i. node_at (c.args.above.depth + 1) (c.result_size-size.ensures i) (c.item.ensures.same i) c.item.new.self.at) in
    record {
      same = c.read_node.ensures.same ∙ c.item.ensures.same;
      reads = read_under c.in-Operation.kind c.in-Operation.argument.now
          (node_at (c.args.above.depth + 1) c.result_size-size.result c.item.new.self.file.now c.item.new.self.at) _ _ (node c.in_ok-below-in-Operation.below) _
          (b ∙ ap (λ z. then z (λ cs last. got (map (under (op_of c.in-Operation.kind c.in-Operation.argument.now)) cs) last)) (sym below))
          c.in_ok-below-in-Operation.ensures.reads
          c.in_ok-branch-in-Operation.ensures;
    }

pub read_node-measured-init : goal.read_node-measured-init
unfolding gathered
read_node-measured-init t c =
    (refl, [], (c.blank-node.ensures, behind_none (node_at c.args.above.depth c.args.above.size c.args.reader.now.file.now c.args.reader.now.at)))

pub read_node-returns-in_err-node-clause-reads : goal.read_node-returns-in_err-node-clause-reads
read_node-returns-in_err-node-clause-reads t c =
    let f = c.items.invariant.0 in
    let e : got c.more-more.result c.more-more.new.self.at ≡ more_at c.args.reader.now.file.now c.items.reader.at
    = c.more-more.ensures.reads ∙ ap (λ z. more_at z c.items.reader.at) f in
    let b : branch_at c.args.above.depth c.args.above.size c.more-more.new.self.file.now c.more-more.new.self.at
    ≡ branch_at c.args.above.depth c.args.above.size c.args.reader.now.file.now c.more-more.new.self.at
    = ap (λ z. branch_at c.args.above.depth c.args.above.size z c.more-more.new.self.at) (c.more-more.ensures.same ∙ f) in
    built_err _ c.from_residual.result _ _ c.from_residual.ensures.1
    (stops_by (branch_at c.args.above.depth c.args.above.size c.more-more.new.self.file.now c.more-more.new.self.at) _ _
    (λ m n d. sym c.items.invariant.4.1 ∙ step_fault c.args.above.depth c.args.above.size c.args.reader.now.file.now c.items.reader.at c.items.invariant.3 _ _ e m n (sym b ∙ d))
    (λ d. subst Passes c.items.invariant.4.1 (step_passes c.args.above.depth c.args.above.size c.args.reader.now.file.now c.items.reader.at c.items.invariant.3 _ _ e (subst Passes b d)))
    c.in_err-node.ensures.reads)

pub read_node-returns-then-not-more-clause-reads : goal.read_node-returns-then-not-more-clause-reads
read_node-returns-then-not-more-clause-reads t c =
    let f = c.items.invariant.0 in
    let e : got c.more-more.result c.more-more.new.self.at ≡ more_at c.args.reader.now.file.now c.items.reader.at
    = c.more-more.ensures.reads ∙ ap (λ z. more_at z c.items.reader.at) f in
    let b : branch_at c.args.above.depth c.args.above.size c.more-more.new.self.file.now c.more-more.new.self.at
    ≡ branch_at c.args.above.depth c.args.above.size c.args.reader.now.file.now c.more-more.new.self.at
    = ap (λ z. branch_at c.args.above.depth c.args.above.size z c.more-more.new.self.at) (c.more-more.ensures.same ∙ f) in
    let h = c.in_ok-node.ensures.reads in
    record {
      claims = c.items.invariant.3 ++ h.1.0.claims;
      reads = sym c.items.invariant.4.1 ∙ step_last c.args.above.depth c.args.above.size c.args.reader.now.file.now c.items.reader.at c.items.invariant.3 _ _ e h.1.0.claims _ (sym b ∙ h.1.0.reads) c.if-not-more.true;
      some = some_behind c.items.invariant.3 h.1.0.claims h.1.0.some;
      tree = joins (node c.items.node) h.0 _ c.items.invariant.3 h.1.0.claims h.1.1 c.items.invariant.4.0 h.1.0.tree;
    }

pub read_node-items-preserved : goal.read_node-items-preserved
read_node-items-preserved t c =
    let f = c.items.invariant.0 in
    let e : got c.more-more.result c.more-more.new.self.at ≡ more_at c.args.reader.now.file.now c.items.reader.at
    = c.more-more.ensures.reads ∙ ap (λ z. more_at z c.items.reader.at) f in
    let b : branch_at c.args.above.depth c.args.above.size c.more-more.new.self.file.now c.more-more.new.self.at
    ≡ branch_at c.args.above.depth c.args.above.size c.args.reader.now.file.now c.more-more.new.self.at
    = ap (λ z. branch_at c.args.above.depth c.args.above.size z c.more-more.new.self.at) (c.more-more.ensures.same ∙ f) in
    let h = c.in_ok-node.ensures.reads in
    let k = step_more c.args.above.depth c.args.above.size c.args.reader.now.file.now c.items.reader.at c.items.invariant.3 _ _ e h.1.0.claims _ (sym b ∙ h.1.0.reads) c.if-not-more.false in
    let m = more_on c.args.reader.now.file.now c.items.reader.at _ _ e in
    let w = branch_within c.args.above.depth c.args.above.size c.args.reader.now.file.now c.more-more.new.self.at h.1.0.claims _ (sym b ∙ h.1.0.reads) in
    let n = branch_on c.args.above.depth c.args.above.size c.args.reader.now.file.now c.more-more.new.self.at h.1.0.claims _ (sym b ∙ h.1.0.reads) in (
      c.join.ensures.same ∙ (c.more-more.ensures.same ∙ f),
      omega (arith, m, n),
      omega (arith, m, w),
      c.items.invariant.3 ++ h.1.0.claims,
      (joins (node c.items.node) h.0 _ c.items.invariant.3 h.1.0.claims h.1.1 c.items.invariant.4.0 h.1.0.tree, sym k ∙ c.items.invariant.4.1),
    )

pub read_node-returns-then-large-clause-reads : goal.read_node-returns-then-large-clause-reads
read_node-returns-then-large-clause-reads t c =
    subst Passes c.items.invariant.4.1
    (behind_passes c.items.invariant.3 (node_at c.args.above.depth c.args.above.size c.args.reader.now.file.now c.items.reader.at)
    (subst (λ z. fitting z ≡ false) c.items.invariant.4.0 (c.large.ensures c.if-large.true)))

pub read_node-measured-smaller : goal.read_node-measured-smaller
read_node-measured-smaller t c = omega arith
