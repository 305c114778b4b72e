use Rattle.std.proofs.Common.{◌≡◌, sym, ap, ◌∙◌}
use Rattle.claim_trees.specs.Union.{union}
use Rattle.claims.specs.Models.{node}
use Rattle.runs.specs.Contents.{tree_in}
use Rattle.runs.specs.Answers.{granted}
use Rattle.runs.proofs.Keeping.{added_keeps}
use Rattle.dossier.specs.Models.{content_of, kept}
use Rattle.dossier.proofs.Adds.{add_stops, add_granted}
use Rattle.dossier.proofs.adding.add.Goals as goal

pub returns-in_err-node : goal.returns-in_err-node
returns-in_err-node c =
    add_stops (content_of c.args.held.now) c.args.file.now c.in_ok-head.head c.in_ok-head.ensures (sym c.if-not-agreeing.ensures) (kept c.args.held.now)
    c.from_residual-in_err-node.result c.in_err-node.field-0.0 c.from_residual-in_err-node.ensures.1 c.in_err-node.ensures

pub invariant_of-about : goal.invariant_of-about
invariant_of-about c =
    let old = content_of c.args.held.now in
    let g = add_granted old c.args.file.now c.in_ok-head.head c.in_ok-head.ensures (sym c.if-not-agreeing.ensures)
    c.in_ok-node.node c.in_ok-node.ensures (sym c.if-not-fitting.ensures) in
    let e : node c.joined-top.result ≡ union (tree_in old) (node c.in_ok-node.node) =
    c.joined-top.ensures ∙ ap (λ h. union (tree_in (content_of h)) (node c.in_ok-node.node)) c.take.ensures.value in
    let k = added_keeps old c.args.file.now (granted tt) _ (kept c.args.held.now) g in
    record { kept = rw e k }
