use Rattle.std.proofs.Common.{ap, ◌∙◌, sym}
use Rattle.claim_trees.specs.Size.{within}
use Rattle.claim_trees.specs.Tree.{Held}
use Rattle.claim_trees.specs.Union.{union}
use Rattle.claim_trees.proofs.Sizes.{union_sized}
use Rattle.claims.specs.Models.{node}
use Rattle.runs.specs.Contents.{tree_in}
use Rattle.runs.specs.Adding.{small}
use Rattle.dossier.specs.Models.{content_of}
use Rattle.dossier.proofs.adding.fitting.Goals as goal

pub returns-in-Some : goal.returns-in-Some
returns-in-Some c =
    let x = node c.in-Some.about.top in let y = node c.args.node.now in
    c.both_fit.ensures ∙ ap within (union_sized x.marks y.marks x.branches y.branches)
    ∙ sym (ap (λ (t : Held). small (union t y)) (ap (λ h. tree_in (content_of h)) c.in-Some.is))
