use Rattle.std.proofs.Common.{length, ap, ◌∙◌, sym}
use Rattle.std.proofs.lemmas.List.{length-reverse, length-take-le}
use Rattle.proof.proofs.levels.Levels.depth.Goals as goal

pub returns : goal.returns
returns c = sym (length-reverse _ ∙ length-take-le _ _ c.self.invariant) ∙ ap length c.self.view_is
