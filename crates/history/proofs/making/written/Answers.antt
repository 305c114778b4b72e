use Rattle.std.proofs.Common.{◌≡◌, ℕ, List, length, refl, ◌∙◌, subst, arith}
use Rattle.runs.specs.Answers.{granted}
use Rattle.runs.specs.Writing.{Wrote}
use Rattle.dossier.specs.Models.{content_of}
use Rattle.history.proofs.Scripting.{front_of}
use Rattle.history.proofs.making.written.Goals as goal

pub returns-in-Ok : goal.returns-in-Ok
returns-in-Ok c =
    let after = c.write.new.out in
    let long : length after ≡ c.in_ok-out.out.len = omega arith in (
      c.in-Ok.n,
      after,
      c.truncate.ensures.items ∙ front_of after _ c.in_ok-out.out.len c.in-Ok.n long,
      (
        subst (λ (o : List ℕ). Wrote (content_of c.args.dossier.now.held) o (granted c.in-Ok.n) after)
            (c.as_mut_slice.ensures.value ∙ c.in_ok-out.ensures) c.in-Ok.ensures.0,
        refl,
      ),
    )
