use Rattle.std.proofs.Common.{◌≡◌, length, refl, ◌∙◌, arith}
use Rattle.dossier.specs.Models.{content_of}
use Rattle.history.proofs.Scripting.{front_of, sheet_lent, sheet_granted, sheet_refused}
use Rattle.history.proofs.making.listed.Goals as goal

pub returns-in-Ok : goal.returns-in-Ok
returns-in-Ok g c =
    let after = c.sheet.new.out in
    let long : length after ≡ c.in_ok-out.out.len = omega arith in (
      c.in-Ok.n,
      after,
      c.truncate.ensures.items ∙ front_of after _ c.in_ok-out.out.len c.in-Ok.n long,
      (
        sheet_granted _ _ _ _ _ _ _
            (sheet_lent (content_of c.args.dossier.now.held) _ _ _ _ _ _ _ _
            (c.as_mut_slice.ensures.value ∙ c.in_ok-out.ensures) (c.as_mut_slice-2.ensures.value ∙ c.in_ok-area.ensures)
            c.in-Ok.ensures.0),
        refl,
      ),
    )

pub returns-in-Err : goal.returns-in-Err
returns-in-Err g c = (
  sheet_refused _ _ _ _ _ _ _
      (sheet_lent (content_of c.args.dossier.now.held) _ _ _ _ _ _ _ _
      (c.as_mut_slice.ensures.value ∙ c.in_ok-out.ensures) (c.as_mut_slice-2.ensures.value ∙ c.in_ok-area.ensures)
      c.in-Err.ensures.0),
  refl,
)
