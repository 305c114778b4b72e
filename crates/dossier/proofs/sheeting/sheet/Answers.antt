use Rattle.std.proofs.Common.{ℕ, List, ◌++◌, ap, arith, ◌∙◌}
use Rattle.std.proofs.lemmas.Bool.{cond_above}
use Rattle.runs.specs.Answers.{fitted, placed}
use Rattle.runs.specs.Sheets.{sheet_in}
use Rattle.dossier.proofs.Outs.{leaves}
use Rattle.dossier.specs.Models.{content_of}
use Rattle.dossier.specs.Refusals.{answered}
use Rattle.dossier.proofs.sheeting.sheet.Goals as goal

pub returns : goal.returns
returns g c =
    let xs = c.args.work.now in
    let bytes = sheet_in (g.J.Judge.meaning c.args.judge.now) (content_of c.args.held.now) in
    record {
      answer = cond_above _ _ _ (fitted bytes c.args.out.now) (answered c.sheet_in.result) c.if-work-lt-ROOM.false c.sheet_in.ensures.answer;
      out = cond_above _ _ _ (placed bytes c.args.out.now) c.sheet_in.new.out c.if-work-lt-ROOM.false c.sheet_in.ensures.out;
      work = ap (λ (x : List ℕ). x ++ c.split_at_mut-front.result.1.now) c.drop-lent.ensures
          ∙ leaves xs c.sheet_in.new.front c.split_at_mut-front.result.1.now c.if-work-lt-ROOM.false (omega arith) c.split_at_mut-front.ensures.back;
    }
