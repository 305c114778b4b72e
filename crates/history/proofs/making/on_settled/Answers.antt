use Rattle.std.proofs.Common.{◌∙◌}
use Rattle.dossier.specs.Models.{content_of}
use Rattle.history.specs.Scripts.{taken, not_taken, a_reopen}
use Rattle.history.proofs.Scripting.{untaken_settled, one_write, one_row, one_tally, one_sheet}
use Rattle.history.proofs.making.on_settled.Goals as goal

pub returns-in-Reopen : goal.returns-in-Reopen
returns-in-Reopen g c = rw c.in-Reopen.is (taken _ a_reopen c.reopen.ensures)

pub returns-in_ok-file-in-Write : goal.returns-in_ok-file-in-Write
returns-in_ok-file-in-Write g c = rw c.in-Write.is (one_write _ _ _ c.in_ok-file-in-Write.ensures)

pub returns-in_ok-area-in-Row : goal.returns-in_ok-area-in-Row
returns-in_ok-area-in-Row g c =
    rw c.in-Row.is
    (one_row (content_of c.args.dossier.held) _ _ _ _ _ _ (c.as_mut_slice.ensures.value ∙ c.in_ok-area-in-Row.ensures) c.row-row.ensures.0)

pub returns-in_ok-area-in-Tally : goal.returns-in_ok-area-in-Tally
returns-in_ok-area-in-Tally g c =
    rw c.in-Tally.is
    (one_tally (content_of c.args.dossier.held) _ _ _ _ _ (c.as_mut_slice-in-Tally.ensures.value ∙ c.in_ok-area-in-Tally.ensures) c.tally-tally.ensures.0)

pub returns-in_ok-sheet-in-Sheet : goal.returns-in_ok-sheet-in-Sheet
returns-in_ok-sheet-in-Sheet g c = rw c.in-Sheet.is (one_sheet _ _ _ _ _ c.in_ok-sheet-in-Sheet.ensures)

pub returns-in_default : goal.returns-in_default
returns-in_default g c =
    not_taken (untaken_settled g.J.Judge.meaning (content_of c.args.dossier.held) c.args.call.now c.in_default.not-Reopen c.in_default.not-Write c.in_default.not-Row c.in_default.not-Tally c.in_default.not-Sheet)
