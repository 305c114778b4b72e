use Rattle.std.proofs.Common.{refl}
use Rattle.runs.specs.Sheets.{sheet_in}
use Rattle.dossier.specs.Models.{content_of}
use Rattle.dossier.proofs.Outs.{too_short, short_kept, long_enough, put_front}
use Rattle.dossier.proofs.sheeting.sheet_in.Goals as goal

pub returns-then-out-due : goal.returns-then-out-due
returns-then-out-due g c =
    let bytes = sheet_in (g.J.Judge.meaning c.args.judge.now) (content_of c.args.held.now) in
    record {
      answer = too_short bytes c.args.out.now c.due-due.result c.due-due.ensures c.if-out-due.true;
      out = short_kept bytes c.args.out.now c.due-due.result c.due-due.ensures c.if-out-due.true;
    }

pub returns : goal.returns
returns g c =
    let bytes = sheet_in (g.J.Judge.meaning c.args.judge.now) (content_of c.args.held.now) in
    record {
      answer = long_enough bytes c.args.out.now c.due-due.result c.due-due.ensures c.if-out-due.false;
      out = put_front bytes c.args.out.now c.due-due.result c.due-due.ensures c.put.new.out _ refl c.if-out-due.false c.put.ensures;
    }
