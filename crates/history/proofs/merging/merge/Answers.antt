use Rattle.std.proofs.Common.{refl}
use Rattle.runs.specs.Runs.{then}
use Rattle.runs.specs.Contents.{settled}
use Rattle.dossier.specs.Models.{content_of}
use Rattle.history.specs.Merging.{files_of}
use Rattle.history.proofs.Scripting.{out_kept}
use Rattle.history.proofs.Merges.{merges}
use Rattle.history.proofs.merging.merge.Goals as goal

pub returns-in-Err : goal.returns-in-Err
returns-in-Err g c = (
  record {
    content = content_of c.settle-dossier.result.held;
    run = then c.in_ok-open.ensures c.settle-dossier.ensures;
    refused = c.in-Err.ensures.0;
  },
  refl,
  c.in-Err.ensures.0.work,
)

pub returns-in-Ok-write : goal.returns-in-Ok-write
returns-in-Ok-write g c =
    let s = content_of c.settle-dossier.result.held in
    let u = c.in-Ok.ensures.0 in (
      merges (files_of c.args.pieces.now) (g.J.Judge.meaning c.args.judge.now) c.args.out.now c.args.work.now s c.in-Ok-write.length c.in-Ok.tally
          c.write.new.out
          (then {s = settled s} (then c.in_ok-open.ensures c.settle-dossier.ensures) (record { answer = u.answer; work = refl }, refl))
          c.in-Ok-write.ensures,
      u.work,
    )

pub returns-in-Err-write : goal.returns-in-Err-write
returns-in-Err-write g c =
    let s = content_of c.settle-dossier.result.held in
    let w = c.in-Err-write.ensures.0 in (
      record {
        content = s;
        run = then c.in_ok-open.ensures c.settle-dossier.ensures;
        refused = w;
      },
      out_kept s c.args.out.now c.write.new.out c.in-Err-write.refusal w,
      c.in-Ok.ensures.0.work,
    )
