use Rattle.std.proofs.Common.{◌≡◌, ◌≤◌, length, take, drop, ap, ◌∙◌, arith}
use Rattle.std.proofs.lemmas.List.{take-take, take-append-le, length-append, length-drop}
use Rattle.std.proofs.lemmas.Slice.{drop-append-drop}
use Rattle.format.specs.Operations.{op_of}
use Rattle.replay.specs.Messages.{apply}
use Rattle.replay.proofs.apply.Goals as goal

pub returns-clause-message : goal.returns-clause-message
returns-clause-message c =
    let area = c.args.area.now in
    let work = c.operate.new.work in
    let long : length work ≡ 4096 = omega (arith, length-append work (drop 4096 area), length-drop 4096 area) in
    let within : c.operate.result ≤ length work = omega arith in
    let front : take c.args.size c.in-Some.work.now ≡ take c.args.size area =
    ap (take c.args.size) c.in-Some.ensures.cases.same ∙ take-take c.args.size 4096 area (omega arith) in
    take-append-le c.operate.result work (drop 4096 area) within
    ∙ c.operate.ensures.message ∙ ap (apply (op_of c.args.kind c.args.argument.now)) front

pub returns-clause-kept : goal.returns-clause-kept
returns-clause-kept c =
    let long : length c.operate.new.work ≡ 4096 = omega (arith, length-append c.operate.new.work (drop 4096 c.args.area.now), length-drop 4096 c.args.area.now) in
    drop-append-drop 4096 c.args.area.now c.operate.new.work 4096 (omega arith) long
