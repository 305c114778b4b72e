use Rattle.std.proofs.Common.{◌≡◌, ◌+◌, ◌≤◌, length, take, drop, sym, ap, ◌∙◌, arith}
use Rattle.std.proofs.lemmas.List.{length-take-le}
use Rattle.replay.specs.Messages.{fits, replay}
use Rattle.replay.specs.Paths.{ops}
use Rattle.replay.proofs.Steps.{grown, link_at, fits_more, grown_more, replay_more, replay_end}
use Rattle.replay.proofs.paths.walked.Goals as goal

pub operate-size-requires : goal.operate-size-requires
operate-size-requires c =
    let path = c.args.path.now in
    let n = c.loop-link.size in
    let m = take n c.loop-link.work in
    let long : length m ≡ n = length-take-le n c.loop-link.work (omega arith) in
    (omega arith, grown_more path c.loop-link.link-index m n c.loop-link-test.true long c.loop-link.invariant.2)

pub loop-link-preserved : goal.loop-link-preserved
loop-link-preserved c =
    let path = c.args.path.now in
    let i = c.loop-link.link-index in
    let n = c.loop-link.size in
    let m = take n c.loop-link.work in
    let rest = drop (i + 1) path in
    let long : length m ≡ n = length-take-le n c.loop-link.work (omega arith) in
    let within : grown (link_at path i) n ≤ 4096 = grown_more path i m n c.loop-link-test.true long c.loop-link.invariant.2 in
    let value = c.operate-size.ensures.value in (
      omega arith,
      omega arith,
      ap (fits (ops rest)) c.operate-size.ensures.message ∙ fits_more path i m c.loop-link-test.true c.loop-link.invariant.2,
      ap (replay (ops rest)) c.operate-size.ensures.message
          ∙ sym (replay_more path i m c.loop-link-test.true)
          ∙ c.loop-link.invariant.3,
    )

pub returns : goal.returns
returns c =
    let m = take c.loop-link.size c.loop-link.work in
    record {
      bound = c.loop-link.invariant.1;
      message = sym (replay_end c.args.path.now c.loop-link.link-index m c.loop-link-test.false) ∙ c.loop-link.invariant.3;
    }
