use Rattle.std.proofs.Common.{take_all}
use Rattle.runs.proofs.Laws.{law}
use Rattle.history.proofs.Scripting.{first_call, next_call, take_item, script_run}
use Rattle.history.proofs.making.make_all.Goals as goal

pub loop-call-init : goal.loop-call-init
loop-call-init g c = first_call _ _ c.new-entries.ensures.items c.new.ensures.begins

pub loop-call-preserved : goal.loop-call-preserved
loop-call-preserved g c =
    next_call c.args.calls.now c.loop-call.call-index _ _
    (take_item c.args.calls.now c.loop-call.call-index c.call-item.result c.loop-call-test.true c.call-item.is)
    c.in_ok-push.ensures.items c.loop-call.invariant c.in_ok-next.ensures

pub returns : goal.returns
returns g c =
    let u = rw (take_all c.loop-call.call-index c.args.calls.now c.loop-call-test.false) at c.loop-call.invariant in
    record { events = u.0; script = u.1; run = script_run u.1; law = law }
