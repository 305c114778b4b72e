use Rattle.std.proofs.Common.{Err, sym, ap, ◌∙◌, arith}
use Rattle.std.proofs.lemmas.List.{take_rest}
use Rattle.std.proofs.lemmas.Result.{err_from_is_err_and}
use Rattle.std.specs.List.{slice_get}
use Rattle.report.specs.declared.options.Wrong.{Wrong}
use Rattle.report.specs.Options.{stepped}
use Rattle.report.specs.Requests.{behind}
use Rattle.report.proofs.Walks.{front, shorter, onward, stopped, all_asked}
use Rattle.report.proofs.requests.asked.Goals as goal

pub returns-in_err-request : goal.returns-in_err-request
returns-in_err-request c =
    let left = c.loop-left.left.now in
    let v = c.copied.ensures ∙ c.first.ensures.value ∙ ap (λ ws. slice_get ws 0) (take_rest left 1) in
    let p = err_from_is_err_and c.from_residual.result c.from_residual.ensures.1 in
    p.1 ∙ ap (λ (w : Wrong). Err w) p.2
    ∙ sym (c.loop-left.invariant ∙ stopped c.loop-left.request c.in_err-request.field-0.0 left c.in-len1-up.len_at_least (ap (stepped c.loop-left.request (front left)) (sym v) ∙ sym c.in_err-request.ensures))

pub loop-left-smaller : goal.loop-left-smaller
loop-left-smaller c =
    let left = c.loop-left.left.now in
    shorter left c.behind-left.result.now c.in-len1-up.len_at_least (c.behind-left.ensures ∙ ap (behind (front left).now) (take_rest left 1))

pub loop-left-preserved : goal.loop-left-preserved
loop-left-preserved c =
    let left = c.loop-left.left.now in
    let v = c.copied.ensures ∙ c.first.ensures.value ∙ ap (λ ws. slice_get ws 0) (take_rest left 1) in
    c.loop-left.invariant
    ∙ onward c.loop-left.request c.in_ok-request.request left c.behind-left.result.now c.in-len1-up.len_at_least
    (ap (stepped c.loop-left.request (front left)) (sym v) ∙ sym c.in_ok-request.ensures)
    (c.behind-left.ensures ∙ ap (behind (front left).now) (take_rest left 1))

pub returns : goal.returns
returns c = sym (c.loop-left.invariant ∙ all_asked c.loop-left.request c.loop-left.left.now (omega (arith, c.in_default.len_below)))
