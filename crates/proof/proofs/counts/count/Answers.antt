use Rattle.std.proofs.Common.{◌≡◌, length, Some, sym, ap, ◌∙◌, arith}
use Rattle.std.proofs.lemmas.Result.{err_from_is_err_and}
use Rattle.format.specs.Outcome.{got}
use Rattle.format.specs.Files.{start_at}
use Rattle.format.specs.Walks.{handed, next_at, step}
use Rattle.format.proofs.Counting.{file_counts, not_started, stopped, finished, goes_on, handed_from}
use Rattle.proof.specs.Counted.{counted}
use Rattle.proof.specs.Pieces.{piece}
use Rattle.proof.specs.Places.{place_of, handed_by}
use Rattle.proof.proofs.counts.count.Goals as goal

pub returns-in_err-walk : goal.returns-in_err-walk
returns-in_err-walk c =
    let s = not_started c.args.file.now _ _ c.in_err-walk.ensures.reads in
    let p = err_from_is_err_and c.from_residual.result c.from_residual.ensures.1 in
    rw (p.1, p.2) s

pub returns-in_err-step : goal.returns-in_err-step
returns-in_err-step c =
    let f = c.in_ok-walk.ensures.walks.0 in
    let b = c.in_ok-walk.ensures.reads ∙ ap start_at (sym f) in
    let e = c.in_err-step.ensures.reads ∙ ap (λ z. next_at (place_of c.loop-step.walk) z c.loop-step.walk.reader.at) c.loop-step.invariant.0 in
    let s = stopped c.in_ok-walk.walk.reader.file.now _ _ b (counted c.loop-step.counts) (place_of c.loop-step.walk) c.loop-step.walk.reader.at c.loop-step.invariant.2 _ _ e in
    let p = err_from_is_err_and c.from_residual-in_err-step.result c.from_residual-in_err-step.ensures.1 in
    rw (p.1, p.2) (s ∙ ap file_counts f)

-- what the walk handed out, as the definition has it
handed_out : (c : goal.After-note)
    → got (Some (handed (step c.in-Some.step.depth (piece c.in-Some.step.item)) (place_of c.next.new.self))) c.next.new.self.reader.at
    ≡ next_at (place_of c.loop-step.walk) c.in_ok-walk.walk.reader.file.now c.loop-step.walk.reader.at
handed_out c =
    ap (λ o. got (handed_by o (place_of c.next.new.self)) c.next.new.self.reader.at) (sym c.in-Some.is)
    ∙ (c.in_ok-step.ensures.reads
    ∙ ap (λ z. next_at (place_of c.loop-step.walk) z c.loop-step.walk.reader.at) c.loop-step.invariant.0)

pub loop-step-smaller : goal.loop-step-smaller
loop-step-smaller c =
    let m = handed_from (place_of c.loop-step.walk) c.in_ok-walk.walk.reader.file.now c.loop-step.walk.reader.at _ c.next.new.self.reader.at (handed_out c) in
    omega (arith, m.0, m.1)

pub loop-step-preserved : goal.loop-step-preserved
loop-step-preserved c =
    let m = handed_from (place_of c.loop-step.walk) c.in_ok-walk.walk.reader.file.now c.loop-step.walk.reader.at _ c.next.new.self.reader.at (handed_out c) in
    let f = c.in_ok-walk.ensures.walks.0 in
    let b = c.in_ok-walk.ensures.reads ∙ ap start_at (sym f) in (
      c.next.ensures.same ∙ c.loop-step.invariant.0,
      omega (arith, m.0, c.note.ensures.more, c.loop-step.invariant.1),
      goes_on c.in_ok-walk.walk.reader.file.now _ _ b (counted c.loop-step.counts) (place_of c.loop-step.walk) c.loop-step.walk.reader.at
          c.loop-step.invariant.2 (counted c.note.new.self) _ _ c.note.ensures.adds (handed_out c),
    )

pub returns : goal.returns
returns c =
    let f = c.in_ok-walk.ensures.walks.0 in
    let b = c.in_ok-walk.ensures.reads ∙ ap start_at (sym f) in
    let e = ap (λ o. got (handed_by o (place_of c.next.new.self)) c.next.new.self.reader.at) (sym c.in_default.is)
    ∙ (c.in_ok-step.ensures.reads ∙ ap (λ z. next_at (place_of c.loop-step.walk) z c.loop-step.walk.reader.at) c.loop-step.invariant.0) in
    let s = finished c.in_ok-walk.walk.reader.file.now _ _ b (counted c.loop-step.counts) (place_of c.loop-step.walk) c.loop-step.walk.reader.at c.loop-step.invariant.2 _ e in
    ap (λ z. got (counted c.loop-step.counts) (length z)) (sym f) ∙ (s ∙ ap file_counts f)
