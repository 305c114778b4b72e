use Rattle.std.proofs.Common.{Ok, refl, sym, ap, ◌∙◌, arith}
use Rattle.format.specs.Walks.{next_at}
use Rattle.format.proofs.Counting.{handed_from}
use Rattle.proof.specs.Answers.{outcome}
use Rattle.proof.specs.Places.{place_of, handed_by}
use Rattle.tiphvanh.proofs.Steps.{was_ok}
use Rattle.tiphvanh.proofs.show.items.Goals as goal

pub loop-trail-smaller : goal.loop-trail-smaller
loop-trail-smaller c =
    let f = c.loop-trail.invariant in
    let s = ap (λ o. outcome (λ s. handed_by s (place_of c.next.new.self)) (Ok o) c.next.new.self.reader.at) (sym c.in-Some.is)
    ∙ (ap (λ r. outcome (λ s. handed_by s (place_of c.next.new.self)) r c.next.new.self.reader.at) (sym (was_ok c.next.result (Ok c.in_ok-step.field-0) c.in_ok-step.field-0 refl c.in_ok-step.ensures.cases))
    ∙ (c.next.ensures.reads ∙ ap (λ z. next_at (place_of c.loop-trail.walk) z c.loop-trail.walk.reader.at) f)) in
    let m = handed_from (place_of c.loop-trail.walk) c.in_ok-walk.walk.reader.file.now c.loop-trail.walk.reader.at _ c.next.new.self.reader.at s in
    omega (arith, m.0, m.1)
