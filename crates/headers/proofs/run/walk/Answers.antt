use Rattle.std.proofs.Common.{◌≡◌, length, Ok, Err, sym, refl, ap, ◌∙◌, arith}
use Rattle.headers.specs.Targets.{little}
use Rattle.headers.specs.Headers.{header_at, hash_before}
use Rattle.headers.specs.Steps.{tested, step_or}
use Rattle.headers.specs.Following.{covers, place_in, run}
use Rattle.headers.proofs.Passing.{room_of, passes_of, placed, step_whole, before_more, covers_goes, covers_stops}
use Rattle.headers.proofs.run.walk.Goals as goal

pub loop-k-init : goal.loop-k-init
unfolding hash_before covers
loop-k-init c = (omega arith, λ l. absurd (omega arith), refl, refl)

pub loop-k-preserved : goal.loop-k-preserved
loop-k-preserved c =
    let base = c.args.chain.now.base in
    let previous = c.args.chain.now.previous in
    let most = little c.args.most.now in
    let bytes = c.args.bytes.now in
    let k = c.loop-k.k in
    let hash = c.in-Ok.hash in
    let step = step_whole base most c.loop-k.before bytes _ k c.step.result c.as_chunks.ensures.front (omega (arith, c.as_chunks.ensures.front_len)) c.step.ensures in
    let e : place_in base previous most bytes k ≡ Ok hash =
    placed base previous most bytes c.loop-k.before k c.step.result (Ok hash) c.loop-k.invariant.2 step c.in-Ok.is in
    let r = room_of base most (hash_before previous bytes k) bytes k hash e in
    let p = passes_of base most (hash_before previous bytes k) bytes k hash e in
    let h = r.height in
    (omega arith, λ l. omega arith, p.hash ∙ sym (before_more previous bytes k), covers_goes base previous most bytes k hash e r.count c.loop-k.invariant.3)

pub returns-in-Err-clause-run : goal.returns-in-Err-clause-run
returns-in-Err-clause-run c =
    let base = c.args.chain.now.base in
    let previous = c.args.chain.now.previous in
    let most = little c.args.most.now in
    let bytes = c.args.bytes.now in
    let k = c.loop-k.k in
    let ending = c.in-Err.ending in
    let step = step_whole base most c.loop-k.before bytes _ k c.step.result c.as_chunks.ensures.front (omega (arith, c.as_chunks.ensures.front_len)) c.step.ensures in
    let e : place_in base previous most bytes k ≡ Err ending =
    placed base previous most bytes c.loop-k.before k c.step.result (Err ending) c.loop-k.invariant.2 step c.in-Err.is in
    covers_stops base previous most bytes k ending e c.loop-k.invariant.3

pub returns-clause-run : goal.returns-clause-run
returns-clause-run c =
    let base = c.args.chain.now.base in
    let previous = c.args.chain.now.previous in
    let most = little c.args.most.now in
    let bytes = c.args.bytes.now in
    let k = c.loop-k.k in
    let ending = c.behind-ending.result in
    let n : length c.as_chunks.result.0.now ≡ k = omega arith in
    let e : place_in base previous most bytes k ≡ Err ending =
    ap (λ o. step_or o (tested most (hash_before previous bytes k) (header_at bytes k))) (rw n at c.behind-ending.ensures) in
    ap (λ m. run m ending) n ∙ covers_stops base previous most bytes k ending e c.loop-k.invariant.3
