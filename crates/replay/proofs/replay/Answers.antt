use Rattle.std.proofs.Common.{◌≡◌, false, cond, ◌&&◌, nat_le, ◌++◌, length, drop, Some, None, refl, ap, sym, ◌∙◌}
use Rattle.std.proofs.lemmas.Bool.{le-leb}
use Rattle.replay.specs.Areas.{holding}
use Rattle.std.proofs.lemmas.List.{take-append-drop}
use Rattle.replay.specs.Messages.{fits, replay}
use Rattle.replay.specs.Paths.{ops, replayed}
use Rattle.replay.proofs.replay.Goals as goal

pub placed-requires : goal.placed-requires
placed-requires c = sym (c.fitting.ensures c.args.digest.now refl) ∙ c.if-not-fitting.false

pub returns-then-not-fitting-clause-work : goal.returns-then-not-fitting-clause-work
returns-then-not-fitting-clause-work c =
    let is : fits (ops c.args.path.now) c.args.digest.now ≡ false = sym (c.fitting.ensures c.args.digest.now refl) ∙ c.if-not-fitting.true in
    let area = c.args.area.now in
    let made = replay (ops c.args.path.now) c.args.digest.now in
    let whole : c.in_ok-work.work.now ++ drop 4096 area ≡ area =
    ap (λ t. t ++ drop 4096 area) c.in_ok-work.ensures.cases.same ∙ take-append-drop 4096 area in
    let test : nat_le 4096 (length area) && fits (ops c.args.path.now) c.args.digest.now ≡ false =
    ap (λ b. b && fits (ops c.args.path.now) c.args.digest.now) (le-leb 4096 (length area) c.in_ok-work.ensures.cases.enough) ∙ is in
    ap (replayed None) whole
    ∙ sym (ap (λ b. cond b (replayed (Some (length made)) (holding made area)) (replayed None area)) test)
