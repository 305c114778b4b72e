use Rattle.std.proofs.Common.{◌≡◌, true, sym, subst, arith}
use Rattle.claim_trees.specs.Lawful.{branches_fit}
use Rattle.claim_trees.specs.Tree.{claims}
use Rattle.claims.specs.Models.{node}
use Rattle.rows.proofs.Places.{row_found}
use Rattle.rows.proofs.Walks.{walkable}
use Rattle.rows.proofs.walk.place_of.Goals as goal

pub apply-size-requires : goal.apply-size-requires
apply-size-requires c =
    let w = walkable c.args.about.digest.now (node c.args.about.top.now) c.args.about.kept in
    (omega arith, (omega arith, omega (arith, w.digests)))

pub walk-requires : goal.walk-requires
walk-requires c =
    let t = c.args.about.top.now in
    let w = walkable c.args.about.digest.now (node t) c.args.about.kept in
    let l : c.apply-size.result ≡ 32 = omega (arith, w.digests, c.apply-size.ensures.value) in
    record {
      start = omega arith;
      marks = w.marks;
      branches = subst (λ n. branches_fit 0 n (node t).branches ≡ true) (sym l) w.branches;
      few = w.few;
    }

pub returns : goal.returns
returns c =
    let t = c.args.about.top.now in
    λ m. row_found m c.args.about.digest.now _ (claims (node t).marks (node t).branches) c.args.k _ c.walk.ensures c.apply-size.ensures.message
