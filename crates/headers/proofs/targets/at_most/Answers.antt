use Rattle.std.proofs.Common.{◌≡◌, refl, ap, ◌∙◌, arith}
use Rattle.std.specs.Ordering.{nat_cmp, is_le}
use Rattle.std.proofs.lemmas.Iterator.Adapters.{YieldsList-from_rev_slice}
use Rattle.std.proofs.lemmas.Iterator.Search.{cmp_from_yields_List}
use Rattle.headers.proofs.Little.{cmp_little, le_of_cmp}
use Rattle.headers.specs.Targets.{little}
use Rattle.headers.proofs.targets.at_most.Goals as goal

pub returns : goal.returns
returns c =
    let a = c.args.a.now in
    let b = c.args.b.now in
    let r : c.cmp.result ≡ nat_cmp (little a) (little b) =
    cmp_from_yields_List (λ x y. y ≡ x) _ nat_cmp _ c.cmp.ensures.ran
    (YieldsList-from_rev_slice a cc) (λ it e. YieldsList-from_rev_slice b cc) (λ x y. refl)
    ∙ cmp_little a b (omega arith) c.fits-a c.fits-b in
    c.is_le.ensures ∙ ap is_le r ∙ le_of_cmp (little a) (little b)
