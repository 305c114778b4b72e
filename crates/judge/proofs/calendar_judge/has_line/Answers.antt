use Rattle.std.proofs.Common.{rules, tests, eqb}
use Rattle.std.proofs.lemmas.Iterator.Splits.{YieldsList-from_slice_split}
use Rattle.std.proofs.lemmas.Iterator.Search.{any_from_yields_List}
use Rattle.format.specs.Attestations.{same}
use Rattle.judge.specs.Listing.{lines, some_line}
use Rattle.judge.proofs.calendar_judge.has_line.Goals as goal

pub returns : goal.returns
unfolding lines some_line
returns c =
    any_from_yields_List (λ line. same line c.args.address.now) _ _ _ c.any.ensures.ran
    (YieldsList-from_slice_split _ (λ b. eqb b 0x0a) c.args.text.now c.split.ensures.rest c.split.ensures.done c.split.ensures.closure
    (λ x r q k. search (rules, tests)))
    (λ x b q k. search (rules, tests))
