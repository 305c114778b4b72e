use Rattle.std.proofs.Common.{rules, ℕ, refl}
use Rattle.std.proofs.lemmas.Iterator.{YieldsList-from_range}
use Rattle.std.proofs.lemmas.Iterator.Consumers.{fold_from_yields_List}
use Rattle.sha256.specs.Working.{moved, window}
use Rattle.sha256.proofs.schedule.next_window.Goals as goal

pub returns : goal.returns
unfolding window
returns c =
    fold_from_yields_List _ (λ w (i : ℕ). moved w) c.args.w c.fold.result c.fold.ensures.ran (YieldsList-from_range 0 16 16 refl refl) (λ a x b q k. search rules)
