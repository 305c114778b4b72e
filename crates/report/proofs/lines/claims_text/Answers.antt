use Rattle.std.proofs.Common.{◌≡◌, ℕ, List, ◌++◌, IfOk, string_bytes, codes, decimal, subst}
use Rattle.report.specs.Lines.{claims_text}
use Rattle.report.proofs.lines.claims_text.Goals as goal

pub returns : goal.returns
unfolding claims_text
returns c =
    subst (λ (z : List ℕ). IfOk c.format.result (λ s. string_bytes s ≡ decimal c.args.n ++ (codes " " ++ z))) c.claim_word-word.ensures c.format.ensures.ok
