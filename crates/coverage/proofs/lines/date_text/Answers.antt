use Rattle.std.proofs.Common.{◌≡◌, ℕ, List, IfOk, string_bytes, ap, ◌∙◌, subst}
use lib.Utf8.{encodes}
use Rattle.dates.specs.Text.{text_of}
use Rattle.coverage.specs.Lines.{date_text}
use Rattle.coverage.proofs.lines.date_text.Goals as goal

pub returns : goal.returns
unfolding date_text
returns c =
    subst (λ (z : List ℕ). IfOk c.text.result (λ s. string_bytes s ≡ encodes z)) (c.text-date.ensures ∙ ap text_of c.utc.ensures) c.text.ensures
