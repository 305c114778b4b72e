-- What more headers change: nothing that is decided.
use Rattle.std.specs.Prelude.{◌≡◌, ℕ, List, ◌++◌}
use Rattle.judge.specs.declared.verdict.Verdict.TheVariants.{Confirmed, Rejected}
use Rattle.judge.specs.Meaning.{judged}
use Rattle.judge.specs.HeaderRules.{header_meaning}

-- a text of headers that begins with a shorter one gives every verdict that the shorter one has decided
abbrev pub DecisionsLast : Type 0
DecisionsLast =
    (base : ℕ) (previous : List ℕ) (ceiling : ℕ) (bytes more tag payload message : List ℕ)
    → ((time : ℕ)
    → judged (header_meaning base previous ceiling bytes) tag payload message ≡ Confirmed time
    → judged (header_meaning base previous ceiling (bytes ++ more)) tag payload message ≡ Confirmed time)
    × (judged (header_meaning base previous ceiling bytes) tag payload message ≡ Rejected
    → judged (header_meaning base previous ceiling (bytes ++ more)) tag payload message ≡ Rejected)
