use Rattle.std.proofs.Common.{◌≡◌, ℕ, ◌<◌, length, take}
use Rattle.account.specs.Commands.{word}
use Rattle.script.specs.Words.{words_of, word_at}
use Rattle.script.proofs.words.gone_over.Given as goal

abbrev pub invariant-loop-word : goal.invariant-loop-word
invariant-loop-word l =
    (l.count ≡ length l.yielded)
    × ((length l.first ≡ 9) × ((j : ℕ) → j < 9 → word l.first j ≡ word_at j (take (length l.yielded) (words_of l.text))))
