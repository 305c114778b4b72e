-- Options and their values, word after word.
use Rattle.std.proofs.Common.{◌≡◌, ℕ, ◌-◌, ◌<◌, ◌≤◌, List, [], ◌∷◌, length, get_or, take, drop, Ok, Err, refl, sym, ap, ◌∙◌, arith}
use Rattle.std.specs.Borrow.{Bor}
use Rattle.std.proofs.lemmas.List.{take_all}
use Rattle.headers.specs.declared.chain.Chain.{Chain}
use Rattle.coverage.specs.declared.options.Wrong.{Wrong}
use Rattle.coverage.specs.declared.options.Wrong.TheVariants.{Odd}
use Rattle.coverage.specs.Options.{with_pair, next, parsed_from}

pub parsed_none : (words : List (Bor (List ℕ))) (o : Chain) → length words < 1 → parsed_from o words ≡ Ok o
unfolding parsed_from
parsed_none [] o l = refl
parsed_none (x ∷ xs) o l = absurd (omega arith)

pub parsed_one : (words : List (Bor (List ℕ))) (o : Chain) → 1 ≤ length words → length words < 2 → parsed_from o words ≡ Err Odd
unfolding parsed_from
parsed_one [] o h l = absurd (omega arith)
parsed_one (x ∷ []) o h l = refl
parsed_one (x ∷ y ∷ xs) o h l = absurd (omega arith)

-- what is left behind a pair
abbrev pub behind : List (Bor (List ℕ)) → List (Bor (List ℕ))
behind words = take (length words - 2) (drop 2 words)

parsed_two : (words : List (Bor (List ℕ))) (d : Bor (List ℕ)) (o : Chain) → 2 ≤ length words
    → parsed_from o words ≡ next (with_pair (get_or words 0 d) (get_or words 1 d) o) (λ p. parsed_from p (behind words))
unfolding parsed_from
parsed_two [] d o l = absurd (omega arith)
parsed_two (x ∷ []) d o l = absurd (omega arith)
parsed_two (x ∷ y ∷ xs) d o l =
    ap (λ ws. next (with_pair x y o) (λ p. parsed_from p ws)) (sym (take_all (length (x ∷ y ∷ xs) - 2) xs (omega arith)))

pub parsed_goes : (words : List (Bor (List ℕ))) (d : Bor (List ℕ)) (o p : Chain) → 2 ≤ length words
    → with_pair (get_or words 0 d) (get_or words 1 d) o ≡ Ok p
    → parsed_from o words ≡ parsed_from p (behind words)
parsed_goes words d o p l e = parsed_two words d o l ∙ ap (λ r. next r (λ p. parsed_from p (behind words))) e

pub parsed_stops : (words : List (Bor (List ℕ))) (d : Bor (List ℕ)) (o : Chain) (w : Wrong) → 2 ≤ length words
    → with_pair (get_or words 0 d) (get_or words 1 d) o ≡ Err w
    → parsed_from o words ≡ Err w
parsed_stops words d o w l e = parsed_two words d o l ∙ ap (λ r. next r (λ p. parsed_from p (behind words))) e
