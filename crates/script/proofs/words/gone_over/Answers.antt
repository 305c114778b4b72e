use Rattle.std.proofs.Common.{◌≡◌, ℕ, ◌+◌, ◌<◌, ◌≤◌, inl, inr, Option, Some, None, List, [], length, not, ◌==◌, take, get_or, set, Bor, ap, sym, ◌∙◌, lit<, arith, rules, tests}
use Rattle.std.specs.Iterator.{Yields}
use Rattle.std.proofs.lemmas.Bool.{cases_lt, cases_eq}
use Rattle.std.proofs.lemmas.List.{length-set, length-take, length_push, get_or-set_same, get_or-set_other, get_or-take, get_or_default, get_or_past}
use Rattle.std.proofs.lemmas.Iterator.{YieldsList}
use Rattle.std.proofs.lemmas.Iterator.Consumers.{YieldsList-at, YieldsList-from_filter, YieldsList-turn, YieldsList-end}
use Rattle.std.proofs.lemmas.Iterator.Splits.{YieldsList-from_str_split}
use Rattle.account.specs.Commands.{word}
use Rattle.script.specs.Words.{words_of, word_at}
use Rattle.script.proofs.words.gone_over.Goals as goal
use Rattle.script.proofs.words.gone_over.Goals.{then-count-lt-MOST, else-count-lt-MOST}

-- the library's facts, told the iterator's steps before the list
turn : {S A B : Type 0} {steps : S → Option A → S → Type 0} {v : A → B} {s : S} {all : List B} (xs : List A) (t : S) (y : Yields steps s xs t)
    → (r : Option A) (u : S) (x : A) → r ≡ Some x → steps t r u → YieldsList steps v s all → (length xs < length all) × (v x ≡ get_or all (length xs) (v x))
turn xs t y r u x is step e = YieldsList-turn e xs t y r u x is step

end : {S A B : Type 0} {steps : S → Option A → S → Type 0} {v : A → B} {s : S} {all : List B} (xs : List A) (t : S) (y : Yields steps s xs t)
    → (r : Option A) (u : S) → r ≡ None → steps t r u → YieldsList steps v s all → length xs ≡ length all
end xs t y r u is step e = (YieldsList-end e xs t y r u is step).1

-- with one word more, no other place has another word
grown : (ws : List (List ℕ)) (n m j : ℕ) → m ≡ n + 1 → (j ≡ n → ⊥) → word_at j (take n ws) ≡ word_at j (take m ws)
grown ws n m j e other =
    elim (cases_lt j n) [
      | inl below ↦ get_or-take n ws j [] below ∙ sym (get_or-take m ws j [] (omega arith))
      | inr above ↦
          let here : length (take n ws) ≤ j = omega (arith, length-take n ws) in
          let there : length (take m ws) ≤ j = omega (arith, length-take m ws) in
          get_or_past (take n ws) j [] here ∙ sym (get_or_past (take m ws) j [] there)
    ]

-- one of the first nine words goes to its place
placed : (first : List (Bor (List ℕ))) (ws : List (List ℕ)) (n k : ℕ) (w : Bor (List ℕ)) (m : ℕ) → length first ≡ 9 → m ≡ n + 1 → k ≡ n → k < 9
    → (n < length ws) × (w.now ≡ get_or ws n w.now)
    → ((j : ℕ) → j < 9 → word first j ≡ word_at j (take n ws))
    → (length (set first k w) ≡ 9) × ((j : ℕ) → j < 9 → word (set first k w) j ≡ word_at j (take m ws))
placed first ws n k w m long e is nine t inv =
    let says : w.now ≡ get_or ws n [] = t.1 ∙ get_or_default ws n w.now [] t.0 in
    let room : n < length first = omega (arith, long, is, nine) in
    rw is (
      length-set first n w ∙ long,
      λ j l.
          elim (cases_eq j n) [
            | inl same ↦ rw same (ap (λ x. x.now) (get_or-set_same first n w _ room) ∙ says ∙ sym (get_or-take m ws n [] (omega arith)))
            | inr other ↦ ap (λ x. x.now) (get_or-set_other first n j w _ other) ∙ inv j l ∙ grown ws n m j e other
          ],
    )

-- behind the last word all that there are stand
all_placed : (ws : List (List ℕ)) (n j : ℕ) → n ≡ length ws → word_at j (take n ws) ≡ word_at j ws
all_placed ws n j e =
    elim (cases_lt j n) [
      | inl below ↦ get_or-take n ws j [] below
      | inr above ↦ get_or_past (take n ws) j [] (omega (arith, length-take n ws)) ∙ sym (get_or_past ws j [] (omega (arith, e)))
    ]

pub loop-word-preserved : goal.loop-word-preserved
loop-word-preserved c =
    let ws = words_of c.args.text.now in
    let inv = c.loop-word.invariant in
    let n = length c.loop-word.yielded in
    let one = length_push c.loop-word.yielded c.in-Some.word in
    let t = turn c.loop-word.yielded _ c.loop-word.yielded_by _ _ _ c.in-Some.is c.next.ensures.steps
    (YieldsList-at c.into_iter-word-iterator.ensures.into_iter_gives
    (YieldsList-from_filter _ (λ w. not (length w == 0))
    (YieldsList-at c.filter-word-items.ensures.source
    (YieldsList-from_str_split 32 c.args.text.now (lit< tt) c.split.ensures.text c.split.ensures.has_more c.split.ensures.pattern))
    c.filter-word-items.ensures.closure (λ x r q k. search (rules, tests)))) in
    let counted = ap (λ z. z + 1) inv.0 ∙ sym one in
    elim c.if-count-lt-MOST.branch [
      | then-count-lt-MOST w ↦ simp w.first-is (counted, placed c.loop-word.first ws n c.loop-word.count c.in-Some.word _ inv.1.0 one inv.0 w.if-count-lt-MOST.true t inv.1.1)
      | else-count-lt-MOST w ↦ simp w.first-is (counted, (inv.1.0, λ j l. inv.1.1 j l ∙ grown ws n _ j one (λ e. omega (arith, e, l, inv.0, w.if-count-lt-MOST.false))))
    ]

pub returns : goal.returns
returns c =
    let e = end c.loop-word.yielded _ c.loop-word.yielded_by _ _ c.in-None.is c.next.ensures.steps
    (YieldsList-at c.into_iter-word-iterator.ensures.into_iter_gives
    (YieldsList-from_filter _ (λ w. not (length w == 0))
    (YieldsList-at c.filter-word-items.ensures.source
    (YieldsList-from_str_split 32 c.args.text.now (lit< tt) c.split.ensures.text c.split.ensures.has_more c.split.ensures.pattern))
    c.filter-word-items.ensures.closure (λ x r q k. search (rules, tests)))) in
    record {
      count = c.loop-word.invariant.0 ∙ e;
      first = λ k l. c.loop-word.invariant.1.1 k l ∙ all_placed (words_of c.args.text.now) (length c.loop-word.yielded) k e;
    }
