-- Lines of a text.
use Rattle.std.proofs.Common.{◌≡◌, ℕ, zero, suc, ◌<◌, Bool, true, false, cond, not, eqb, List, [], ◌∷◌, length, get_or, sym, refl, ap, ◌∙◌, ⊎_elim, arith}
use Rattle.std.specs.List.{slice_split, onto_first}
use Rattle.std.proofs.lemmas.List.Splits.{join_with_byte-slice_split}
use Rattle.std.proofs.lemmas.Bool.{eqb-false, and_parts, and_from, or_cases, or_left, or_right, false≢true}
use Rattle.format.specs.Attestations.{same}
use Rattle.headers.proofs.Sames.{same_tells, same_from}
use Rattle.judge.specs.Listing.{lines, some_line, empty, ListedMeansALine, LinesSplitTheText}

-- an address that some line equals
some_tells : (ls : List (List ℕ)) (address : List ℕ) → some_line ls address ≡ true → (k : ℕ) × (k < length ls) × (get_or ls k [] ≡ address)
unfolding some_line
some_tells [] address e = absurd (false≢true e)
some_tells (l ∷ ls) address e =
    ⊎_elim
    (λ s. (0, omega arith, same_tells l address s))
    (λ s. let r = some_tells ls address s in (suc r.0, omega (arith, r.1), r.2))
    (or_cases (same l address) (some_line ls address) e)

some_from : (ls : List (List ℕ)) (address : List ℕ) (k : ℕ) → k < length ls → get_or ls k [] ≡ address → some_line ls address ≡ true
unfolding some_line
some_from [] address k h e = absurd (omega arith)
some_from (l ∷ ls) address zero h e = or_left (same l address) (some_line ls address) (same_from l address e)
some_from (l ∷ ls) address (suc k) h e = or_right (same l address) (some_line ls address) (some_from ls address k (omega arith) e)

not_empty : (address : List ℕ) → (address ≡ [] → ⊥) → not (empty address) ≡ true
not_empty [] h = absurd (h refl)
not_empty (b ∷ bs) h = refl

empty_not : (address : List ℕ) → not (empty address) ≡ true → address ≡ [] → ⊥
empty_not address e z = false≢true (sym (ap (λ a. not (empty a)) z) ∙ e)

pub listed_means_a_line : ListedMeansALine
listed_means_a_line text address = (
  (λ e. let p = and_parts (not (empty address)) (some_line (lines text) address) e in
      record { some = empty_not address p.0; line = some_tells (lines text) address p.1 }),
  (λ l. and_from (not (empty address)) (some_line (lines text) address) (not_empty address l.some)
      (some_from (lines text) address l.line.0 l.line.1 l.line.2)),
)

-- no line has a line's end in it
abbrev Clean : List (List ℕ) → Type 0
Clean ls = (k i : ℕ) → k < length ls → i < length (get_or ls k []) → get_or (get_or ls k []) i 0 ≡ 0x0a → ⊥

clean_empty : (ls : List (List ℕ)) → Clean ls → Clean ([] ∷ ls)
clean_empty ls h zero i l m e = omega arith
clean_empty ls h (suc k) i l m e = h k i (omega arith) m e

clean_longer : (b : ℕ) (ls : List (List ℕ)) → (b ≡ 0x0a → ⊥) → Clean ls → Clean (onto_first b ls)
clean_longer b [] n h zero zero l m e = n e
clean_longer b [] n h zero (suc i) l m e = omega arith
clean_longer b [] n h (suc k) i l m e = omega arith
clean_longer b (x ∷ ls) n h zero zero l m e = n e
clean_longer b (x ∷ ls) n h zero (suc i) l m e = h zero i (omega arith) (omega arith) e
clean_longer b (x ∷ ls) n h (suc k) i l m e = h (suc k) i l m e

clean_lines : (text : List ℕ) → Clean (slice_split (λ b. eqb b 0x0a) text)
clean_lines [] = clean_empty [] (λ k i l m e. omega arith)
clean_lines (b ∷ text) = by (eqb b 0x0a) refl (clean_lines text)
  where
    by : (t : Bool) → eqb b 0x0a ≡ t → Clean (slice_split (λ b. eqb b 0x0a) text)
        → Clean (cond t ([] ∷ slice_split (λ b. eqb b 0x0a) text) (onto_first b (slice_split (λ b. eqb b 0x0a) text)))
    by true e h = clean_empty (slice_split (λ b. eqb b 0x0a) text) h
    by false e h = clean_longer b (slice_split (λ b. eqb b 0x0a) text) (eqb-false b 0x0a e) h

pub lines_split_the_text : LinesSplitTheText
unfolding lines
lines_split_the_text text = (join_with_byte-slice_split 0x0a text, clean_lines text)
