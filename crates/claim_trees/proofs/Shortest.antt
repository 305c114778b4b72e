-- The shortest form of a number: it is one of the number's forms, and no other is shorter.
use Rattle.std.proofs.Common.{◌≡◌, ℕ, zero, suc, ◌+◌, ◌-◌, ◌*◌, ◌/◌, ◌%◌, ◌^◌, ◌<◌, ◌≤◌, List, [], ◌∷◌, ◌++◌, length, drop, sym, refl, ap, ◌∙◌, subst, ⊎_elim, arith}
use Rattle.std.proofs.lemmas.Bool.{lt-ltb, le-ltb, cond-true, cond-false, cases_lt}
use Rattle.std.proofs.lemmas.List.{length-append, length-drop}
use Rattle.format.specs.Outcome.{Outcome, got}
use Rattle.format.specs.Numbers.{number_at}
use Rattle.format.specs.Grammar.{Groups, final, onward, Number}
use Rattle.format.proofs.Complete.{Full, full_number}
use Rattle.claim_trees.specs.Bytes.{groups, shortest}
use Rattle.claim_trees.specs.Laws.{Small, NumberLaw}

-- a bound that k + 1 groups hold
abbrev pub room : ℕ → ℕ
room zero = 128
room (suc k) = 128 * room k

pub groups_one : (k n : ℕ) → n < 128 → groups k n ≡ n ∷ []
unfolding groups
groups_one zero n h = refl
groups_one (suc k) n h = cond-true _ _ _ (lt-ltb n 128 h)

groups_none : (n : ℕ) → groups 0 n ≡ n ∷ []
unfolding groups
groups_none n = refl

pub groups_more : (k n : ℕ) → 128 ≤ n → groups (suc k) n ≡ (128 + n % 128) ∷ groups k (n / 128)
unfolding groups
groups_more k n h = cond-false _ _ _ (le-ltb n 128 h)

divided : (n m : ℕ) → n < 128 * m → n / 128 < m
divided n m h = omega arith

valued : (n : ℕ) → (128 + n % 128) - 128 + 128 * (n / 128) ≡ n
valued n = omega arith

groups_are : (k n : ℕ) → n < room k → Groups (groups k n) n
groups_are zero n h = subst (λ z. Groups z n) (sym (groups_one zero n h)) (final h)
groups_are (suc k) n h = ⊎_elim
    (λ l. subst (λ z. Groups z n) (sym (groups_one (suc k) n l)) (final l))
    (λ m. subst (λ z. Groups z n) (sym (groups_more k n m))
    (subst (λ z. Groups ((128 + n % 128) ∷ groups k (n / 128)) z) (valued n)
    (onward (omega arith) (groups_are k (n / 128) (divided n (room k) h)))))
    (cases_lt n 128)

groups_short : (k n : ℕ) → length (groups k n) ≤ suc k
groups_short zero n = let e : length (groups 0 n) ≡ 1 = ap length (groups_none n) in omega arith
groups_short (suc k) n = ⊎_elim
    (λ l. let e : length (groups (suc k) n) ≡ 1 = ap length (groups_one (suc k) n l) in omega arith)
    (λ m. let e : length (groups (suc k) n) ≡ suc (length (groups k (n / 128))) = ap length (groups_more k n m) in
    let h = groups_short k (n / 128) in omega arith)
    (cases_lt n 128)

pub shortest_is : (n : ℕ) → n < 2 ^ 32 → Number (shortest n) n
unfolding shortest
shortest_is n h = record { groups = groups_are 4 n (omega arith); short = groups_short 4 n; small = h }

-- ---- the least form

least_by : {bs : List ℕ} {n : ℕ} → Groups bs n → Small bs → (k : ℕ) → n < room k → length (groups k n) ≤ length bs
least_by (final {b = b} h) s k f = let e : length (groups k b) ≡ 1 = ap length (groups_one k b h) in omega arith
least_by (onward {b = b} {bs = bs} {v = v} h g) s zero f =
    let e : length (groups 0 (b - 128 + 128 * v)) ≡ 1 = ap length (groups_none (b - 128 + 128 * v)) in omega arith
least_by (onward {b = b} {bs = bs} {v = v} h g) s (suc k) f =
    let n = b - 128 + 128 * v in
    let l : b < 256 = s.0 in
    let d : n / 128 ≡ v = omega arith in
    let r = least_by g s.1 k (omega arith) in
    ⊎_elim
    (λ m. let e : length (groups (suc k) n) ≡ 1 = ap length (groups_one (suc k) n m) in omega arith)
    (λ m. let e : length (groups (suc k) n) ≡ suc (length (groups k v)) = ap length (groups_more k n m ∙ ap (λ z. (128 + n % 128) ∷ groups k z) d) in omega arith)
    (cases_lt n 128)

least : (n : ℕ) (bs : List ℕ) → n < 2 ^ 32 → Small bs → Groups bs n → length (shortest n) ≤ length bs
unfolding shortest
least n bs h s g = least_by g s 4 (omega arith)

-- ---- where a reading ends

pub ends : {A : Type 0} (o : Outcome A) (x : A) (file bs rest : List ℕ) (at : ℕ) → at ≤ length file → drop at file ≡ bs ++ rest → Full o x file rest
    → o ≡ got x (at + length bs)
ends o x file bs rest at w e f =
    let l = length-drop f.n file in
    let m : length (drop f.n file) ≡ length rest = ap length f.left in
    let i = f.within in
    let j = length-drop at file in
    let k : length (drop at file) ≡ length bs + length rest = ap length e ∙ length-append bs rest in
    let q : f.n ≡ at + length bs = omega arith in
    f.reads ∙ ap (λ z. got x z) q

number_returns : (n : ℕ) (file : List ℕ) (at : ℕ) (rest : List ℕ) → n < 2 ^ 32 → at ≤ length file → drop at file ≡ shortest n ++ rest
    → number_at file at ≡ got n (at + length (shortest n))
number_returns n file at rest l w e = ends (number_at file at) n file (shortest n) rest at w e (full_number (shortest n) n (shortest_is n l) file at rest e)

pub number_law : NumberLaw
number_law = record { returns = number_returns; least = least }
