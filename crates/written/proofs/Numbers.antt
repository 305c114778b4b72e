-- Numbers in shortest form: how one is put byte by byte.
use Rattle.std.proofs.Common.{◌≡◌, ℕ, zero, suc, ◌+◌, ◌*◌, ◌/◌, ◌%◌, ◌^◌, ◌<◌, ◌≤◌, List, [], ◌∷◌, ◌++◌, length, sym, refl, ap, ◌∙◌, subst, ⊎_elim, arith}
use Rattle.std.proofs.lemmas.Bool.{cases_lt}
use Rattle.std.proofs.lemmas.List.{append_assoc}
use Rattle.claim_trees.specs.Bytes.{groups, shortest}
use Rattle.claim_trees.proofs.Shortest.{room, groups_one, groups_more}

one_long : (k n : ℕ) → n < 128 → length (groups k n) ≡ 1
one_long k n h = ap length (groups_one k n h)

more_long : (k n : ℕ) → 128 ≤ n → length (groups (suc k) n) ≡ suc (length (groups k (n / 128)))
more_long k n h = ap length (groups_more k n h)

last_long : (n : ℕ) → length (groups 0 n) ≡ 1
unfolding groups
last_long n = refl

-- ---- byte by byte

-- a number half put: at most k bytes and one more are due, for what is left
pub record Going (before : List ℕ) (at n : ℕ) (now : List ℕ) (next left k : ℕ) : Type 0 where
  pub spelt : now ++ groups k left ≡ before ++ shortest n
  pub long : next + length (groups k left) ≡ at + length (shortest n)
  pub fits : left < room k

pub start : (before : List ℕ) (at n : ℕ) → n < 2 ^ 32 → Going before at n before at n 4
unfolding shortest
start before at n l = record { spelt = refl; long = refl; fits = (omega arith) }

pub turn : (before : List ℕ) (at n : ℕ) (now : List ℕ) (next left k j : ℕ) → k ≡ suc j → 128 ≤ left
    → Going before at n now next left k → Going before at n (now ++ (128 + left % 128) ∷ []) (next + 1) (left / 128) j
turn before at n now next left k j e h g =
    let q : groups k left ≡ (128 + left % 128) ∷ groups j (left / 128) = ap (λ z. groups z left) e ∙ groups_more j left h in
    let m : length (groups k left) ≡ suc (length (groups j (left / 128))) = ap length q in
    let o = g.long in
    let f : left < room (suc j) = subst (λ z. left < room z) e g.fits in
    record {
      spelt = append_assoc now ((128 + left % 128) ∷ []) (groups j (left / 128)) ∙ (ap (λ z. now ++ z) (sym q) ∙ g.spelt);
      long = (omega arith);
      fits = (omega arith);
    }

-- past 127 more than one byte is due
pub due : (left k : ℕ) → 128 ≤ left → left < room k → 1 ≤ k
due left zero h f = omega arith
due left (suc k) h f = omega arith

pub some : (left k : ℕ) → 1 ≤ length (groups k left)
some left zero = let m = last_long left in omega arith
some left (suc k) = ⊎_elim
    (λ h. let m = one_long (suc k) left h in omega arith)
    (λ h. let m = more_long k left h in omega arith)
    (cases_lt left 128)

pub stop : (before : List ℕ) (at n : ℕ) (now : List ℕ) (next left k : ℕ) → left < 128 → Going before at n now next left k
    → (next + 1 ≡ at + length (shortest n)) × (now ++ left ∷ [] ≡ before ++ shortest n)
stop before at n now next left k h g =
    let q = groups_one k left h in
    let m : length (groups k left) ≡ 1 = ap length q in
    let o = g.long in
    (omega arith, ap (λ z. now ++ z) (sym q) ∙ g.spelt)

pub going_at : {before : List ℕ} {at n : ℕ} {now : List ℕ} {next left k : ℕ} → Going before at n now next left k
    → {later : List ℕ} {on : ℕ} → later ≡ now → on ≡ next → Going before at n later on left k
going_at {before = before} {at = at} {n = n} {now = now} {next = next} {left = left} {k = k} g {later = later} {on = on} l o =
    subst (λ z. Going before at n z on left k) (sym l) (subst (λ z. Going before at n now z left k) (sym o) g)
