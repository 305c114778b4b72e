-- Numbers made of bytes, the low byte first.
use Rattle.std.proofs.Common.{◌≡◌, ℕ, zero, suc, ◌+◌, ◌*◌, ◌/◌, ◌%◌, ◌^◌, ◌<◌, ◌≤◌, max, leb, List, [], ◌∷◌, ◌++◌, length, get_or, take, set, reverse, replicate, sym, refl, ap, ◌∙◌, mul_assoc, mul-le-mul_left, pow-suc, mul-zero, mul-one, mul-suc, mul-add, add-one, arith}
use native.Mathlib.Nat.{pow-succ', pow-le-pow_right}
use Rattle.std.proofs.lemmas.List.{take_more_set, take_all, length-take-le, length-reverse, reverse-append}
use Rattle.std.proofs.lemmas.Bool.Decides.{nat_tests}
use Rattle.std.specs.declared.cmp.Ordering.{Ordering}
use Rattle.std.specs.declared.cmp.Ordering.TheVariants.{Less, Equal, Greater}
use Rattle.std.specs.Ordering.{nat_cmp, ordering_then, is_le}
use Rattle.std.specs.Cmp.Lexicographic.{slice_cmp}
use Rattle.std.specs.Int.{from_le_bytes, w32}
use Rattle.headers.specs.Targets.{little}

-- one byte more, at the high end
pub little_push : (xs : List ℕ) (y : ℕ) → little (xs ++ y ∷ []) ≡ little xs + 256 ^ length xs * y
unfolding little
little_push [] y = omega arith
little_push (x ∷ xs) y =
    let p : 256 ^ suc (length xs) * y ≡ 256 * (256 ^ length xs * y) =
    ap (λ z. z * y) (pow-succ' 256 (length xs)) ∙ mul_assoc 256 (256 ^ length xs) y in
    omega (arith, little_push xs y)

pub little_set : (xs : List ℕ) (k b : ℕ) → k < length xs → little (take (k + 1) (set xs k b)) ≡ little (take k xs) + 256 ^ k * b
little_set xs k b h =
    ap little (take_more_set xs k b h) ∙ little_push (take k xs) b
    ∙ ap (λ n. little (take k xs) + 256 ^ n * b) (length-take-le k xs (omega arith))

pub power_positive : (i : ℕ) → 0 < 256 ^ i
power_positive zero = omega arith
power_positive (suc i) = let e = pow-succ' 256 i in omega (arith, power_positive i)

-- numbers of as many bytes compare as their bytes do from the highest on
then_equal : (o : Ordering) → ordering_then o Equal ≡ o
then_equal Less = refl
then_equal Equal = refl
then_equal Greater = refl

then_then : (o p q : Ordering) → ordering_then o (ordering_then p q) ≡ ordering_then (ordering_then o p) q
then_then Less p q = refl
then_then Equal p q = refl
then_then Greater p q = refl

cmp_push : (p q : List ℕ) (x y : ℕ) → length p ≡ length q
    → slice_cmp nat_cmp (p ++ x ∷ []) (q ++ y ∷ []) ≡ ordering_then (slice_cmp nat_cmp p q) (nat_cmp x y)
cmp_push [] [] x y e = then_equal (nat_cmp x y)
cmp_push [] (v ∷ q) x y e = absurd (omega arith)
cmp_push (u ∷ p) [] x y e = absurd (omega arith)
cmp_push (u ∷ p) (v ∷ q) x y e =
    ap (ordering_then (nat_cmp u v)) (cmp_push p q x y (omega arith)) ∙ then_then (nat_cmp u v) (slice_cmp nat_cmp p q) (nat_cmp x y)

cmp_digits : (x y m n : ℕ) → x < 256 → y < 256 → nat_cmp (x + 256 * m) (y + 256 * n) ≡ ordering_then (nat_cmp m n) (nat_cmp x y)
cmp_digits x y m n h k = grind (arith, nat_tests)

pub cmp_little : (xs ys : List ℕ) → length xs ≡ length ys
    → ((k : ℕ) → get_or xs k 0 < 256) → ((k : ℕ) → get_or ys k 0 < 256)
    → slice_cmp nat_cmp (reverse xs) (reverse ys) ≡ nat_cmp (little xs) (little ys)
unfolding little
cmp_little [] [] e h k = refl
cmp_little [] (y ∷ ys) e h k = absurd (omega arith)
cmp_little (x ∷ xs) [] e h k = absurd (omega arith)
cmp_little (x ∷ xs) (y ∷ ys) e h k =
    let n : length (reverse xs) ≡ length (reverse ys) = simp length-reverse (omega arith) in
    ap (λ p. slice_cmp nat_cmp p (reverse (y ∷ ys))) (reverse-append (x ∷ []) xs)
    ∙ ap (slice_cmp nat_cmp (reverse xs ++ x ∷ [])) (reverse-append (y ∷ []) ys)
    ∙ cmp_push (reverse xs) (reverse ys) x y n
    ∙ ap (λ o. ordering_then o (nat_cmp x y)) (cmp_little xs ys (omega arith) (λ i. h (suc i)) (λ i. k (suc i)))
    ∙ sym (cmp_digits x y (little xs) (little ys) (h 0) (k 0))

pub le_of_cmp : (m n : ℕ) → is_le (nat_cmp m n) ≡ leb m n
le_of_cmp m n = grind (arith, nat_tests)

-- a number written into zero bytes from place `at` on: what is written, and what is left
pub place_zero : (xs : List ℕ) (k at left x : ℕ) → k < length xs → k < at
    → little (take k xs) + 256 ^ max k at * left ≡ x
    → little (take (k + 1) (set xs k 0)) + 256 ^ max (k + 1) at * left ≡ x
place_zero xs k at left x h l e =
    let m : max k at ≡ at = omega arith in
    let n : max (k + 1) at ≡ at = omega arith in
    let w = little_set xs k 0 h in
    rw (n, w) (omega (arith, rw m at e))

pub place_byte : (xs : List ℕ) (k at left x : ℕ) → k < length xs → at ≤ k
    → little (take k xs) + 256 ^ max k at * left ≡ x
    → little (take (k + 1) (set xs k (left % 256))) + 256 ^ max (k + 1) at * (left / 256) ≡ x
place_byte xs k at left x h l e =
    let m : max k at ≡ k = omega arith in
    let n : max (k + 1) at ≡ suc k = omega arith in
    let w = little_set xs k (left % 256) h in
    let p : 256 ^ suc k * (left / 256) ≡ 256 ^ k * (256 * (left / 256)) =
    ap (λ z. z * (left / 256)) (pow-suc 256 k) ∙ mul_assoc (256 ^ k) 256 (left / 256) in
    let d : left % 256 + 256 * (left / 256) ≡ left = omega arith in
    let q : 256 ^ k * (left % 256) + 256 ^ k * (256 * (left / 256)) ≡ 256 ^ k * left =
    sym (mul-add (256 ^ k) (left % 256) (256 * (left / 256))) ∙ ap (λ z. 256 ^ k * z) d in
    rw (n, w) (omega (arith, p, q, rw m at e))

pub place_below : (xs : List ℕ) (k b : ℕ) → k < length xs → b < 256
    → little (take k xs) < 256 ^ k → little (take (k + 1) (set xs k b)) < 256 ^ (k + 1)
place_below xs k b h l e =
    let w = little_set xs k b h in
    let p : 256 ^ (k + 1) ≡ 256 ^ k * 256 = ap (λ n. 256 ^ n) (add-one k) ∙ pow-suc 256 k in
    rw w (omega (arith, p, mul-le-mul_left {m = suc b} {n = 256} (256 ^ k) l, mul-suc (256 ^ k) b))

pub zeros_read : (n i : ℕ) → ◌≡◌ {A = ℕ} (get_or (replicate n 0) i 0) 0
zeros_read zero i = refl
zeros_read (suc n) zero = refl
zeros_read (suc n) (suc i) = zeros_read n i

-- behind the last byte: something is left, or nothing
pub no_room : (l k at left x : ℕ) → k ≡ 32 → (left ≡ 0 → ⊥) → l + 256 ^ max k at * left ≡ x → 2 ^ 256 ≤ x
no_room l k at left x e ne is =
    let m : 32 ≤ max k at = omega arith in
    let g : 256 ^ 32 ≤ 256 ^ max k at = pow-le-pow_right (omega arith) m in
    let one : 1 ≤ left = omega arith in
    omega (arith, g, mul-le-mul_left {m = 1} {n = left} (256 ^ max k at) one, mul-one (256 ^ max k at))

pub room : (xs : List ℕ) (k at left x : ℕ) → length xs ≡ 32 → k ≡ 32 → left ≡ 0
    → little (take k xs) + 256 ^ max k at * left ≡ x → little (take k xs) < 256 ^ k
    → (little xs ≡ x) × (x < 2 ^ 256)
room xs k at left x n e z is lt =
    let w : little (take k xs) ≡ little xs = ap little (take_all k xs (omega arith)) in
    let y : 256 ^ max k at * left ≡ 0 = ap (λ v. 256 ^ max k at * v) z ∙ mul-zero (256 ^ max k at) in
    let p : 256 ^ k ≡ 2 ^ 256 = ap (λ v. 256 ^ v) e in
    (omega arith, omega arith)

-- four bytes
pub little_four : (bs : List ℕ) → length bs ≡ 4 → little bs ≡ from_le_bytes w32 bs
unfolding little
little_four [] e = absurd (omega arith)
little_four (a ∷ []) e = absurd (omega arith)
little_four (a ∷ b ∷ []) e = absurd (omega arith)
little_four (a ∷ b ∷ c ∷ []) e = absurd (omega arith)
little_four (a ∷ b ∷ c ∷ d ∷ []) e = omega arith
little_four (a ∷ b ∷ c ∷ d ∷ x ∷ rest) e = absurd (omega arith)
