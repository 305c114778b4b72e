-- The last of the places that begins no later.
use Rattle.std.proofs.Common.{◌≡◌, ℕ, zero, suc, ◌+◌, ◌<◌, ◌≤◌, Bool, true, false, cond, leb, refl, ap, ◌∙◌, ⊎_elim, arith}
use Rattle.std.proofs.lemmas.Bool.{leb-true, leb-false, cond-true, cond-false, cases_eq, cases_lt, cases_Bool}
use Rattle.dates.specs.Utc.{last}

-- places that begin one after the other
abbrev pub Rising : (ℕ → ℕ) → Type 0
Rising begin = (i j : ℕ) → i ≤ j → begin i ≤ begin j

-- what is known of it
pub record Last (begin : ℕ → ℕ) (n x k : ℕ) : Type 0 where
  pub within : k ≤ n
  pub early : begin k ≤ x
  pub late : x < begin (k + 1)

last_suc : (begin : ℕ → ℕ) (n x : ℕ) → last begin (suc n) x ≡ cond (leb (begin (suc n)) x) (suc n) (last begin n x)
unfolding last
last_suc begin n x = refl

last_zero : (begin : ℕ → ℕ) (x : ℕ) → last begin 0 x ≡ 0
unfolding last
last_zero begin x = refl

pub last_is : (begin : ℕ → ℕ) → Rising begin → (n x k : ℕ) → Last begin n x k → last begin n x ≡ k
last_is begin up zero x k l = let w = l.within in last_zero begin x ∙ omega arith
last_is begin up (suc n) x k l =
    let w = l.within in
    let e = l.early in
    let t = l.late in
    ⊎_elim
    (λ b.
    let c = leb-true (begin (suc n)) x b in
    let m : suc n ≤ k = ⊎_elim (λ h. absurd (let u = up (k + 1) (suc n) (omega arith) in omega arith)) (λ h. omega arith) (cases_lt (k) (suc n)) in
    last_suc begin n x ∙ cond-true _ _ _ b ∙ omega arith)
    (λ b.
    let c = leb-false (begin (suc n)) x b in
    let m : k ≤ n = ⊎_elim (λ h. absurd (let u = ap begin h in omega arith)) (λ h. omega arith) (cases_eq k (suc n)) in
    last_suc begin n x ∙ cond-false _ _ _ b ∙ last_is begin up n x k (record { within = m; early = e; late = t }))
    (cases_Bool (leb (begin (suc n)) x))

pub last_tells : (begin : ℕ → ℕ) (n x : ℕ) → begin 0 ≤ x → x < begin (n + 1) → Last begin n x (last begin n x)
unfolding last
last_tells begin zero x h l = record { within = omega arith; early = h; late = l }
last_tells begin (suc n) x h l = by (leb (begin (suc n)) x) refl (last_tells begin n x h)
  where
    by : (b : Bool) → leb (begin (suc n)) x ≡ b → (x < begin (n + 1) → Last begin n x (last begin n x))
        → Last begin (suc n) x (cond b (suc n) (last begin n x))
    by true e f = record { within = omega arith; early = leb-true _ _ e; late = l }
    by false e f =
        let c = leb-false (begin (suc n)) x e in
        let s : n + 1 ≡ suc n = omega arith in
        let r = f (let u = ap begin s in omega arith) in
        let w = r.within in
        record { within = omega arith; early = r.early; late = r.late }
