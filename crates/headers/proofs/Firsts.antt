-- The first place where a test fails.
use Rattle.std.proofs.Common.{◌≡◌, ℕ, zero, suc, ◌+◌, ◌-◌, ◌<◌, ◌≤◌, Bool, true, false, cond, ◌⊎◌, sym, refl, ap, ◌∙◌, inl, inr, ⊎_elim, arith}
use Rattle.std.proofs.lemmas.Bool.{both_ways, cases_lt, cases_eq}
use Rattle.headers.specs.Following.{first_failing}

pub first_stops : (p : ℕ → Bool) (k n : ℕ) → p k ≡ false → first_failing p k n ≡ k
unfolding first_failing
first_stops p k zero e = refl
first_stops p k (suc n) e = ap (λ b. cond b (first_failing p (k + 1) n) k) e

first_goes_suc : (p : ℕ → Bool) (k n : ℕ) → p k ≡ true → first_failing p k (suc n) ≡ first_failing p (k + 1) n
unfolding first_failing
first_goes_suc p k n e = ap (λ b. cond b (first_failing p (k + 1) n) k) e

pub first_goes : (p : ℕ → Bool) (k limit : ℕ) → k < limit → p k ≡ true → first_failing p k (limit - k) ≡ first_failing p (k + 1) (limit - (k + 1))
first_goes p k limit l e =
    let s : limit - k ≡ suc (limit - (k + 1)) = omega arith in
    ap (first_failing p k) s ∙ first_goes_suc p k (limit - (k + 1)) e

-- what is known of it
pub record First (p : ℕ → Bool) (at n r : ℕ) : Type 0 where
  pub from : at ≤ r
  pub within : r ≤ at + n
  pub before : (k : ℕ) → at ≤ k → k < r → p k ≡ true
  pub fails : r < at + n → p r ≡ false

at_or_behind : (at k : ℕ) → at ≤ k → (at ≡ k) ⊎ (at < k)
at_or_behind at k l = ⊎_elim (λ e. inl e) (λ ne. inr (omega arith)) (cases_eq at k)

first_by : (p : ℕ → Bool) (at n r : ℕ) (b : Bool) → p at ≡ b → First p (at + 1) n r → First p at (suc n) (cond b r at)
first_by p at n r false e f = record { from = omega arith; within = omega arith; before = λ k l h. absurd (omega arith); fails = λ l. e }
first_by p at n r true e f =
    record {
      from = omega (arith, f.from);
      within = omega (arith, f.within);
      before = λ k l h. ⊎_elim (λ s. ap p (sym s) ∙ e) (λ s. f.before k (omega arith) h) (at_or_behind at k l);
      fails = λ l. f.fails (omega arith);
    }

pub first_is : (p : ℕ → Bool) (at n : ℕ) → First p at n (first_failing p at n)
unfolding first_failing
first_is p at zero = record { from = omega arith; within = omega arith; before = λ k l h. absurd (omega arith); fails = λ l. absurd (omega arith) }
first_is p at (suc n) = first_by p at n (first_failing p (at + 1) n) (p at) refl (first_is p (at + 1) n)

-- a weaker test fails no earlier
pub first_later : (p q : ℕ → Bool) (n : ℕ) → ((k : ℕ) → p k ≡ true → q k ≡ true) → first_failing p 0 n ≤ first_failing q 0 n
first_later p q n h =
    let f = first_is p 0 n in
    let g = first_is q 0 n in
    ⊎_elim
    (λ l. let w = f.within in
    absurd (both_ways (q (first_failing q 0 n)) (g.fails (omega arith)) (h (first_failing q 0 n) (f.before (first_failing q 0 n) (omega arith) l))))
    (λ l. l)
    (cases_lt (first_failing q 0 n) (first_failing p 0 n))
