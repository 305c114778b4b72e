-- A loop that turns the bytes of a message into digits, in place and from the end.
use Rattle.std.proofs.Common.{◌≡◌, ℕ, suc, ◌+◌, ◌-◌, ◌*◌, ◌/◌, ◌%◌, ◌<◌, ◌≤◌, List, ◌∷◌, length, get_or, take, drop, set, sym, refl, ap, ◌∙◌, subst, arith}
use Rattle.std.proofs.lemmas.List.{length-set, take-take, take-set-le, drop-set, drop_more, drop_all, get_or-take, length-take-le}
use Rattle.replay.specs.Messages.{digit, digits}

-- the area w, which was e, where the bytes of a message of n from place i on are turned
pub record Turning (e : List ℕ) (n : ℕ) (w : List ℕ) (i : ℕ) : Type 0 where
  pub within : i ≤ n
  pub front : take i w ≡ take i e
  pub done : take (2 * (n - i)) (drop (2 * i) w) ≡ digits (drop i (take n e))

digits_more : (m : List ℕ) (j : ℕ) (hi lo : ℕ) (rest : List ℕ) → j < length m → hi ≡ digit (get_or m j 0 / 16) → lo ≡ digit (get_or m j 0 % 16) → rest ≡ digits (drop (j + 1) m) → hi ∷ (lo ∷ rest) ≡ digits (drop j m)
unfolding digits
digits_more m j hi lo rest h a b r = simp (a, b, r) (ap digits (sym (drop_more m j 0 h)))

module _ (e w : List ℕ) (n j hi lo : ℕ) (small : n * 2 ≤ length e) (long : length w ≡ length e) (inv : Turning e n w (j + 1)) (a : hi ≡ digit (get_or w j 0 / 16)) (b : lo ≡ digit (get_or w j 0 % 16)) where
  at_front : get_or w j 0 ≡ get_or (take n e) j 0
  at_front =
      let h : j < j + 1 = omega arith in
      let k : j < n = omega arith in
      sym (get_or-take (j + 1) w j 0 h) ∙ ap (λ t. get_or t j 0) inv.front ∙ get_or-take (j + 1) e j 0 h ∙ sym (get_or-take n e j 0 k)

  opened : drop (2 * j) (set (set w (2 * j + 1) lo) (2 * j) hi) ≡ hi ∷ (lo ∷ drop (2 * (j + 1)) w)
  opened =
      let h : 2 * j < length (set w (2 * j + 1) lo) = simp length-set (omega arith) in
      let k : 2 * j + 1 < length w = omega arith in
      let next : (2 * j + 1) + 1 ≡ 2 * (j + 1) = omega arith in
      drop-set (set w (2 * j + 1) lo) (2 * j) hi h ∙ ap (λ t. hi ∷ t) (drop-set w (2 * j + 1) lo k ∙ ap (λ t. lo ∷ drop t w) next)

  -- one byte more
  pub turning_more : Turning e n (set (set w (2 * j + 1) lo) (2 * j) hi) j
  turning_more = record {
    within = omega arith;
    front =
        let h : j ≤ 2 * j = omega arith in
        let k : j ≤ 2 * j + 1 = omega arith in
        let up : j ≤ j + 1 = omega arith in
        take-set-le j (set w (2 * j + 1) lo) (2 * j) hi h ∙ take-set-le j w (2 * j + 1) lo k
        ∙ sym (take-take j (j + 1) w up) ∙ ap (take j) inv.front ∙ take-take j (j + 1) e up;
    done =
        let two : 2 * (n - j) ≡ suc (suc (2 * (n - (j + 1)))) = omega arith in
        let m : j < length (take n e) = omega (arith, length-take-le n e (omega arith)) in
        ap (λ t. take t (drop (2 * j) (set (set w (2 * j + 1) lo) (2 * j) hi))) two
        ∙ ap (take (suc (suc (2 * (n - (j + 1)))))) opened
        ∙ digits_more (take n e) j hi lo (take (2 * (n - (j + 1))) (drop (2 * (j + 1)) w)) m (a ∙ ap (λ t. digit (t / 16)) at_front) (b ∙ ap (λ t. digit (t % 16)) at_front) inv.done;
  }

pub turning_none : (e : List ℕ) (n : ℕ) → n ≤ length e → Turning e n e n
unfolding digits
turning_none e n h = record {
  within = omega arith;
  front = refl;
  done =
      let none : 2 * (n - n) ≡ 0 = omega arith in
      let m : length (take n e) ≤ n = omega (arith, length-take-le n e h) in
      ap (λ t. take t (drop (2 * n) e)) none ∙ sym (ap digits (drop_all n (take n e) m));
}

pub turning_all : (e w : List ℕ) (n i : ℕ) → i ≡ 0 → Turning e n w i → take (n * 2) w ≡ digits (take n e)
turning_all e w n i z h =
    let at_zero : Turning e n w 0 = subst (Turning e n w) z h in
    let two : n * 2 ≡ 2 * (n - 0) = omega arith in
    ap (λ t. take t w) two ∙ at_zero.done
