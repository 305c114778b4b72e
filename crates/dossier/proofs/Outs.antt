-- What stands in an out area that bytes were put into, or that was too short for them.
use Rattle.std.proofs.Common.{◌≡◌, ℕ, ◌<◌, ◌≤◌, List, ◌++◌, length, drop, replicate, append_assoc, sym, ap, ◌∙◌, subst, arith}
use Rattle.std.proofs.Math.Seq.{drop-append_seam}
use Rattle.std.proofs.lemmas.List.{drop_all}
use Rattle.std.proofs.lemmas.Bool.{cond_below, cond_above}
use Rattle.replay.specs.Areas.{cleared, left}
use Rattle.replay.proofs.Leaving.{guards_leave}
use Rattle.runs.specs.Answers.{granted, refused, fitted, placed}

module _ (bytes out : List ℕ) (n : ℕ) (e : n ≡ length bytes) where
  pub too_short : length out < n → refused 16 0 ≡ fitted bytes out
  too_short h = cond_below (length out) (length bytes) (refused 16 0) (granted (length bytes)) (subst (λ (k : ℕ). length out < k) e h)

  pub short_kept : length out < n → out ≡ placed bytes out
  short_kept h = cond_below (length out) (length bytes) out (bytes ++ drop (length bytes) out) (subst (λ (k : ℕ). length out < k) e h)

  pub long_enough : n ≤ length out → granted n ≡ fitted bytes out
  long_enough h =
      cond_above (length out) (length bytes) (refused 16 0) (granted (length bytes)) (granted n) (subst (λ (k : ℕ). k ≤ length out) e h)
      (ap (λ (k : ℕ). granted k) e)

  pub put_front : (front : List ℕ) (k : ℕ) → k ≡ n → n ≤ length out → front ≡ bytes → front ++ drop k out ≡ placed bytes out
  put_front front k q h f =
      cond_above (length out) (length bytes) out (bytes ++ drop (length bytes) out) (front ++ drop k out) (subst (λ (j : ℕ). j ≤ length out) e h)
      (λ i. f i ++ drop ((q ∙ e) i) out)

-- a guard on the first 4,096 bytes of an area leaves of it what a call has to leave
pub leaves : (area front rest : List ℕ) → 4096 ≤ length area → length front ≡ 4096 → rest ≡ drop 4096 area → cleared front ++ rest ≡ left area
leaves area front rest h l r =
    let kept : drop 4096 (front ++ drop 4096 area) ≡ drop 4096 area =
    ap (λ (n : ℕ). drop n (front ++ drop 4096 area)) (sym l) ∙ drop-append_seam front (drop 4096 area) in
    ap (λ (x : List ℕ). cleared front ++ x) r
    ∙ append_assoc (replicate 4096 0) (drop 4096 front) (drop 4096 area)
    ∙ ap (λ (x : List ℕ). replicate 4096 0 ++ (x ++ drop 4096 area)) (drop_all 4096 front (omega arith))
    ∙ ap (λ (x : List ℕ). replicate 4096 0 ++ x) (sym kept)
    ∙ guards_leave area (front ++ drop 4096 area) h kept
