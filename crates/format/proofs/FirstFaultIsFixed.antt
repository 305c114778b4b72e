-- The fault of a file is the first that its bytes show.
use Rattle.std.proofs.Common.{◌≡◌, ℕ, ◌<◌, ◌≤◌, List, length, take, sym, refl, ap, ◌∙◌, subst, ⊎_elim, le_refl, arith}
use Rattle.std.proofs.lemmas.Bool.{le-leb, lt-leb, eq-eqb, ne_eqb, cond-true, cond-false, cases_lt, cases_eq}
use Rattle.std.proofs.lemmas.List.{take-take, length-take-le}
use Rattle.format.specs.Outcome.{Outcome, got, fault, then}
use Rattle.format.specs.Files.{Said, file_limit, top_at, end_at, file_at}
use Rattle.format.specs.FirstFault.{Settled, FirstFaultLaw}
use Rattle.format.proofs.Prompt.{Kept, Short, Shown, PromptBy, prompt_top}

-- a file is too long, or read by its head and top node
file_long : (file : List ℕ) → file_limit < length file → file_at file ≡ fault 1 file_limit
unfolding file_at
file_long file l = cond-false _ _ _ (lt-leb (length file) file_limit l)

file_fits : (file : List ℕ) → length file ≤ file_limit → file_at file ≡ then (top_at file) (end_at file)
unfolding file_at
file_fits file l = cond-true _ _ _ (le-leb (length file) file_limit l)

file_faults : (file : List ℕ) (c o : ℕ) → length file ≤ file_limit → top_at file ≡ fault c o → file_at file ≡ fault c o
file_faults file c o l e = file_fits file l ∙ ap (λ z. then z (end_at file)) e

file_ends : (file : List ℕ) (s : Said) (m : ℕ) → length file ≤ file_limit → top_at file ≡ got s m → m ≡ length file → file_at file ≡ got s m
file_ends file s m l e h = file_fits file l ∙ (ap (λ z. then z (end_at file)) e ∙ cond-true _ _ _ (eq-eqb m (length file) h))

file_follows : (file : List ℕ) (s : Said) (m : ℕ) → length file ≤ file_limit → top_at file ≡ got s m → (m ≡ length file → ⊥) → file_at file ≡ fault 12 m
file_follows file s m l e h = file_fits file l ∙ (ap (λ z. then z (end_at file)) e ∙ cond-false _ _ _ (ne_eqb m (length file) h))

-- the ways a file is read
data Way (file : List ℕ) : Type 0 where
  long : file_limit < length file → file_at file ≡ fault 1 file_limit → Way file
  short : length file ≤ file_limit → (o : ℕ) → file_at file ≡ fault 2 o → Short top_at 0 file o → Way file
  shown : length file ≤ file_limit → (c o : ℕ) → top_at file ≡ fault c o → file_at file ≡ fault c o → Shown top_at 0 file c → Way file
  follows : length file ≤ file_limit → (s : Said) (m : ℕ) → top_at file ≡ got s m → file_at file ≡ fault 12 m → m < length file → Kept top_at 0 file m → Way file
  ends : length file ≤ file_limit → (s : Said) (m : ℕ) → top_at file ≡ got s m → file_at file ≡ got s m → Kept top_at 0 file m → Way file

way_of : (file : List ℕ) (o : Outcome Said) → top_at file ≡ o → length file ≤ file_limit → PromptBy o top_at 0 file → Way file
way_of file (got s m) e l p = ⊎_elim
    (λ h. ends l s m e (file_ends file s m l e h) p)
    (λ h. follows l s m e (file_follows file s m l e h) (let w = p.within in ⊎_elim (λ u. u) (λ u. absurd (h (omega arith))) (cases_lt m (length file))) p)
    (cases_eq m (length file))
way_of file (fault c o) e l p = ⊎_elim
    (λ s. short l o (file_faults file c o l e ∙ ap (λ i. fault i o) s.0) s.1)
    (λ s. shown l c o e (file_faults file c o l e) s) p

way : (file : List ℕ) → Way file
way file = ⊎_elim (λ l. long l (file_long file l)) (λ l. way_of file (top_at file) refl l (prompt_top file)) (cases_lt file_limit (length file))

-- two faults at once
same_fault : (o : Outcome Said) (c d i j : ℕ) → o ≡ fault c i → o ≡ fault d j → (c ≡ d) × (i ≡ j)
same_fault o c d i j p q = ((cc), (cc))

no_got : (o : Outcome Said) (s : Said) (c i j : ℕ) → o ≡ fault c i → o ≡ got s j → ⊥
no_got o s c i j p q = let z : ◌≡◌ {A = ℕ} 0 1 = cc in omega arith

-- a front of a file that fits
front_fits : (file : List ℕ) (k : ℕ) → length file ≤ file_limit → k ≤ length file → length (take k file) ≤ file_limit
front_fits file k l h = let e = length-take-le k file h in omega arith

settled : (file : List ℕ) (n o : ℕ) → Way file → file_at file ≡ fault n o → (n ≡ 1 → ⊥) → (n ≡ 2 → ⊥) → (n ≡ 12 → ⊥) → (m : ℕ) × Settled file n o m
settled file n o (long l f) e a b c = absurd (a (same_fault (file_at file) n 1 o file_limit e f).0)
settled file n o (short l i f s) e a b c = absurd (b (same_fault (file_at file) n 2 o i e f).0)
settled file n o (shown l d i t f s) e a b c =
    let q = same_fault (file_at file) d n i o f e in
    let k = s.kept in
    let z : top_at file ≡ fault n o = t ∙ (ap (λ j. fault j i) q.0 ∙ ap (λ j. fault n j) q.1) in (
      s.m,
      record {
        within = k.within;
        fixed = λ other h g. file_faults other n o h (k.stable other g ∙ z);
        sooner = λ j h. let w = k.within in
            file_faults (take j file) 2 j (front_fits file j l (omega arith)) (k.cut j (omega arith) h);
      },
    )
settled file n o (follows l s m t f w k) e a b c = absurd (c (same_fault (file_at file) n 12 o m e f).0)
settled file n o (ends l s m t f k) e a b c = absurd (no_got (file_at file) s n o m e f)

early : (file : List ℕ) (o : ℕ) → Way file → file_at file ≡ fault 2 o
    → (o ≡ length file) × ((k : ℕ) → k ≤ length file → file_at (take k file) ≡ fault 2 k)
early file o (long l f) e = absurd (let q = (same_fault (file_at file) 2 1 o file_limit e f).0 in omega arith)
early file o (short l i f s) e = (
  (same_fault (file_at file) 2 2 o i e f).1 ∙ s.ends,
  (λ k h. file_faults (take k file) 2 k (front_fits file k l h) (s.cut k (omega arith) h)),
)
early file o (shown l d i t f s) e = absurd (let q = (same_fault (file_at file) 2 d o i e f).0 in let u = s.above in omega arith)
early file o (follows l s m t f w k) e = absurd (let q = (same_fault (file_at file) 2 12 o m e f).0 in omega arith)
early file o (ends l s m t f k) e = absurd (no_got (file_at file) s 2 o m e f)

abbrev WholeBefore : List ℕ → ℕ → Type 0
WholeBefore file m = (length file ≤ file_limit) × (m < length file) × ((s : Said) × (file_at (take m file) ≡ got s m))

behind : (file : List ℕ) (n : ℕ) → Way file → file_at file ≡ fault 12 n → WholeBefore file n
behind file n (long l f) e = absurd (let q = (same_fault (file_at file) 12 1 n file_limit e f).0 in omega arith)
behind file n (short l i f s) e = absurd (let q = (same_fault (file_at file) 12 2 n i e f).0 in omega arith)
behind file n (shown l d i t f s) e = absurd (let q = (same_fault (file_at file) 12 d n i e f).0 in let u = s.below in omega arith)
behind file n (follows l s m t f w k) e =
    let q : m ≡ n = (same_fault (file_at file) 12 12 m n f e).1 in
    let g = k.within in
    let c = length-take-le m file g in
    subst (λ i. WholeBefore file i) q (
      l,
      w,
      (s, file_ends (take m file) s m (front_fits file m l g) (k.stable (take m file) (take-take m m file (le_refl m)) ∙ t) (sym c)),
    )
behind file n (ends l s m t f k) e = absurd (no_got (file_at file) s 12 n m e f)

-- a whole file, and bytes behind it
longer : (file : List ℕ) (m : ℕ) (s : Said) → length file ≤ file_limit → m < length file → Way (take m file) → file_at (take m file) ≡ got s m → file_at file ≡ fault 12 m
longer file m s l w (long h f) e = absurd (no_got (file_at (take m file)) s 1 file_limit m f e)
longer file m s l w (short h i f q) e = absurd (no_got (file_at (take m file)) s 2 i m f e)
longer file m s l w (shown h d i t f q) e = absurd (no_got (file_at (take m file)) s d i m f e)
longer file m s l w (follows h z i t f v k) e = absurd (no_got (file_at (take m file)) s 12 i m f e)
longer file m s l w (ends h z i t f k) e =
    let g : i ≡ m = cc in
    let u : take i file ≡ take i (take m file) = sym (take-take i m file (omega arith)) in
    file_follows file z m l (k.stable file u ∙ (t ∙ ap (λ j. got z j) g)) (λ q. omega arith)

over : (file : List ℕ) (o : ℕ) → Way file → file_at file ≡ fault 1 o → (file_limit < length file) × (o ≡ file_limit)
over file o (long l f) e = (l, (same_fault (file_at file) 1 1 o file_limit e f).1)
over file o (short l i f s) e = absurd (let q = (same_fault (file_at file) 1 2 o i e f).0 in omega arith)
over file o (shown l d i t f s) e = absurd (let q = (same_fault (file_at file) 1 d o i e f).0 in let u = s.above in omega arith)
over file o (follows l s m t f w k) e = absurd (let q = (same_fault (file_at file) 1 12 o m e f).0 in omega arith)
over file o (ends l s m t f k) e = absurd (no_got (file_at file) s 1 o m e f)

pub first_fault_is_fixed : FirstFaultLaw
first_fault_is_fixed = record {
  first_fault = λ file n o e a b c. settled file n o (way file) e a b c;
  ends_early = λ file o e. early file o (way file) e;
  follows = λ file m. ((λ e. behind file m (way file) e), (λ p. longer file m p.2.0 p.0 p.1 (way (take m file)) p.2.1));
  too_long = λ file o. ((λ e. over file o (way file) e), (λ p. file_long file p.0 ∙ ap (λ i. fault 1 i) (sym p.1)));
}
