-- A path step by step: the sizes of the messages on the way, and the messages.
use Rattle.std.proofs.Common.{◌≡◌, ℕ, ◌+◌, ◌<◌, ◌≤◌, Bool, true, false, cond, ◌&&◌, leb, List, [], ◌∷◌, length, get_or, drop, Some, None, Option, Bor, Iter, MatchOption, subst, sym, refl, ap, ◌∙◌, arith}
use Rattle.std.proofs.lemmas.List.{at_drop_more, at_drop_all, nil_from_length}
use Rattle.std.proofs.lemmas.Bool.{leb-true, leb-false, le-leb, lt-leb, and_left, and_parts}
use Rattle.format.specs.declared.Kind.TheVariants.{Sha256}
use Rattle.format.specs.Operations.{op_of, result_size}
use Rattle.std.specs.Fn.{Mut, Called}
use Rattle.std.specs.List.{FoldsTo}
use Rattle.std.specs.Iterator.{Yields, TryFoldTurn, TryFoldsItems}
use Rattle.std.specs.Option.{is_some}
use Rattle.std.specs.ControlFlow.{continue_value}
use Rattle.std.specs.declared.ops.ControlFlow.{ControlFlow}
use Rattle.std.proofs.iter.Yields.{fronts}
use Rattle.replay.specs.declared.link.Link.{Link}
use Rattle.replay.specs.Messages.{apply, fits, replay}
use Rattle.replay.specs.Paths.{ops}
use Rattle.replay.proofs.Sizes.{sizes_are_lengths}

-- the size of the result of a link on n bytes
abbrev pub grown : Link → ℕ → ℕ
grown l n = result_size l.kind n (length l.argument.now)

-- what a link makes of a message
abbrev pub made : Link → List ℕ → List ℕ
made l m = apply (op_of l.kind l.argument.now) m

made_length : (l : Link) (m : List ℕ) → length (made l m) ≡ grown l (length m)
made_length l m = sizes_are_lengths l.kind l.argument.now m

-- whether messages fit, told by sizes alone
abbrev pub sized : List Link → ℕ → Bool
sized [] n = leb n 4096
sized (l ∷ path) n = leb n 4096 && sized path (grown l n)

pub fits_sized : (path : List Link) (m : List ℕ) → fits (ops path) m ≡ sized path (length m)
unfolding fits ops
fits_sized [] m = refl
fits_sized (l ∷ path) m = ap (λ b. leb (length m) 4096 && b) (fits_sized path (made l m) ∙ ap (sized path) (made_length l m))

-- a message that is too long fits on no path
pub sized_long : (path : List Link) (n : ℕ) → 4096 < n → sized path n ≡ false
sized_long [] n h = lt-leb n 4096 h
sized_long (l ∷ path) n h = and_left (leb n 4096) (sized path (grown l n)) (lt-leb n 4096 h)

-- what stands past the end of a path, as the checker reads it
abbrev pub no_link : Link
no_link = record { kind = Sha256; argument = record { ref_ptr = (0, 0); now = [] } }

-- the link at a place of a path
abbrev pub link_at : List Link → ℕ → Link
link_at path i = get_or path i no_link

-- what an answer of the next size tells
pub some_size : (b : Bool) (g n : ℕ) → Some n ≡ cond b (Some g) None → (b ≡ true) × (n ≡ g)
some_size true g n e = (refl, cc)
some_size false g n e = let z : ◌≡◌ {A = ℕ} 0 1 = cc in absurd (omega arith)

pub no_size : (b : Bool) (g : ℕ) → ◌≡◌ {A = Option ℕ} None (cond b (Some g) None) → b ≡ false
no_size true g e = let z : ◌≡◌ {A = ℕ} 0 1 = cc in absurd (omega arith)
no_size false g e = refl

-- sizes reckoned link by link, by calls that change nothing: where a call answers none, the fold stops with none
module _ {F : Type 0} (E : Type 0) (g : Mut F (ℕ × (Bor Link × Unit {0})) (Option ℕ)) (f : F)
    (is : (n : ℕ) (l : Bor Link) (r : Option ℕ) (q : F) → Called g f (n, (l, tt)) r q → (r ≡ cond (leb (grown l.now n) 4096) (Some (grown l.now n)) None) × (q ≡ f)) where
  -- the turns that go on
  sized_turns : (xs : List (Bor Link)) (s t : Iter Link) (n m : ℕ) (q : F) → n ≤ 4096 → Yields fronts s xs t → FoldsTo {P = F × ℕ} (TryFoldTurn {E = E} g (λ v b. v ≡ continue_value b)) (f, n) xs (q, m) → (q ≡ f) × (m ≤ 4096) × (sized s.rest.now n ≡ sized t.rest.now m)
  sized_turns [] s t n m q h e p =
      let k : n ≡ m = ap (λ (u : F × ℕ). u.1) p in
      (sym (ap (λ (u : F × ℕ). u.0) p), omega arith, ap (λ (u : Iter Link). sized u.rest.now n) e ∙ ap (sized t.rest.now) k)
  sized_turns (x ∷ xs) s t n m q h (j, step, more) (w, (v, called, on), rest) =
      let a = is n x v w.0 called in
      let b = some_size (leb (grown x.now n) 4096) (grown x.now n) w.1 (sym on ∙ a.0) in
      let low : w.1 ≤ 4096 = omega (arith, b.1, leb-true (grown x.now n) 4096 b.0) in
      let then = sized_turns xs j t w.1 m q low more (subst (λ u. FoldsTo {P = F × ℕ} (TryFoldTurn {E = E} g (λ v b. v ≡ continue_value b)) (u, w.1) xs (q, m)) a.1 rest) in
      (then.0, then.1, ap (λ p. sized p n) step ∙ ap (λ b. b && sized j.rest.now (grown x.now n)) (le-leb n 4096 h) ∙ ap (sized j.rest.now) (sym b.1) ∙ then.2)

  -- the end of the path, or the link that goes over the limit
  sized_end : (o : Option (Bor Link)) (t u : Iter Link) (m : ℕ) (r : Option ℕ) → m ≤ 4096 → fronts t o u → MatchOption o (r ≡ Some m) (λ x. (v : Option ℕ) × (h : F) × (e : E) × Called g f (m, (x, tt)) v h × (v ≡ None) × (r ≡ None)) → is_some r ≡ sized t.rest.now m
  sized_end None t u m r h s e = ap is_some e ∙ sym (ap (λ p. sized p m) (nil_from_length t.rest.now s.0) ∙ le-leb m 4096 h)
  sized_end (Some x) t u m r h s (v, w, e, called, off, over) =
      let a = is m x v w called in
      let b = leb-false (grown x.now m) 4096 (no_size (leb (grown x.now m) 4096) (grown x.now m) (sym off ∙ a.0)) in
      ap is_some over
      ∙ sym (ap (λ p. sized p m) s ∙ ap (λ b. b && sized u.rest.now (grown x.now m)) (le-leb m 4096 h) ∙ sized_long u.rest.now (grown x.now m) b)

  pub sized_fold : (s u : Iter Link) (n : ℕ) (r : Option ℕ) → n ≤ 4096 → TryFoldsItems fronts g (λ v (b : ControlFlow E ℕ). v ≡ continue_value b) (λ (e : E) v. v ≡ None) s f n r u → is_some r ≡ sized s.rest.now n
  sized_fold s u n r h (xs, o, q, m, (t, yields, last), turns, end) =
      let k = sized_turns xs s t n m q h yields turns in
      sized_end o t u m r k.1 last (subst (λ p. MatchOption o (r ≡ Some m) (λ x. (v : Option ℕ) × (w : F) × (e : E) × Called g p (m, (x, tt)) v w × (v ≡ None) × (r ≡ None))) k.0 end)
      ∙ sym k.2

pub fits_length : (path : List Link) (m : List ℕ) → fits (ops path) m ≡ true → length m ≤ 4096
unfolding fits ops
fits_length [] m e = leb-true (length m) 4096 e
fits_length (l ∷ path) m e = leb-true (length m) 4096 (and_parts (leb (length m) 4096) (fits (ops path) (made l m)) e).0

pub fits_more : (path : List Link) (i : ℕ) (m : List ℕ) → i < length path → fits (ops (drop i path)) m ≡ true → fits (ops (drop (i + 1) path)) (made (link_at path i) m) ≡ true
unfolding fits ops
fits_more path i m h e =
    let l = link_at path i in
    let rest = drop (i + 1) path in
    (and_parts (leb (length m) 4096) (fits (ops rest) (made l m)) (sym (at_drop_more (λ t. fits (ops t) m) path i no_link h) ∙ e)).1

pub grown_more : (path : List Link) (i : ℕ) (m : List ℕ) (n : ℕ) → i < length path → length m ≡ n → fits (ops (drop i path)) m ≡ true → grown (link_at path i) n ≤ 4096
grown_more path i m n h long e =
    let l = link_at path i in
    let s = fits_length (drop (i + 1) path) (made l m) (fits_more path i m h e) in
    let same : length (made l m) ≡ grown l n = made_length l m ∙ ap (grown l) long in
    omega arith

pub replay_more : (path : List Link) (i : ℕ) (m : List ℕ) → i < length path → replay (ops (drop i path)) m ≡ replay (ops (drop (i + 1) path)) (made (link_at path i) m)
unfolding replay ops
replay_more path i m h = at_drop_more (λ t. replay (ops t) m) path i no_link h

pub replay_end : (path : List Link) (i : ℕ) (m : List ℕ) → length path ≤ i → replay (ops (drop i path)) m ≡ m
unfolding replay ops
replay_end path i m h = at_drop_all (λ t. replay (ops t) m) path i h
