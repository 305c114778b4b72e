-- The place of a claim in written order.
use Rattle.std.proofs.Common.{◌≡◌, ℕ, zero, suc, ◌+◌, ◌-◌, ◌<◌, ◌≤◌, Bool, true, List, [], ◌∷◌, ◌++◌, map, length, Some, None, Option, sym, refl, ap, ◌∙◌, arith}
use Rattle.std.specs.List.{slice_get}
use Rattle.std.proofs.lemmas.List.{length-map, length-append}
use Rattle.std.proofs.lemmas.Bool.{and_parts}
use Rattle.format.specs.Operations.{Op, op_of, sha256, append, prepend, reverse, hexlify}
use Rattle.format.specs.Attestations.{Att}
use Rattle.format.specs.Nodes.{Claim, under}
use Rattle.claim_trees.specs.Lawful.{every}
use Rattle.claim_trees.specs.Order.{kind_of_op, argument_of}
use Rattle.claim_trees.specs.Size.{atts_in}
use Rattle.claim_trees.specs.Tree.{Tree, end, more, here, through, claims}
use Rattle.replay.specs.Messages.{apply, replay}
use Rattle.judge.specs.Meaning.{Meaning}
use Rattle.runs.specs.Reports.{row_on, verdict_on}
use Rattle.rows.specs.Places.{Found, shown, row_in}

-- ---- at a place of a list

module _ {A : Type 0} where
  nth_left : (xs ys : List A) (k : ℕ) → k < length xs → slice_get (xs ++ ys) k ≡ slice_get xs k
  nth_left [] ys k h = absurd (omega arith)
  nth_left (x ∷ xs) ys zero h = refl
  nth_left (x ∷ xs) ys (suc k) h = nth_left xs ys k (omega arith)

  nth_right : (xs ys : List A) (k : ℕ) → length xs ≤ k → slice_get (xs ++ ys) k ≡ slice_get ys (k - length xs)
  nth_right [] ys k h = ap (slice_get ys) (let e : k ≡ k - 0 = omega arith in e)
  nth_right (x ∷ xs) ys zero h = absurd (omega arith)
  nth_right (x ∷ xs) ys (suc k) h =
      nth_right xs ys k (omega arith) ∙ ap (slice_get ys) (let e : k - length xs ≡ suc k - suc (length xs) = omega arith in e)

  pub nth_some : (xs : List A) (k : ℕ) (x : A) → Some x ≡ slice_get xs k → k < length xs
  nth_some [] k x e = absurd (let z : ◌≡◌ {A = ℕ} 0 1 = cc in omega arith)
  nth_some (y ∷ xs) zero x e = omega arith
  nth_some (y ∷ xs) (suc k) x e = let h = nth_some xs k x e in omega arith

  pub nth_none : (xs : List A) (k : ℕ) → None ≡ slice_get xs k → length xs ≤ k
  nth_none [] k e = omega arith
  nth_none (y ∷ xs) zero e = absurd (let z : ◌≡◌ {A = ℕ} 0 1 = cc in omega arith)
  nth_none (y ∷ xs) (suc k) e = let h = nth_none xs k e in omega arith

  pub nth_next : (x : A) (xs ys : List A) (k j : ℕ) → ys ≡ x ∷ xs → k ≡ suc j → slice_get xs j ≡ slice_get ys k
  nth_next x xs ys k j e d = sym (ap (λ z. slice_get z k) e ∙ ap (slice_get (x ∷ xs)) d)

  pub nth_every : (f : A → Bool) (xs : List A) (k : ℕ) (x : A) → every f xs ≡ true → Some x ≡ slice_get xs k → f x ≡ true
  nth_every f [] k x h e = absurd (let z : ◌≡◌ {A = ℕ} 0 1 = cc in omega arith)
  nth_every f (y ∷ xs) zero x h e = ap f (let d : x ≡ y = cc in d) ∙ (and_parts (f y) (every f xs) h).0
  nth_every f (y ∷ xs) (suc k) x h e = nth_every f xs k x (and_parts (f y) (every f xs) h).1 e

-- ---- attestations

nth_here : (m : List Att) (k : ℕ) (a : Att) → Some a ≡ slice_get m k → slice_get (map here m) k ≡ Some (here a)
nth_here [] k a e = absurd (let z : ◌≡◌ {A = ℕ} 0 1 = cc in omega arith)
nth_here (x ∷ m) zero a e = ap (λ z. Some (here z)) (let d : x ≡ a = cc in d)
nth_here (x ∷ m) (suc k) a e = nth_here m k a e

in_marks : (m : List Att) (t : Tree) (k : ℕ) (a : Att) → Some a ≡ slice_get m k → slice_get (claims m t) k ≡ Some (here a)
in_marks m t k a e = nth_left (map here m) (through t) k (omega (arith, nth_some m k a e, length-map m here)) ∙ nth_here m k a e

pub past_marks : (m : List Att) (t : Tree) (k n : ℕ) → None ≡ slice_get m k → n ≡ length m → slice_get (through t) (k - n) ≡ slice_get (claims m t) k
past_marks m t k n e d =
    let l = length-map m here in
    sym (nth_right (map here m) (through t) k (omega (arith, nth_none m k e)) ∙ ap (slice_get (through t)) (let z : k - length (map here m) ≡ k - n = omega arith in z))

pub shown_mark : (done : ℕ) (message : List ℕ) (m : List Att) (t : Tree) (k : ℕ) (a : Att) → Some a ≡ slice_get m k
    → ◌≡◌ {A = Option Found} (Some (record { attestation = a; operations = done; message = message })) (shown done message (slice_get (claims m t) k))
unfolding replay
shown_mark done message m t k a e =
    ap (λ n. Some (record { attestation = a; operations = n; message = message })) (let z : done ≡ done + 0 = omega arith in z)
    ∙ sym (ap (shown done message) (in_marks m t k a e))

-- ---- branches

through_length : (t : Tree) → length (through t) ≡ atts_in t
unfolding through
through_length end = refl
through_length (more o m b r) =
    let h = through_length b in let k = through_length r in
    omega (arith, length-append (map (under o) (claims m b)) (through r), length-map (claims m b) (under o), length-append (map here m) (through b), length-map m here)

pub claims_length : (m : List Att) (t : Tree) → length (claims m t) ≡ length m + atts_in t
claims_length m t = omega (arith, length-append (map here m) (through t), length-map m here, through_length t)

shown_under : (o : Op) (done : ℕ) (message : List ℕ) (cs : List Claim) (k : ℕ)
    → shown done message (slice_get (map (under o) cs) k) ≡ shown (done + 1) (apply o message) (slice_get cs k)
unfolding replay
shown_under o done message [] k = refl
shown_under o done message (c ∷ cs) zero =
    ap (λ n. Some (record { attestation = c.attestation; operations = n; message = replay c.path (apply o message) }))
    (let e : done + suc (length c.path) ≡ done + 1 + length c.path = omega arith in e)
shown_under o done message (c ∷ cs) (suc k) = shown_under o done message cs k

module _ (t : Tree) (o : Op) (m : List Att) (b r : Tree) (k n : ℕ) (e : t ≡ more o m b r) (is : n ≡ length m + atts_in b) where
  long : length (map (under o) (claims m b)) ≡ n
  long = length-map (claims m b) (under o) ∙ claims_length m b ∙ sym is

  -- in the branch, below its operation
  pub entered : (done : ℕ) (message : List ℕ) → k < n
      → shown (done + 1) (apply o message) (slice_get (claims m b) k) ≡ shown done message (slice_get (through t) k)
  unfolding through
  entered done message h =
      sym (ap (shown done message) (nth_left (map (under o) (claims m b)) (through r) k (let l = long in omega arith)) ∙ shown_under o done message (claims m b) k)
      ∙ ap (λ z. shown done message (slice_get (through z) k)) (sym e)

  -- behind it
  pub passed : n ≤ k → slice_get (through r) (k - n) ≡ slice_get (through t) k
  unfolding through
  passed h =
      let l = long in
      ap (slice_get (through r)) (let z : k - n ≡ k - length (map (under o) (claims m b)) = omega arith in z)
      ∙ sym (nth_right (map (under o) (claims m b)) (through r) k (omega arith))
      ∙ ap (λ z. slice_get (through z) k) (sym e)

-- ---- rows

row_shown : (m : Meaning) (digest : List ℕ) (cs : List Claim) (k : ℕ) → row_in m (shown 0 digest (slice_get cs k)) ≡ slice_get (map (row_on m digest) cs) k
row_shown m digest [] k = refl
row_shown m digest (c ∷ cs) zero =
    ap (λ n. Some (record { tag = (row_on m digest c).tag; operations = n; verdict = verdict_on m digest c })) (let e : 0 + length c.path ≡ length c.path = omega arith in e)
row_shown m digest (c ∷ cs) (suc k) = row_shown m digest cs k

-- what a walk from the digest found
pub row_found : (m : Meaning) (digest message : List ℕ) (cs : List Claim) (k : ℕ) (s : Option Found)
    → s ≡ shown 0 message (slice_get cs k) → message ≡ digest → row_in m s ≡ slice_get (map (row_on m digest) cs) k
row_found m digest message cs k s e d = ap (row_in m) (e ∙ ap (λ z. shown 0 z (slice_get cs k)) d) ∙ row_shown m digest cs k

-- ---- operations

-- an operation is its kind with its argument
pub parted : (o : Op) → op_of (kind_of_op o) (argument_of o) ≡ o
parted sha256 = refl
parted (append argument) = refl
parted (prepend argument) = refl
parted reverse = refl
parted hexlify = refl
