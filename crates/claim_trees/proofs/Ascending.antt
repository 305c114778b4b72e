-- The claims of a sorted tree ascend as they are written.
use Rattle.std.proofs.Common.{◌≡◌, true, List, [], ◌∷◌, ◌++◌, map, Ordering, sym, refl, ap, ◌∙◌, subst, inl, inr}
use Rattle.std.specs.Ordering.{is_lt, ordering_then}
use Rattle.std.proofs.lemmas.Bool.{and_parts, and_from}
use Rattle.format.specs.Operations.{Op}
use Rattle.format.specs.Attestations.{Att}
use Rattle.format.specs.Nodes.{Claim, claim, under}
use Rattle.claim_trees.specs.Tree.{Tree, end, more, here, through, claims, In, Apart, Claims}
use Rattle.claim_trees.specs.Order.{op_order, att_order, path_order, claim_order, ahead, rising, ascends, before, sorted, StrictTotal, OrderLaw}
use Rattle.claim_trees.proofs.Orders.{ops, atts, claims_ordered, is_less, less_itself}
use Rattle.claim_trees.proofs.Kept.{parts}
use Rattle.claim_trees.proofs.Listing.{listed}
use Rattle.claim_trees.proofs.Unique.{after, beyond}

module _ {A : Type 0} (p : A → A → Ordering) where
  ahead_all : (x : A) (ys : List A) → ((y : A) → In y ys → is_lt (p x y) ≡ true) → ahead p x ys ≡ true
  ahead_all x [] f = refl
  ahead_all x (y ∷ ys) f = f y (inl refl)

  ahead_append : (x : A) (xs ys : List A) → ahead p x xs ≡ true → ahead p x ys ≡ true → ahead p x (xs ++ ys) ≡ true
  ahead_append x [] ys h k = k
  ahead_append x (y ∷ xs) ys h k = h

  rising_append : (xs ys : List A) → rising p xs ≡ true → rising p ys ≡ true → ((x y : A) → In x xs → In y ys → is_lt (p x y) ≡ true) → rising p (xs ++ ys) ≡ true
  rising_append [] ys h k f = k
  rising_append (x ∷ xs) ys h k f =
      let q = and_parts (ahead p x xs) (rising p xs) h in
      and_from _ _ (ahead_append x xs ys q.0 (ahead_all x ys (λ y i. f x y (inl refl) i))) (rising_append xs ys q.1 k (λ x y i j. f x y (inr i) j))

here_rising : (m : List Att) → ascends m ≡ true → rising claim_order (map here m) ≡ true
here_rising [] h = refl
here_rising (a ∷ []) h = refl
here_rising (a ∷ (b ∷ m)) h = let q = and_parts (is_lt (att_order a b)) (ascends (b ∷ m)) h in and_from _ _ q.0 (here_rising (b ∷ m) q.1)

under_same : (o : Op) (c d : Claim) → claim_order (under o c) (under o d) ≡ claim_order c d
under_same o c d = ap (λ r. ordering_then (ordering_then r (path_order c.path d.path)) (att_order c.attestation d.attestation)) (ops.itself o)

under_rising : (o : Op) (cs : List Claim) → rising claim_order cs ≡ true → rising claim_order (map (under o) cs) ≡ true
under_rising o [] h = refl
under_rising o (c ∷ []) h = refl
under_rising o (c ∷ (d ∷ cs)) h =
    let q = and_parts (is_lt (claim_order c d)) (rising claim_order (d ∷ cs)) h in
    and_from _ _ (ap is_lt (under_same o c d) ∙ q.0) (under_rising o (d ∷ cs) q.1)

-- through a later operation
later : (o : Op) (c : Claim) (q : Op) (os : List Op) (b : Att) → is_lt (op_order o q) ≡ true → is_lt (claim_order (under o c) (claim (q ∷ os) b)) ≡ true
later o c q os b h = ap (λ r. is_lt (ordering_then (ordering_then r (path_order c.path os)) (att_order c.attestation b))) (is_less _ h)

-- attestations before branches
before_through : (a : Att) (t : Tree) (os : List Op) (b : Att) → In (claim os b) (through t) → is_lt (claim_order (here a) (claim os b)) ≡ true
before_through a t [] b i = absurd ((listed [] b [] t).0 i)
before_through a t (q ∷ os) b i = refl

here_is : (m : List Att) (c : Claim) → In c (map here m) → (a : Att) × (c ≡ here a)
here_is [] c i = absurd i
here_is (a ∷ m) c (inl e) = (a, e)
here_is (a ∷ m) c (inr i) = here_is m c i

under_is : (o : Op) (cs : List Claim) (c : Claim) → In c (map (under o) cs) → (d : Claim) × (c ≡ under o d)
under_is o [] c i = absurd i
under_is o (d ∷ cs) c (inl e) = (d, e)
under_is o (d ∷ cs) c (inr i) = under_is o cs c i

behind : (o : Op) (t : Tree) (c : Claim) (os : List Op) (b : Att) → before o t ≡ true → sorted t ≡ true → In (claim os b) (through t) → is_lt (claim_order (under o c) (claim os b)) ≡ true
behind o t c [] b h s i = absurd ((listed [] b [] t).0 i)
behind o t c (q ∷ os) b h s i = later o c q os b (beyond o t h s q (Claims os b) ((listed (q ∷ os) b [] t).0 i))

node_rising : (m : List Att) (t : Tree) → ascends m ≡ true → rising claim_order (through t) ≡ true → rising claim_order (claims m t) ≡ true
node_rising m t h k = rising_append claim_order (map here m) (through t) (here_rising m h) k (λ x y i j.
    let e = here_is m x i in subst (λ z. is_lt (claim_order z y) ≡ true) (sym e.1) (before_through e.0 t y.path y.attestation j))

through_rising : (t : Tree) → sorted t ≡ true → rising claim_order (through t) ≡ true
unfolding through
through_rising end h = refl
through_rising (more o m b r) h =
    let w = parts o m b r h in
    rising_append claim_order (map (under o) (claims m b)) (through r)
    (under_rising o (claims m b) (node_rising m b w.marks (through_rising b w.below)))
    (through_rising r w.rest)
    (λ x y i j. let e = under_is o (claims m b) x i in
    subst (λ z. is_lt (claim_order z y) ≡ true) (sym e.1) (behind o r e.0 y.path y.attestation w.first w.rest j))

pub written_rising : (m : List Att) (t : Tree) → ascends m ≡ true → sorted t ≡ true → rising claim_order (claims m t) ≡ true
written_rising m t h k = node_rising m t h (through_rising t k)

-- a list that ascends has no repeats
rising_apart : {A : Type 0} {p : A → A → Ordering} (s : StrictTotal p) (xs : List A) → rising p xs ≡ true → Apart xs
rising_apart s [] h = tt
rising_apart {p = p} s (x ∷ xs) h =
    let q = and_parts (ahead p x xs) (rising p xs) h in
    ((λ i. less_itself s x (after s x xs q.0 q.1 x i)), rising_apart s xs q.1)

pub claims_apart : (m : List Att) (t : Tree) → ascends m ≡ true → sorted t ≡ true → Apart (claims m t)
claims_apart m t h k = rising_apart claims_ordered (claims m t) (written_rising m t h k)

pub order_law : OrderLaw
order_law = record { of_operations = ops; of_attestations = atts; of_claims = claims_ordered; written = written_rising; once = claims_apart }
