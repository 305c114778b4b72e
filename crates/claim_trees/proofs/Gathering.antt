-- How a tree comes to hold a list of claims, and that one tree does.
use Rattle.std.proofs.Common.{◌≡◌, ◌<◌, true, ◌⊎◌, List, [], ◌∷◌, ◌++◌, map, length, sym, refl, ap, subst, inl, inr, ⊎_elim, arith}
use Rattle.std.proofs.lemmas.List.{append-nil}
use Rattle.format.specs.Operations.{Op}
use Rattle.format.specs.Attestations.{Att}
use Rattle.format.specs.Nodes.{Claim, claim, under}
use Rattle.format.specs.FirstFault.{Iff}
use Rattle.claim_trees.specs.Tree.{Tree, end, more, Held, held, blank, here, through, claims, In, Alike, filled}
use Rattle.claim_trees.specs.Order.{ascends, sorted}
use Rattle.claim_trees.specs.Union.{unite, unify, union}
use Rattle.claim_trees.specs.Gathered.{line, gathered, Holds}
use Rattle.claim_trees.proofs.Listing.{in_left, in_right, in_either, listed}
use Rattle.claim_trees.proofs.Members.{union_claims}
use Rattle.claim_trees.proofs.Kept.{unite_ascends, unify_sorted, whole}
use Rattle.claim_trees.proofs.Unique.{unique}

-- ---- members of lists

pub in_map : {A B : Type 0} (f : A → B) (x : A) (xs : List A) → In x xs → In (f x) (map f xs)
in_map f x [] i = absurd i
in_map f x (y ∷ ys) (inl e) = inl (ap f e)
in_map f x (y ∷ ys) (inr i) = inr (in_map f x ys i)

pub map_in : {A B : Type 0} (f : A → B) (y : B) (xs : List A) → In y (map f xs) → (x : A) × (In x xs × (y ≡ f x))
map_in f y [] i = absurd i
map_in f y (x ∷ xs) (inl e) = (x, (inl refl, e))
map_in f y (x ∷ xs) (inr i) = let h = map_in f y xs i in (h.0, (inr h.1.0, h.1.1))

pub alike_map : {A B : Type 0} (f : A → B) (xs ys : List A) → Alike xs ys → Alike (map f xs) (map f ys)
alike_map f xs ys h z = (
  (λ i. let e = map_in f z xs i in subst (λ w. In w (map f ys)) (sym e.1.1) (in_map f e.0 ys ((h e.0).0 e.1.0))),
  (λ i. let e = map_in f z ys i in subst (λ w. In w (map f xs)) (sym e.1.1) (in_map f e.0 xs ((h e.0).1 e.1.0))),
)

pub alike_same : {A : Type 0} (xs : List A) → Alike xs xs
alike_same xs x = ((λ i. i), (λ i. i))

pub alike_back : {A : Type 0} (xs ys : List A) → Alike xs ys → Alike ys xs
alike_back xs ys h x = ((h x).1, (h x).0)

pub alike_trans : {A : Type 0} (xs ys zs : List A) → Alike xs ys → Alike ys zs → Alike xs zs
alike_trans xs ys zs h k x = ((λ i. (k x).0 ((h x).0 i)), (λ i. (h x).1 ((k x).1 i)))

-- ---- the union, by its claims

pub union_in : (c : Claim) (x y : Held)
    → Iff (In c (claims (union x y).marks (union x y).branches)) (In c (claims x.marks x.branches) ⊎ In c (claims y.marks y.branches))
union_in c x y =
    let l = listed c.path c.attestation (unite x.marks y.marks) (unify x.branches y.branches) in
    let a = listed c.path c.attestation x.marks x.branches in
    let b = listed c.path c.attestation y.marks y.branches in
    let u = union_claims c.path c.attestation x.marks x.branches y.marks y.branches in (
      (λ i. ⊎_elim (λ j. inl (a.1 j)) (λ j. inr (b.1 j)) (u.0 (l.0 i))),
      (λ i. l.1 (u.1 (⊎_elim (λ j. inl (a.0 j)) (λ j. inr (b.0 j)) i))),
    )

-- trees with the same claims are the same
pub same_tree : (x y : Held) → ascends x.marks ≡ true → ascends y.marks ≡ true → sorted x.branches ≡ true → sorted y.branches ≡ true
    → Alike (claims x.marks x.branches) (claims y.marks y.branches) → x ≡ y
same_tree x y h k p q s =
    let e = unique x.marks y.marks x.branches y.branches h k p q (λ os a.
    let l = listed os a x.marks x.branches in
    let r = listed os a y.marks y.branches in
    ((λ i. r.0 ((s (claim os a)).0 (l.1 i))), (λ i. l.0 ((s (claim os a)).1 (r.1 i))))) in
    λ i. held (e.0 i) (e.1 i)

-- ---- what holds which claims

pub holds_blank : Holds blank []
unfolding through
holds_blank = record { marks = refl; branches = refl; claims = alike_same [] }

pub holds_mark : (a : Att) → Holds (held (a ∷ []) end) (here a ∷ [])
unfolding through
holds_mark a = record { marks = refl; branches = refl; claims = alike_same (here a ∷ []) }

-- a node with a claim is not empty
pub filled_from : (m : List Att) (t : Tree) (cs : List Claim) → 0 < length cs → Alike (claims m t) cs → filled m t ≡ true
unfolding through
filled_from m t [] l h = absurd (omega arith)
filled_from (a ∷ m) t (c ∷ cs) l h = refl
filled_from [] (more o m b r) (c ∷ cs) l h = refl
filled_from [] end (c ∷ cs) l h = absurd ((h c).1 (inl refl))

pub holds_branch : (o : Op) (x : Held) (cs : List Claim) → 0 < length cs → Holds x cs → Holds (held [] (more o x.marks x.branches end)) (map (under o) cs)
unfolding through
holds_branch o x cs l h = record {
  marks = refl;
  branches = whole o x.marks x.branches end (record {
    first = refl;
    marks = h.marks;
    some = filled_from x.marks x.branches cs l h.claims;
    below = h.branches;
    rest = refl;
  });
  claims = subst (λ z. Alike z (map (under o) cs)) (sym (append-nil (map (under o) (claims x.marks x.branches))))
      (alike_map (under o) (claims x.marks x.branches) cs h.claims);
}

pub holds_union : (x y : Held) (cs ds : List Claim) → Holds x cs → Holds y ds → Holds (union x y) (cs ++ ds)
holds_union x y cs ds h k = record {
  marks = unite_ascends x.marks y.marks h.marks k.marks;
  branches = unify_sorted x.branches y.branches h.branches k.branches;
  claims = λ c. let u = union_in c x y in (
    (λ i. ⊎_elim (λ j. in_left c cs ds ((h.claims c).0 j)) (λ j. in_right c cs ds ((k.claims c).0 j)) (u.0 i)),
    (λ i. u.1 (⊎_elim (λ j. inl ((h.claims c).1 j)) (λ j. inr ((k.claims c).1 j)) (in_either c cs ds i))),
  );
}

-- the same claims in another order, or some of them again
pub holds_alike : (x : Held) (cs ds : List Claim) → Alike cs ds → Holds x cs → Holds x ds
holds_alike x cs ds e h = record { marks = h.marks; branches = h.branches; claims = alike_trans (claims x.marks x.branches) cs ds h.claims e }

pub holds_own : (m : List Att) (t : Tree) → ascends m ≡ true → sorted t ≡ true → Holds (held m t) (claims m t)
holds_own m t h k = record { marks = h; branches = k; claims = alike_same (claims m t) }

-- ---- the one tree

line_holds : (os : List Op) (a : Att) → Holds (line os a) (claim os a ∷ [])
unfolding line
line_holds [] a = holds_mark a
line_holds (o ∷ os) a = holds_branch o (line os a) (claim os a ∷ []) (let g : ◌<◌ 0 1 = omega arith in g) (line_holds os a)

pub gathered_holds : (cs : List Claim) → Holds (gathered cs) cs
unfolding gathered
gathered_holds [] = holds_blank
gathered_holds (c ∷ cs) = holds_union (line c.path c.attestation) (gathered cs) (c ∷ []) cs (line_holds c.path c.attestation) (gathered_holds cs)

pub holds_one : (x : Held) (cs : List Claim) → Holds x cs → x ≡ gathered cs
holds_one x cs h =
    let k = gathered_holds cs in
    same_tree x (gathered cs) h.marks k.marks h.branches k.branches
    (alike_trans (claims x.marks x.branches) cs (claims (gathered cs).marks (gathered cs).branches) h.claims
    (alike_back (claims (gathered cs).marks (gathered cs).branches) cs k.claims))

pub gathered_alike : (cs ds : List Claim) → Alike cs ds → gathered cs ≡ gathered ds
gathered_alike cs ds e = holds_one (gathered cs) ds (holds_alike (gathered cs) cs ds e (gathered_holds cs))

-- a union gathers both lists
pub gathered_append : (cs ds : List Claim) → union (gathered cs) (gathered ds) ≡ gathered (cs ++ ds)
gathered_append cs ds = holds_one (union (gathered cs) (gathered ds)) (cs ++ ds) (holds_union (gathered cs) (gathered ds) cs ds (gathered_holds cs) (gathered_holds ds))
