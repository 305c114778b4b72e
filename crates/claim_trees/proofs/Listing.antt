-- The claims in written order are exactly those of the node.
use Rattle.std.proofs.Common.{◌≡◌, suc, ◌⊎◌, List, [], ◌∷◌, ◌++◌, map, length, ap, ◌∙◌, subst, inl, inr, ⊎_elim, arith}
use Rattle.format.specs.Operations.{Op}
use Rattle.format.specs.Attestations.{Att}
use Rattle.format.specs.Nodes.{Claim, claim, under}
use Rattle.format.specs.FirstFault.{Iff}
use Rattle.claim_trees.specs.Tree.{Tree, end, more, here, through, claims, In, Through, Claims, ClaimsAreListed}

pub in_left : {A : Type 0} (a : A) (xs ys : List A) → In a xs → In a (xs ++ ys)
in_left a [] ys i = elim i [ ]
in_left a (x ∷ xs) ys (inl e) = inl e
in_left a (x ∷ xs) ys (inr i) = inr (in_left a xs ys i)

pub in_right : {A : Type 0} (a : A) (xs ys : List A) → In a ys → In a (xs ++ ys)
in_right a [] ys i = i
in_right a (x ∷ xs) ys i = inr (in_right a xs ys i)

pub in_either : {A : Type 0} (a : A) (xs ys : List A) → In a (xs ++ ys) → In a xs ⊎ In a ys
in_either a [] ys i = inr i
in_either a (x ∷ xs) ys (inl e) = inl (inl e)
in_either a (x ∷ xs) ys (inr i) = ⊎_elim (λ j. inl (inr j)) (λ j. inr j) (in_either a xs ys i)

-- attestations of the node itself
pub here_in : (a : Att) (m : List Att) → In (claim [] a) (map here m) → In a m
here_in a [] i = elim i [ ]
here_in a (x ∷ m) (inl e) = inl (ap (λ c. c.attestation) e)
here_in a (x ∷ m) (inr i) = inr (here_in a m i)

pub in_here : (a : Att) (m : List Att) → In a m → In (claim [] a) (map here m)
in_here a [] i = elim i [ ]
in_here a (x ∷ m) (inl e) = inl (ap here e)
in_here a (x ∷ m) (inr i) = inr (in_here a m i)

pub not_here : (o : Op) (os : List Op) (a : Att) (m : List Att) → In (claim (o ∷ os) a) (map here m) → ⊥
not_here o os a [] i = elim i [ ]
not_here o os a (x ∷ m) (inl e) = let l : suc (length os) ≡ 0 = ap (λ c. length c.path) e in omega arith
not_here o os a (x ∷ m) (inr i) = not_here o os a m i

-- claims through an operation
pub not_under : (o : Op) (a : Att) (cs : List Claim) → In (claim [] a) (map (under o) cs) → ⊥
not_under o a [] i = elim i [ ]
not_under o a (c ∷ cs) (inl e) = let l : 0 ≡ suc (length c.path) = ap (λ c. length c.path) e in omega arith
not_under o a (c ∷ cs) (inr i) = not_under o a cs i

pub under_in : (o : Op) (os : List Op) (a : Att) (p : Op) (cs : List Claim) → In (claim (o ∷ os) a) (map (under p) cs) → (o ≡ p) × In (claim os a) cs
under_in o os a p [] i = elim i [ ]
under_in o os a p (c ∷ cs) (inl e) =
    let q : o ∷ os ≡ p ∷ c.path = ap (λ c. c.path) e in
    let r : a ≡ c.attestation = ap (λ c. c.attestation) e in
    let s : os ≡ c.path = cc in
    (cc, inl (ap (λ z. claim z a) s ∙ ap (λ z. claim c.path z) r))
under_in o os a p (c ∷ cs) (inr i) = let r = under_in o os a p cs i in (r.0, inr r.1)

pub in_under : (o : Op) (os : List Op) (a : Att) (cs : List Claim) → In (claim os a) cs → In (claim (o ∷ os) a) (map (under o) cs)
in_under o os a [] i = elim i [ ]
in_under o os a (c ∷ cs) (inl e) = inl (ap (under o) e)
in_under o os a (c ∷ cs) (inr i) = inr (in_under o os a cs i)

not_through : (a : Att) (t : Tree) → In (claim [] a) (through t) → ⊥
unfolding through
not_through a end i = elim i [ ]
not_through a (more o m b r) i = ⊎_elim (not_under o a (claims m b)) (not_through a r) (in_either (claim [] a) (map (under o) (claims m b)) (through r) i)

module _ (o : Op) (os : List Op) (a : Att) (below : (m : List Att) (t : Tree) → Iff (In (claim os a) (claims m t)) (Claims os a m t)) where
  through_in : (t : Tree) → In (claim (o ∷ os) a) (through t) → Through o (Claims os a) t
  unfolding through
  through_in end i = elim i [ ]
  through_in (more p m b r) i = ⊎_elim
      (λ j. let q = under_in o os a p (claims m b) j in inl (q.0, (below m b).0 q.1))
      (λ j. inr (through_in r j))
      (in_either (claim (o ∷ os) a) (map (under p) (claims m b)) (through r) i)

  in_through : (t : Tree) → Through o (Claims os a) t → In (claim (o ∷ os) a) (through t)
  unfolding through
  in_through end i = elim i [ ]
  in_through (more p m b r) (inl q) = in_left (claim (o ∷ os) a) (map (under p) (claims m b)) (through r)
      (subst (λ z. In (claim (o ∷ os) a) (map (under z) (claims m b))) q.0 (in_under o os a (claims m b) ((below m b).1 q.1)))
  in_through (more p m b r) (inr i) = in_right (claim (o ∷ os) a) (map (under p) (claims m b)) (through r) (in_through r i)

pub listed : ClaimsAreListed
listed [] a m t = (
  (λ i. ⊎_elim (here_in a m) (λ j. absurd (not_through a t j)) (in_either (claim [] a) (map here m) (through t) i)),
  (λ i. in_left (claim [] a) (map here m) (through t) (in_here a m i)),
)
listed (o ∷ os) a m t = (
  (λ i. ⊎_elim (λ j. absurd (not_here o os a m j)) (through_in o os a (listed os a) t) (in_either (claim (o ∷ os) a) (map here m) (through t) i)),
  (λ i. in_right (claim (o ∷ os) a) (map here m) (through t) (in_through o os a (listed os a) t i)),
)
