-- The size of a tree is that of its claims, and the size of a union is found by walking both.
use Rattle.std.proofs.Common.{◌≡◌, ℕ, ◌+◌, ◌≤◌, true, List, [], ◌∷◌, ◌++◌, map, length, Ordering, Less, Equal, Greater, sym, refl, ap, ◌∙◌, subst, inl, inr, ⊎_elim, arith}
use Rattle.std.proofs.lemmas.List.{length-append, length-map}
use Rattle.format.specs.Operations.{Op}
use Rattle.format.specs.Attestations.{Att}
use Rattle.format.specs.Nodes.{Claim, claim, under}
use Rattle.claim_trees.specs.Tree.{Tree, end, more, Held, held, here, through, claims, In, Alike, Apart, Through, Claims}
use Rattle.claim_trees.specs.Order.{argument_of, op_order, att_order, ascends, sorted}
use Rattle.claim_trees.specs.Union.{choose, unite, unify, union}
use Rattle.claim_trees.specs.Bytes.{payload_of}
use Rattle.claim_trees.specs.Size.{Size, size, Begins, total, last_argument, payload_bytes, Sized, payloads, ops_in, atts_in, bytes_in, size_of, unite_total, marks_both, payloads_both, unify_total, ops_both, atts_both, bytes_both, size_of_both, SizeLaw}
use Rattle.claim_trees.specs.Gathered.{gathered, Holds}
use Rattle.claim_trees.proofs.Orders.{ops, less_itself}
use Rattle.claim_trees.proofs.Listing.{in_left, in_right, in_either, listed}
use Rattle.claim_trees.proofs.Gathering.{in_map, map_in, alike_same, holds_union, holds_own, gathered_holds}
use Rattle.claim_trees.proofs.Kept.{parts}
use Rattle.claim_trees.proofs.Unique.{witness, beyond}
use Rattle.claim_trees.proofs.Ascending.{claims_apart}
use Rattle.claim_trees.proofs.Repeats.{total_append, total_one, lists_total, lists_length, apart_append, apart_map}

-- ---- the beginnings of the paths of a tree

beginnings : Tree → List (List Op)
beginnings end = []
beginnings (more o m b r) = (o ∷ []) ∷ (map (λ os. o ∷ os) (beginnings b) ++ beginnings r)

-- a path along o and os goes on to a claim
record Goes (o : Op) (os : List Op) (t : Tree) : Type 0 where
  rest : List Op
  attestation : Att
  there : Through o (Claims (os ++ rest) attestation) t

cons_parts : {o p : Op} {os ps : List Op} → o ∷ os ≡ p ∷ ps → (o ≡ p) × (os ≡ ps)
cons_parts e = ((cc), (cc))

nothing_is : {A : Type 0} {o : Op} {os : List Op} → [] ≡ o ∷ os → A
nothing_is e = absurd (let z : ◌≡◌ {A = ℕ} 0 1 = cc in omega arith)

not_empty : (t : Tree) → In [] (beginnings t) → ⊥
unfolding beginnings
not_empty end i = i
not_empty (more o m b r) (inl e) = nothing_is e
not_empty (more o m b r) (inr i) = ⊎_elim
    (λ j. let e = map_in (λ os. o ∷ os) [] (beginnings b) j in nothing_is e.1.1)
    (not_empty r)
    (in_either [] (map (λ os. o ∷ os) (beginnings b)) (beginnings r) i)

goes_below : (o p : Op) (os xs : List Op) (m : List Att) (b r : Tree) → o ≡ p → os ≡ xs → (rest : List Op) (a : Att) → Claims (xs ++ rest) a m b → Goes o os (more p m b r)
goes_below o p os xs m b r e d rest a k = record { rest = rest; attestation = a; there = inl (e, subst (λ z. Claims (z ++ rest) a m b) (sym d) k) }

module _ (p : Op) (m : List Att) (b r : Tree) where
  -- along a beginning of the node below
  goes_on : ((o : Op) (os : List Op) → In (o ∷ os) (beginnings b) → Goes o os b) → (o : Op) (os xs : List Op) → o ≡ p → os ≡ xs → In xs (beginnings b) → Goes o os (more p m b r)
  goes_on h o os [] e d i = absurd (not_empty b i)
  goes_on h o os (q ∷ xs) e d i = let g = h q xs i in goes_below o p os (q ∷ xs) m b r e d g.rest g.attestation g.there

goes : (t : Tree) → sorted t ≡ true → (o : Op) (os : List Op) → In (o ∷ os) (beginnings t) → Goes o os t
unfolding beginnings
goes end s o os i = absurd i
goes (more p m b r) s o os (inl e) =
    let w = parts p m b r s in
    let c = witness m b w.some w.below in
    let d = cons_parts e in
    goes_below o p os [] m b r d.0 d.1 c.0 c.1 c.2
goes (more p m b r) s o os (inr i) =
    let w = parts p m b r s in
    ⊎_elim
    (λ j. let e = map_in (λ os. p ∷ os) (o ∷ os) (beginnings b) j in let d = cons_parts e.1.1 in
    goes_on p m b r (goes b w.below) o os e.0 d.0 d.1 e.1.0)
    (λ j. let g = goes r w.rest o os j in record { rest = g.rest; attestation = g.attestation; there = inr g.there })
    (in_either (o ∷ os) (map (λ os. p ∷ os) (beginnings b)) (beginnings r) i)

begun : (t : Tree) (o : Op) (os rest : List Op) (a : Att) → Through o (Claims (os ++ rest) a) t → In (o ∷ os) (beginnings t)
unfolding beginnings
begun end o os rest a k = absurd k
begun (more p m b r) o [] rest a (inl k) = inl (ap (λ z. z ∷ []) k.0)
begun (more p m b r) o (q ∷ os) rest a (inl k) =
    inr (in_left (o ∷ (q ∷ os)) (map (λ os. p ∷ os) (beginnings b)) (beginnings r)
    (subst (λ z. In (z ∷ (q ∷ os)) (map (λ os. p ∷ os) (beginnings b))) (sym k.0) (in_map (λ os. p ∷ os) (q ∷ os) (beginnings b) (begun b q os rest a k.1))))
begun (more p m b r) o os rest a (inr k) = inr (in_right (o ∷ os) (map (λ os. p ∷ os) (beginnings b)) (beginnings r) (begun r o os rest a k))

begins : (m : List Att) (t : Tree) → sorted t ≡ true → (b : List Op) → In b (beginnings t) → Begins b (claims m t)
begins m t s [] i = absurd (not_empty t i)
begins m t s (o ∷ os) i =
    let g = goes t s o os i in
    (claim (o ∷ (os ++ g.rest)) g.attestation, g.rest, (listed (o ∷ (os ++ g.rest)) g.attestation m t).1 g.there, refl)

begins_back : (m : List Att) (t : Tree) (b : List Op) → Begins b (claims m t) → In b (beginnings t)
begins_back m t [] k = absurd k
begins_back m t (o ∷ os) k =
    let c = k.0 in let rest = k.1 in
    begun t o os rest c.attestation
    ((listed (o ∷ (os ++ rest)) c.attestation m t).0 (subst (λ z. In (claim z c.attestation) (claims m t)) k.3 k.2))

beginnings_apart : (t : Tree) → sorted t ≡ true → Apart (beginnings t)
unfolding beginnings
beginnings_apart end s = tt
beginnings_apart (more o m b r) s =
    let w = parts o m b r s in
    let far : (os : List Op) → In (o ∷ os) (beginnings r) → ⊥ = λ os i.
    let g = goes r w.rest o os i in less_itself ops o (beyond o r w.first w.rest o (Claims (os ++ g.rest) g.attestation) g.there) in (
      (λ i. ⊎_elim
          (λ j. let e = map_in (λ os. o ∷ os) (o ∷ []) (beginnings b) j in not_empty b (subst (λ z. In z (beginnings b)) (sym (cons_parts e.1.1).1) e.1.0))
          (far [])
          (in_either (o ∷ []) (map (λ os. o ∷ os) (beginnings b)) (beginnings r) i)),
      apart_append (map (λ os. o ∷ os) (beginnings b)) (beginnings r)
          (apart_map (λ os. o ∷ os) (λ x y e. (cons_parts e).1) (beginnings b) (beginnings_apart b w.below))
          (beginnings_apart r w.rest)
          (λ x i j. let e = map_in (λ os. o ∷ os) x (beginnings b) i in far e.0 (subst (λ z. In z (beginnings r)) e.1.1 j)),
    )

-- ---- counts

count_operations : (t : Tree) → ops_in t ≡ length (beginnings t)
unfolding beginnings
count_operations end = refl
count_operations (more o m b r) =
    let y = count_operations b in let z = count_operations r in
    let e = length-append (map (λ os. o ∷ os) (beginnings b)) (beginnings r) in
    let d = length-map (beginnings b) (λ os. o ∷ os) in omega arith

count_attestations : (t : Tree) → atts_in t ≡ length (through t)
unfolding through
count_attestations end = refl
count_attestations (more o m b r) =
    let x = length-map m here in let y = count_attestations b in let z = count_attestations r in
    let e = length-append (map (under o) (claims m b)) (through r) in
    let d = length-map (claims m b) (under o) in
    let f = length-append (map here m) (through b) in omega arith

total_under : (o : Op) (cs : List Claim) → total payload_bytes (map (under o) cs) ≡ total payload_bytes cs
total_under o [] = refl
total_under o (c ∷ cs) = let h = total_under o cs in omega arith

total_cons : (o : Op) (xs : List (List Op)) → (In [] xs → ⊥) → total last_argument (map (λ os. o ∷ os) xs) ≡ total last_argument xs
total_cons o [] h = refl
total_cons o ([] ∷ xs) h = absurd (h (inl refl))
total_cons o ((p ∷ ps) ∷ xs) h = let k = total_cons o xs (λ i. h (inr i)) in omega arith

count_payloads : (m : List Att) → payloads m ≡ total payload_bytes (map here m)
count_payloads [] = refl
count_payloads (a ∷ m) = let h = count_payloads m in omega arith

count_bytes : (t : Tree) → bytes_in t ≡ total last_argument (beginnings t) + total payload_bytes (through t)
unfolding beginnings through
count_bytes end = refl
count_bytes (more o m b r) =
    let x = count_payloads m in let y = count_bytes b in let z = count_bytes r in
    let e = total_append last_argument (map (λ os. o ∷ os) (beginnings b)) (beginnings r) in
    let d = total_cons o (beginnings b) (not_empty b) in
    let f = total_append payload_bytes (map (under o) (claims m b)) (through r) in
    let g = total_under o (claims m b) in
    let h = total_append payload_bytes (map here m) (through b) in omega arith

-- ---- the size of a tree

pub tree_sized : (m : List Att) (t : Tree) → ascends m ≡ true → sorted t ≡ true → Sized (claims m t) (size_of m t)
tree_sized m t h s = record {
  beginnings = beginnings t;
  members = claims m t;
  lists_beginnings = record { members = λ b. (begins m t s b, begins_back m t b); apart = beginnings_apart t s };
  lists_members = record { members = alike_same (claims m t); apart = claims_apart m t h s };
  operations = count_operations t;
  attestations = let x = length-map m here in let y = count_attestations t in let e = length-append (map here m) (through t) in omega arith;
  bytes = let x = count_payloads m in let y = count_bytes t in let e = total_append payload_bytes (map here m) (through t) in omega arith;
}

-- ---- one size for a set

begins_alike : (cs ds : List Claim) → Alike cs ds → (b : List Op) → Begins b cs → Begins b ds
begins_alike cs ds h [] k = k
begins_alike cs ds h (o ∷ os) k = (k.0, k.1, (h k.0).0 k.2, k.3)

pub one_size : (cs ds : List Claim) (s t : Size) → Alike cs ds → Sized cs s → Sized ds t → s ≡ t
one_size cs ds s t h x y =
    let back : Alike ds cs = λ c. ((h c).1, (h c).0) in
    let f = lists_length x.beginnings y.beginnings x.lists_beginnings y.lists_beginnings (begins_alike cs ds h) (begins_alike ds cs back) in
    let g = lists_length x.members y.members x.lists_members y.lists_members (λ c i. (h c).0 i) (λ c i. (h c).1 i) in
    let k = lists_total last_argument x.beginnings y.beginnings x.lists_beginnings y.lists_beginnings (begins_alike cs ds h) (begins_alike ds cs back) in
    let l = lists_total payload_bytes x.members y.members x.lists_members y.lists_members (λ c i. (h c).0 i) (λ c i. (h c).1 i) in
    let p : s.operations ≡ t.operations = x.operations ∙ (f ∙ sym y.operations) in
    let q : s.attestations ≡ t.attestations = x.attestations ∙ (g ∙ sym y.attestations) in
    let r : s.bytes ≡ t.bytes = x.bytes ∙ ((λ i. k i + l i) ∙ sym y.bytes) in
    λ i. size (p i) (q i) (r i)

-- ---- a union walked

module _ (w : Att → ℕ) (x : Att) (xs : List Att) (h : (ys : List Att) → unite_total w xs ys ≡ total w (unite xs ys)) where
  place_by : (y : Att) (ys : List Att) (r : Ordering) → unite_total w (x ∷ xs) ys ≡ total w (unite (x ∷ xs) ys)
      → choose r (w x + unite_total w xs (y ∷ ys)) (w x + unite_total w xs ys) (w y + unite_total w (x ∷ xs) ys)
      ≡ total w (choose r (x ∷ unite xs (y ∷ ys)) (x ∷ unite xs ys) (y ∷ unite (x ∷ xs) ys))
  place_by y ys Less e = ap (λ n. w x + n) (h (y ∷ ys))
  place_by y ys Equal e = ap (λ n. w x + n) (h ys)
  place_by y ys Greater e = ap (λ n. w y + n) e

  place_total_lem : (ys : List Att) → unite_total w (x ∷ xs) ys ≡ total w (unite (x ∷ xs) ys)
  place_total_lem [] = refl
  place_total_lem (y ∷ ys) = place_by y ys (att_order x y) (place_total_lem ys)

unite_total_lem : (w : Att → ℕ) (xs ys : List Att) → unite_total w xs ys ≡ total w (unite xs ys)
unite_total_lem w [] ys = refl
unite_total_lem w (x ∷ xs) ys = place_total_lem w x xs (unite_total_lem w xs) ys

total_payloads : (m : List Att) → total (λ a. length (payload_of a)) m ≡ payloads m
total_payloads [] = refl
total_payloads (a ∷ m) = ap (λ n. length (payload_of a) + n) (total_payloads m)

pub marks_both_lem : (m n : List Att) → marks_both m n ≡ length (unite m n)
marks_both_lem m n = unite_total_lem (λ _. 1) m n ∙ total_one (unite m n)

pub payloads_both_lem : (m n : List Att) → payloads_both m n ≡ payloads (unite m n)
payloads_both_lem m n = unite_total_lem (λ a. length (payload_of a)) m n ∙ total_payloads (unite m n)

-- a count of trees that adds what an operation and the attestations below it make
module _ (tree : Tree → ℕ) (one : Op → List Att → ℕ) (both : Op → List Att → List Att → ℕ)
    (adds : (o : Op) (m : List Att) (b r : Tree) → tree (more o m b r) ≡ one o m + (tree b + tree r))
    (joins : (o : Op) (m n : List Att) → both o m n ≡ one o (unite m n)) where
  abbrev walk : Tree → Tree → ℕ
  walk t u = unify_total tree one both t u

  module _ (o : Op) (m : List Att) (b r : Tree) (f : (c : Tree) → walk b c ≡ tree (unify b c)) (g : (s : Tree) → walk r s ≡ tree (unify r s)) where
    graft_by : (p : Op) (n : List Att) (c s : Tree) (k : Ordering) → walk (more o m b r) s ≡ tree (unify (more o m b r) s)
        → choose k (one o m + (tree b + walk r (more p n c s))) (both o m n + (walk b c + walk r s)) (one p n + (tree c + walk (more o m b r) s))
        ≡ tree (choose k (more o m b (unify r (more p n c s))) (more o (unite m n) (unify b c) (unify r s)) (more p n c (unify (more o m b r) s)))
    graft_by p n c s Less e = ap (λ z. one o m + (tree b + z)) (g (more p n c s)) ∙ sym (adds o m b (unify r (more p n c s)))
    graft_by p n c s Equal e = (λ i. joins o m n i + (f c i + g s i)) ∙ sym (adds o (unite m n) (unify b c) (unify r s))
    graft_by p n c s Greater e = ap (λ z. one p n + (tree c + z)) e ∙ sym (adds p n c (unify (more o m b r) s))

    graft_total_lem : (t : Tree) → walk (more o m b r) t ≡ tree (unify (more o m b r) t)
    graft_total_lem end = refl
    graft_total_lem (more p n c s) = graft_by p n c s (op_order o p) (graft_total_lem s)

  unify_total_lem : (t u : Tree) → walk t u ≡ tree (unify t u)
  unify_total_lem end u = refl
  unify_total_lem (more o m b r) u = graft_total_lem o m b r (unify_total_lem b) (unify_total_lem r) u

pub ops_both_lem : (t u : Tree) → ops_both t u ≡ ops_in (unify t u)
ops_both_lem = unify_total_lem ops_in (λ _ _. 1) (λ _ _ _. 1) (λ o m b r. refl) (λ o m n. refl)

pub atts_both_lem : (t u : Tree) → atts_both t u ≡ atts_in (unify t u)
atts_both_lem = unify_total_lem atts_in (λ _ m. length m) (λ _ m n. marks_both m n) (λ o m b r. refl) (λ o m n. marks_both_lem m n)

pub bytes_both_lem : (t u : Tree) → bytes_both t u ≡ bytes_in (unify t u)
bytes_both_lem = unify_total_lem bytes_in (λ o m. length (argument_of o) + payloads m) (λ o m n. length (argument_of o) + payloads_both m n)
    (λ o m b r. omega arith) (λ o m n. ap (λ z. length (argument_of o) + z) (payloads_both_lem m n))

pub union_sized : (m n : List Att) (t u : Tree) → size_of_both m t n u ≡ size_of (unite m n) (unify t u)
union_sized m n t u = λ i. size (ops_both_lem t u i) (marks_both_lem m n i + atts_both_lem t u i) (payloads_both_lem m n i + bytes_both_lem t u i)

pub sized_alike : (cs ds : List Claim) (s : Size) → Alike cs ds → Sized cs s → Sized ds s
sized_alike cs ds s h x =
    let back : Alike ds cs = λ c. ((h c).1, (h c).0) in
    record {
      beginnings = x.beginnings;
      members = x.members;
      lists_beginnings = record {
        members = λ b. let i = x.lists_beginnings.members b in ((λ j. begins_alike cs ds h b (i.0 j)), (λ j. i.1 (begins_alike ds cs back b j)));
        apart = x.lists_beginnings.apart;
      };
      lists_members = record {
        members = λ c. let i = x.lists_members.members c in ((λ j. (h c).0 (i.0 j)), (λ j. i.1 ((h c).1 j)));
        apart = x.lists_members.apart;
      };
      operations = x.operations;
      attestations = x.attestations;
      bytes = x.bytes;
    }

pub held_sized : (x : Held) (cs : List Claim) → Holds x cs → Sized cs (size_of x.marks x.branches)
held_sized x cs h = sized_alike (claims x.marks x.branches) cs (size_of x.marks x.branches) h.claims
    (tree_sized x.marks x.branches h.marks h.branches)

both_sized : (m n : List Att) (t u : Tree) → ascends m ≡ true → sorted t ≡ true → ascends n ≡ true → sorted u ≡ true
    → Sized (claims m t ++ claims n u) (size_of_both m t n u)
both_sized m n t u a b c d = subst (Sized (claims m t ++ claims n u)) (sym (union_sized m n t u))
    (held_sized (union (held m t) (held n u)) (claims m t ++ claims n u)
    (holds_union (held m t) (held n u) (claims m t) (claims n u) (holds_own m t a b) (holds_own n u c d)))

pub size_law : SizeLaw
size_law = record { one = one_size; tree = tree_sized; gathers = λ cs. held_sized (gathered cs) cs (gathered_holds cs); both = both_sized; union = union_sized }

-- ---- the union is no larger than both

pub record AtMost (s t u : Size) : Type 0 where
  pub operations : s.operations ≤ t.operations + u.operations
  pub attestations : s.attestations ≤ t.attestations + u.attestations
  pub bytes : s.bytes ≤ t.bytes + u.bytes

module _ (w : Att → ℕ) where
  most_place : (x : Att) (xs : List Att) → ((ys : List Att) → total w (unite xs ys) ≤ total w xs + total w ys)
      → (y : Att) (ys : List Att) (r : Ordering) → total w (unite (x ∷ xs) ys) ≤ total w (x ∷ xs) + total w ys
      → total w (choose r (x ∷ unite xs (y ∷ ys)) (x ∷ unite xs ys) (y ∷ unite (x ∷ xs) ys)) ≤ total w (x ∷ xs) + total w (y ∷ ys)
  most_place x xs h y ys Less ih = let k = h (y ∷ ys) in omega arith
  most_place x xs h y ys Equal ih = let k = h ys in omega arith
  most_place x xs h y ys Greater ih = omega arith

  unite_most : (xs ys : List Att) → total w (unite xs ys) ≤ total w xs + total w ys
  unite_most [] ys = omega arith
  unite_most (x ∷ xs) [] = omega arith
  unite_most (x ∷ xs) (y ∷ ys) = most_place x xs (unite_most xs) y ys (att_order x y) (unite_most (x ∷ xs) ys)

pub length_most : (m n : List Att) → length (unite m n) ≤ length m + length n
length_most m n = let h = unite_most (λ _. 1) m n in let a = total_one (unite m n) in let b = total_one m in let c = total_one n in omega arith

pub payloads_most : (m n : List Att) → payloads (unite m n) ≤ payloads m + payloads n
payloads_most m n =
    let h = unite_most (λ a. length (payload_of a)) m n in
    let a = total_payloads (unite m n) in let b = total_payloads m in let c = total_payloads n in omega arith

-- a count of trees in which an operation that both have counts no more than in both
module _ (tree : Tree → ℕ) (one : Op → List Att → ℕ) (adds : (o : Op) (m : List Att) (b r : Tree) → tree (more o m b r) ≡ one o m + (tree b + tree r))
    (less : (o : Op) (m n : List Att) → one o (unite m n) ≤ one o m + one o n) where
  most_graft : (o p : Op) (m n : List Att) (b c r s : Tree) (k : Ordering) → op_order o p ≡ k
      → tree (unify r (more p n c s)) ≤ tree r + tree (more p n c s)
      → tree (unify b c) ≤ tree b + tree c
      → tree (unify r s) ≤ tree r + tree s
      → tree (unify (more o m b r) s) ≤ tree (more o m b r) + tree s
      → tree (choose k (more o m b (unify r (more p n c s))) (more o (unite m n) (unify b c) (unify r s)) (more p n c (unify (more o m b r) s)))
      ≤ tree (more o m b r) + tree (more p n c s)
  most_graft o p m n b c r s Less e u v w x =
      let a = adds o m b (unify r (more p n c s)) in let d = adds o m b r in omega arith
  most_graft o p m n b c r s Equal e u v w x =
      let a = adds o (unite m n) (unify b c) (unify r s) in let d = adds o m b r in let f = adds p n c s in
      let g = less o m n in let h : one o n ≡ one p n = ap (λ q. one q n) (ops.same o p e) in omega arith
  most_graft o p m n b c r s Greater e u v w x =
      let a = adds p n c (unify (more o m b r) s) in let d = adds p n c s in omega arith

  unify_most : (t u : Tree) → tree (unify t u) ≤ tree t + tree u
  unify_most end u = omega arith
  unify_most (more o m b r) end = omega arith
  unify_most (more o m b r) (more p n c s) =
      most_graft o p m n b c r s (op_order o p) refl (unify_most r (more p n c s)) (unify_most b c) (unify_most r s) (unify_most (more o m b r) s)

pub ops_most : (t u : Tree) → ops_in (unify t u) ≤ ops_in t + ops_in u
ops_most = unify_most ops_in (λ _ _. 1) (λ o m b r. refl) (λ o m n. omega arith)

pub atts_most : (t u : Tree) → atts_in (unify t u) ≤ atts_in t + atts_in u
atts_most = unify_most atts_in (λ _ m. length m) (λ o m b r. refl) (λ o m n. length_most m n)

pub bytes_most : (t u : Tree) → bytes_in (unify t u) ≤ bytes_in t + bytes_in u
bytes_most = unify_most bytes_in (λ o m. length (argument_of o) + payloads m) (λ o m b r. omega arith) (λ o m n. let h = payloads_most m n in omega arith)

pub union_most : (m n : List Att) (t u : Tree) → AtMost (size_of (unite m n) (unify t u)) (size_of m t) (size_of n u)
union_most m n t u =
    let a = length_most m n in let b = payloads_most m n in
    let c = ops_most t u in let d = atts_most t u in let e = bytes_most t u in
    record { operations = omega arith; attestations = omega arith; bytes = omega arith }
