-- A tree is no smaller than its parts: what passes a limit in a part passes it in the whole.
use Rattle.std.proofs.Common.{◌≡◌, ℕ, ◌+◌, ◌<◌, ◌≤◌, true, false, leb, List, [], ◌∷◌, ◌++◌, map, length, Ordering, Less, Equal, Greater, refl, ap, subst, ⊎_elim, arith}
use Rattle.std.proofs.lemmas.Bool.{and_parts, and_from, leb-true, le-leb, cases_Bool, both_ways}
use Rattle.format.specs.Operations.{Op}
use Rattle.format.specs.Attestations.{Att}
use Rattle.format.specs.Nodes.{Claim, under}
use Rattle.claim_trees.specs.Tree.{Tree, end, more, Held, held, here, Alike}
use Rattle.claim_trees.specs.Order.{argument_of, op_order, att_order}
use Rattle.claim_trees.specs.Union.{choose, unite, unify, union}
use Rattle.claim_trees.specs.Bytes.{payload_of}
use Rattle.claim_trees.specs.Size.{Size, total, payloads, ops_in, atts_in, bytes_in, size_of, within, operation_limit, attestation_limit, byte_limit}
use Rattle.claim_trees.specs.Gathered.{gathered}
use Rattle.claim_trees.proofs.Repeats.{total_one}
use Rattle.claim_trees.proofs.Listing.{in_left, in_right, in_either}
use Rattle.claim_trees.proofs.Gathering.{holds_mark, holds_branch, holds_one, gathered_holds, gathered_alike, gathered_append}
use Rattle.gather.specs.Trees.{fitting}

-- ---- attestations

module _ (w : Att → ℕ) where
  least_place : (x : Att) (xs : List Att) → ((ys : List Att) → total w xs ≤ total w (unite xs ys))
      → (y : Att) (ys : List Att) (r : Ordering) → total w (x ∷ xs) ≤ total w (unite (x ∷ xs) ys)
      → total w (x ∷ xs) ≤ total w (choose r (x ∷ unite xs (y ∷ ys)) (x ∷ unite xs ys) (y ∷ unite (x ∷ xs) ys))
  least_place x xs h y ys Less ih = let k = h (y ∷ ys) in omega arith
  least_place x xs h y ys Equal ih = let k = h ys in omega arith
  least_place x xs h y ys Greater ih = omega arith

  unite_least : (xs ys : List Att) → total w xs ≤ total w (unite xs ys)
  unite_least [] ys = omega arith
  unite_least (x ∷ xs) [] = omega arith
  unite_least (x ∷ xs) (y ∷ ys) = least_place x xs (unite_least xs) y ys (att_order x y) (unite_least (x ∷ xs) ys)

length_least : (m n : List Att) → length m ≤ length (unite m n)
length_least m n = let h = unite_least (λ _. 1) m n in let a = total_one (unite m n) in let b = total_one m in omega arith

total_payloads : (m : List Att) → total (λ a. length (payload_of a)) m ≡ payloads m
total_payloads [] = refl
total_payloads (a ∷ m) = ap (λ n. length (payload_of a) + n) (total_payloads m)

payloads_least : (m n : List Att) → payloads m ≤ payloads (unite m n)
payloads_least m n =
    let h = unite_least (λ a. length (payload_of a)) m n in
    let a = total_payloads (unite m n) in let b = total_payloads m in omega arith

-- ---- branches

module _ (tree : Tree → ℕ) (one : Op → List Att → ℕ) (adds : (o : Op) (m : List Att) (b r : Tree) → tree (more o m b r) ≡ one o m + (tree b + tree r))
    (none : tree end ≡ 0) (less : (o : Op) (m n : List Att) → one o m ≤ one o (unite m n)) where
  least_graft : (o p : Op) (m n : List Att) (b c r s : Tree) (k : Ordering)
      → tree r ≤ tree (unify r (more p n c s))
      → tree b ≤ tree (unify b c)
      → tree r ≤ tree (unify r s)
      → tree (more o m b r) ≤ tree (unify (more o m b r) s)
      → tree (more o m b r)
      ≤ tree (choose k (more o m b (unify r (more p n c s))) (more o (unite m n) (unify b c) (unify r s)) (more p n c (unify (more o m b r) s)))
  least_graft o p m n b c r s Less u v w x = let a = adds o m b (unify r (more p n c s)) in let d = adds o m b r in omega arith
  least_graft o p m n b c r s Equal u v w x =
      let a = adds o (unite m n) (unify b c) (unify r s) in let d = adds o m b r in let g = less o m n in omega arith
  least_graft o p m n b c r s Greater u v w x = let a = adds p n c (unify (more o m b r) s) in omega arith

  unify_least : (t u : Tree) → tree t ≤ tree (unify t u)
  unify_least end u = omega arith
  unify_least (more o m b r) end = omega arith
  unify_least (more o m b r) (more p n c s) =
      least_graft o p m n b c r s (op_order o p) (unify_least r (more p n c s)) (unify_least b c) (unify_least r s) (unify_least (more o m b r) s)

ops_least : (t u : Tree) → ops_in t ≤ ops_in (unify t u)
ops_least = unify_least ops_in (λ _ _. 1) (λ o m b r. refl) refl (λ o m n. omega arith)

atts_least : (t u : Tree) → atts_in t ≤ atts_in (unify t u)
atts_least = unify_least atts_in (λ _ m. length m) (λ o m b r. refl) refl (λ o m n. length_least m n)

bytes_least : (t u : Tree) → bytes_in t ≤ bytes_in (unify t u)
bytes_least = unify_least bytes_in (λ o m. length (argument_of o) + payloads m) (λ o m b r. omega arith) refl (λ o m n. let h = payloads_least m n in omega arith)

-- ---- nodes

record AtLeast (s t : Size) : Type 0 where
  operations : s.operations ≤ t.operations
  attestations : s.attestations ≤ t.attestations
  bytes : s.bytes ≤ t.bytes

within_less : (s t : Size) → AtLeast s t → within t ≡ true → within s ≡ true
within_less s t h e =
    let p = and_parts (leb t.operations operation_limit) _ e in
    let q = and_parts (leb t.attestations attestation_limit) _ p.1 in
    let a = leb-true t.operations operation_limit p.0 in
    let b = leb-true t.attestations attestation_limit q.0 in
    let c = leb-true t.bytes byte_limit q.1 in
    and_from _ _ (le-leb s.operations operation_limit (omega (arith, h.operations)))
    (and_from _ _ (le-leb s.attestations attestation_limit (omega (arith, h.attestations))) (le-leb s.bytes byte_limit (omega (arith, h.bytes))))

passes : (s t : Size) → AtLeast s t → within s ≡ false → within t ≡ false
passes s t h e = ⊎_elim (λ k. absurd (both_ways (within s) e (within_less s t h k))) (λ k. k) (cases_Bool (within t))

union_least : (x y : Held) → AtLeast (size_of x.marks x.branches) (size_of (union x y).marks (union x y).branches)
union_least x y =
    let a = length_least x.marks y.marks in let b = payloads_least x.marks y.marks in
    let c = ops_least x.branches y.branches in let d = atts_least x.branches y.branches in let e = bytes_least x.branches y.branches in
    record { operations = omega arith; attestations = omega arith; bytes = omega arith }

under_least : (o : Op) (x : Held) → AtLeast (size_of x.marks x.branches) (size_of [] (more o x.marks x.branches end))
under_least o x = record { operations = omega arith; attestations = omega arith; bytes = omega arith }

-- ---- lists of claims

pub gathered_mark : (a : Att) → held (a ∷ []) end ≡ gathered (here a ∷ [])
gathered_mark a = holds_one (held (a ∷ []) end) (here a ∷ []) (holds_mark a)

pub gathered_under : (o : Op) (cs : List Claim) → 0 < length cs
    → held [] (more o (gathered cs).marks (gathered cs).branches end) ≡ gathered (map (under o) cs)
gathered_under o cs l =
    holds_one (held [] (more o (gathered cs).marks (gathered cs).branches end)) (map (under o) cs) (holds_branch o (gathered cs) cs l (gathered_holds cs))

pub passes_left : (cs ds : List Claim) → fitting (gathered cs) ≡ false → fitting (gathered (cs ++ ds)) ≡ false
passes_left cs ds h = subst (λ z. fitting z ≡ false) (gathered_append cs ds)
    (passes (size_of (gathered cs).marks (gathered cs).branches) _ (union_least (gathered cs) (gathered ds)) h)

swapped : (cs ds : List Claim) → Alike (ds ++ cs) (cs ++ ds)
swapped cs ds c = (
  (λ i. ⊎_elim (λ j. in_right c cs ds j) (λ j. in_left c cs ds j) (in_either c ds cs i)),
  (λ i. ⊎_elim (λ j. in_right c ds cs j) (λ j. in_left c ds cs j) (in_either c cs ds i)),
)

pub passes_right : (cs ds : List Claim) → fitting (gathered ds) ≡ false → fitting (gathered (cs ++ ds)) ≡ false
passes_right cs ds h = subst (λ z. fitting z ≡ false) (gathered_alike (ds ++ cs) (cs ++ ds) (swapped cs ds)) (passes_left ds cs h)

blank_fits : fitting (gathered []) ≡ true
unfolding gathered
blank_fits = refl

pub passes_under : (o : Op) (cs : List Claim) → fitting (gathered cs) ≡ false → fitting (gathered (map (under o) cs)) ≡ false
passes_under o [] h = absurd (both_ways (fitting (gathered [])) h blank_fits)
passes_under o (c ∷ cs) h = subst (λ z. fitting z ≡ false) (gathered_under o (c ∷ cs) (let g : 0 < length (c ∷ cs) = omega arith in g))
    (passes (size_of (gathered (c ∷ cs)).marks (gathered (c ∷ cs)).branches) _ (under_least o (gathered (c ∷ cs))) h)
