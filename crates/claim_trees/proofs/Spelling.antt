-- What is written is a node of the grammar, and so it is read back.
use Rattle.std.proofs.Common.{◌≡◌, ℕ, ◌+◌, ◌^◌, ◌<◌, ◌≤◌, Bool, true, not, ◌&&◌, eqb, ltb, leb, List, [], ◌∷◌, ◌++◌, map, length, drop, sym, refl, ap, ◌∙◌, subst, arith}
use Rattle.std.proofs.lemmas.Bool.{and_parts, and_from, ltb-true, leb-true, eqb-true, not-true, false≢true}
use Rattle.std.proofs.lemmas.List.{append-nil, append_assoc, length-append}
use Rattle.std.proofs.lemmas.Slice.Eq.{bytes_eq-Decides}
use Rattle.format.specs.Outcome.{got}
use Rattle.format.specs.Operations.{Op, sha256, append, prepend, reverse, hexlify, message_limit, path_limit}
use Rattle.format.specs.Attestations.{Att, pending, bitcoin, unknown, pending_tag, bitcoin_tag, payload_limit, address_limit, same}
use Rattle.format.specs.Nodes.{Claim, under, node_at}
use Rattle.format.specs.Grammar.{Block, Content, Branch, Node, last, another}
use Rattle.format.specs.Grammar as grammar
use Rattle.format.proofs.Sound.{address_each}
use Rattle.format.proofs.Complete.{full_node}
use Rattle.claim_trees.specs.Tree.{Tree, end, more, here, through, claims, In, filled}
use Rattle.claim_trees.specs.Order.{tag_of, sorted}
use Rattle.claim_trees.specs.Bytes.{shortest, block, op_bytes, payload_of, att_bytes, none, marks_bytes, branches_bytes, node_bytes}
use Rattle.claim_trees.specs.Lawful.{result_of, argument_fits, op_fits, att_fits, path_fits, fits_at, every, marks_fit, branches_fit}
use Rattle.claim_trees.proofs.Shortest.{shortest_is, ends}
use Rattle.claim_trees.proofs.Listing.{listed}
use Rattle.claim_trees.proofs.Gathering.{in_map}
use Rattle.claim_trees.proofs.Kept.{parts}
use Rattle.claim_trees.proofs.Unique.{witness}
use Rattle.claim_trees.proofs.Fitting.{every_in}

-- ---- the limits node by node, from those of the claims

every_parts : {A : Type 0} (f : A → Bool) (xs ys : List A) → every f (xs ++ ys) ≡ true → (every f xs ≡ true) × (every f ys ≡ true)
every_parts f [] ys h = (refl, h)
every_parts f (x ∷ xs) ys h =
    let p = and_parts (f x) (every f (xs ++ ys)) h in
    let q = every_parts f xs ys p.1 in
    (and_from _ _ p.0 q.0, q.1)

marks_fit_lem : (depth size : ℕ) (m : List Att) → every (fits_at depth size) (map here m) ≡ true → marks_fit m ≡ true
marks_fit_lem depth size [] h = refl
marks_fit_lem depth size (a ∷ m) h =
    let p = and_parts (att_fits a) (every (fits_at depth size) (map here m)) h in
    and_from _ _ p.0 (marks_fit_lem depth size m p.1)

below_fit : (depth size : ℕ) (o : Op) (cs : List Claim) → every (fits_at depth size) (map (under o) cs) ≡ true → every (fits_at (depth + 1) (result_of o size)) cs ≡ true
below_fit depth size o [] h = refl
below_fit depth size o (c ∷ cs) h =
    let p = and_parts (fits_at depth size (under o c)) (every (fits_at depth size) (map (under o) cs)) h in
    let q = and_parts (op_fits depth size o && path_fits (depth + 1) (result_of o size) c.path) (att_fits c.attestation) p.0 in
    let r = and_parts (op_fits depth size o) (path_fits (depth + 1) (result_of o size) c.path) q.0 in
    and_from _ _ (and_from _ _ r.1 q.1) (below_fit depth size o cs p.1)

op_fit : (depth size : ℕ) (o : Op) (cs : List Claim) (c : Claim) → In c cs → every (fits_at depth size) (map (under o) cs) ≡ true → op_fits depth size o ≡ true
op_fit depth size o cs c i h =
    let p = every_in (fits_at depth size) (map (under o) cs) h (under o c) (in_map (under o) c cs i) in
    let q = and_parts (op_fits depth size o && path_fits (depth + 1) (result_of o size) c.path) (att_fits c.attestation) p in
    (and_parts (op_fits depth size o) (path_fits (depth + 1) (result_of o size) c.path) q.0).0

-- a claim of a node that is not empty
pub some_claim : (m : List Att) (t : Tree) → filled m t ≡ true → sorted t ≡ true → (c : Claim) × In c (claims m t)
some_claim m t h s = let w = witness m t h s in (record { path = w.0; attestation = w.1 }, (listed w.0 w.1 m t).1 w.2)

pub branches_fit_lem : (depth size : ℕ) (t : Tree) → sorted t ≡ true → every (fits_at depth size) (through t) ≡ true → branches_fit depth size t ≡ true
unfolding through
branches_fit_lem depth size end s h = refl
branches_fit_lem depth size (more o m b r) s h =
    let w = parts o m b r s in
    let p = every_parts (fits_at depth size) (map (under o) (claims m b)) (through r) h in
    let c = some_claim m b w.some w.below in
    let q = every_parts (fits_at (depth + 1) (result_of o size)) (map here m) (through b) (below_fit depth size o (claims m b) p.0) in
    and_from _ _ (op_fit depth size o (claims m b) c.0 c.1 p.0)
    (and_from _ _ (marks_fit_lem (depth + 1) (result_of o size) m q.0)
    (and_from _ _ (branches_fit_lem (depth + 1) (result_of o size) b w.below q.1) (branches_fit_lem depth size r w.rest p.1)))

pub node_fit : (depth size : ℕ) (m : List Att) (t : Tree) → sorted t ≡ true → every (fits_at depth size) (claims m t) ≡ true
    → (marks_fit m ≡ true) × (branches_fit depth size t ≡ true)
node_fit depth size m t s h =
    let p = every_parts (fits_at depth size) (map here m) (through t) h in
    (marks_fit_lem depth size m p.0, branches_fit_lem depth size t s p.1)

-- ---- in the grammar

-- a length and its bytes
block_is : (lo hi : ℕ) (bs : List ℕ) → lo ≤ length bs → length bs ≤ hi → hi < 2 ^ 32 → Block lo hi (block bs) bs
block_is lo hi bs l h m = grammar.block (shortest_is (length bs) (omega arith)) l h

pub short_number : (n : ℕ) → n < 2 ^ 32 → length (shortest n) ≤ 5
short_number n h = (shortest_is n h).short

-- ---- attestations
differs : (xs ys : List ℕ) → not (same xs ys) ≡ true → xs ≡ ys → ⊥
differs xs ys h e = false≢true (sym (not-true (same xs ys) h) ∙ (bytes_eq-Decides xs ys).1 e)

content_is : (a : Att) → att_fits a ≡ true → Content (tag_of a) (payload_of a) a
content_is (bitcoin h) f = grammar.height (shortest_is h (ltb-true h (2 ^ 32) f))
content_is (pending a) f =
    let p = and_parts _ _ f in
    grammar.address (block_is 0 address_limit a (omega arith) (leb-true (length a) address_limit p.0) (omega arith)) (address_each a p.1)
content_is (unknown tag ps) f =
    let p = and_parts (eqb (length tag) 8) (leb (length ps) payload_limit && (not (same tag bitcoin_tag) && not (same tag pending_tag))) f in
    let q = and_parts (leb (length ps) payload_limit) (not (same tag bitcoin_tag) && not (same tag pending_tag)) p.1 in
    let r = and_parts (not (same tag bitcoin_tag)) (not (same tag pending_tag)) q.1 in
    grammar.other (differs tag bitcoin_tag r.0) (differs tag pending_tag r.1)

pub eight : (a : Att) → att_fits a ≡ true → length (tag_of a) ≡ 8
eight (bitcoin h) f = refl
eight (pending a) f = refl
eight (unknown tag ps) f = eqb-true (length tag) 8 (and_parts _ _ f).0

pub payload_long : (a : Att) → att_fits a ≡ true → length (payload_of a) ≤ payload_limit
payload_long (bitcoin h) f = let s = short_number h (ltb-true h (2 ^ 32) f) in omega arith
payload_long (pending a) f =
    let l = leb-true (length a) address_limit (and_parts _ _ f).0 in
    let s = short_number (length a) (omega arith) in
    let e = length-append (shortest (length a)) a in omega arith
payload_long (unknown tag ps) f =
    let p = and_parts (eqb (length tag) 8) (leb (length ps) payload_limit && (not (same tag bitcoin_tag) && not (same tag pending_tag))) f in
    leb-true (length ps) payload_limit (and_parts (leb (length ps) payload_limit) (not (same tag bitcoin_tag) && not (same tag pending_tag)) p.1).0

mark_is : (depth size : ℕ) (a : Att) → att_fits a ≡ true → Branch depth size (att_bytes a) (here a ∷ [])
mark_is depth size a f = grammar.attestation (eight a f) (block_is 0 payload_limit (payload_of a) (omega arith) (payload_long a f) (omega arith)) (content_is a f)

-- ---- operations
branch_is : (depth size : ℕ) (o : Op) (bs : List ℕ) (cs : List Claim) → depth < path_limit → argument_fits o ≡ true → result_of o size ≤ message_limit
    → Node (depth + 1) (result_of o size) bs cs → Branch depth size (op_bytes o ++ bs) (map (under o) cs)
branch_is depth size sha256 bs cs d f r n = grammar.operation {tag = 8} refl d grammar.sha256 r n
branch_is depth size reverse bs cs d f r n = grammar.operation {tag = 242} refl d grammar.reverse r n
branch_is depth size hexlify bs cs d f r n = grammar.operation {tag = 243} refl d grammar.hexlify r n
branch_is depth size (append a) bs cs d f r n =
    let p = and_parts _ _ f in
    grammar.operation {tag = 240} refl d (grammar.append (block_is 1 message_limit a (leb-true 1 (length a) p.0) (leb-true (length a) message_limit p.1) (omega arith))) r n
branch_is depth size (prepend a) bs cs d f r n =
    let p = and_parts _ _ f in
    grammar.operation {tag = 241} refl d (grammar.prepend (block_is 1 message_limit a (leb-true 1 (length a) p.0) (leb-true (length a) message_limit p.1) (omega arith))) r n

-- ---- nodes: the attestations before what follows them
module _ (depth size : ℕ) where
  -- the branches alone
  abbrev Follows : Tree → Type 0
  Follows end = Unit {0}
  Follows (more o marks below rest) = Node depth size (branches_bytes (more o marks below rest)) (through (more o marks below rest))

  marked : (a : Att) (marks : List Att) (t : Tree) → att_fits a ≡ true → marks_fit marks ≡ true → Follows t
      → Node depth size (node_bytes (a ∷ marks) t) (claims (a ∷ marks) t)
  unfolding marks_bytes through branches_bytes
  marked a [] end f g n =
      subst (λ z. Node depth size z (here a ∷ [])) (sym (append-nil (att_bytes a ++ []) ∙ append-nil (att_bytes a))) (last (mark_is depth size a f))
  marked a [] (more o marks below rest) f g n =
      subst (λ z. Node depth size (255 ∷ z) (here a ∷ through (more o marks below rest)))
      (sym (ap (λ z. z ++ branches_bytes (more o marks below rest)) (append-nil (att_bytes a))))
      (another (mark_is depth size a f) n)
  marked a (b ∷ marks) t f g n =
      let p = and_parts _ _ g in
      subst (λ z. Node depth size (255 ∷ z) (claims (a ∷ b ∷ marks) t))
      (sym (append_assoc (att_bytes a) (marks_bytes (b ∷ marks) (none t)) (branches_bytes t)))
      (another (mark_is depth size a f) (marked b marks t p.0 p.1 n))

pub node_is : (depth size : ℕ) (marks : List Att) (t : Tree) → filled marks t ≡ true → marks_fit marks ≡ true → Follows depth size t
    → Node depth size (node_bytes marks t) (claims marks t)
unfolding marks_bytes
node_is depth size (a ∷ marks) t h g n = let p = and_parts _ _ g in marked depth size a marks t p.0 p.1 n
node_is depth size [] end h g n = absurd (false≢true h)
node_is depth size [] (more o marks below rest) h g n = n

-- the parts of the limits of a branch
pub record Fits (depth size : ℕ) (o : Op) (m : List Att) (b r : Tree) : Type 0 where
  pub shallow : depth < path_limit
  pub argument : argument_fits o ≡ true
  pub result : result_of o size ≤ message_limit
  pub marks : marks_fit m ≡ true
  pub below : branches_fit (depth + 1) (result_of o size) b ≡ true
  pub rest : branches_fit depth size r ≡ true

pub fits : (depth size : ℕ) (o : Op) (m : List Att) (b r : Tree) → branches_fit depth size (more o m b r) ≡ true → Fits depth size o m b r
fits depth size o m b r f =
    let below = branches_fit (depth + 1) (result_of o size) b in let rest = branches_fit depth size r in
    let p = and_parts (op_fits depth size o) (marks_fit m && (below && rest)) f in
    let q = and_parts (marks_fit m) (below && rest) p.1 in
    let u = and_parts below rest q.1 in
    let s = and_parts (ltb depth path_limit) (argument_fits o && leb (result_of o size) message_limit) p.0 in
    let t = and_parts (argument_fits o) (leb (result_of o size) message_limit) s.1 in
    record {
      shallow = ltb-true depth path_limit s.0;
      argument = t.0;
      result = leb-true (result_of o size) message_limit t.1;
      marks = q.0;
      below = u.0;
      rest = u.1;
    }

below_is : (depth size : ℕ) (o : Op) (m : List Att) (b r : Tree) → filled m b ≡ true → Fits depth size o m b r → Follows (depth + 1) (result_of o size) b
    → Branch depth size (op_bytes o ++ node_bytes m b) (map (under o) (claims m b))
below_is depth size o m b r s f n = branch_is depth size o (node_bytes m b) (claims m b) f.shallow f.argument f.result
    (node_is (depth + 1) (result_of o size) m b s f.marks n)

pub follows : (depth size : ℕ) (t : Tree) → sorted t ≡ true → branches_fit depth size t ≡ true → Follows depth size t
unfolding branches_bytes through
follows depth size end s f = tt
follows depth size (more o m b end) s f =
    let w = parts o m b end s in let g = fits depth size o m b end f in
    subst (λ z. Node depth size z (map (under o) (claims m b) ++ [])) (sym (append-nil (op_bytes o ++ node_bytes m b)))
    (subst (λ z. Node depth size (op_bytes o ++ node_bytes m b) z) (sym (append-nil (map (under o) (claims m b))))
    (last (below_is depth size o m b end w.some g (follows (depth + 1) (result_of o size) b w.below g.below))))
follows depth size (more o m b (more p n c r)) s f =
    let w = parts o m b (more p n c r) s in let g = fits depth size o m b (more p n c r) f in
    another (below_is depth size o m b (more p n c r) w.some g (follows (depth + 1) (result_of o size) b w.below g.below))
    (follows depth size (more p n c r) w.rest g.rest)

-- ---- and read back

pub node_spelled : (depth size : ℕ) (m : List Att) (t : Tree) → filled m t ≡ true → sorted t ≡ true → every (fits_at depth size) (claims m t) ≡ true
    → Node depth size (node_bytes m t) (claims m t)
node_spelled depth size m t h s f =
    let g = node_fit depth size m t s f in
    node_is depth size m t h g.0 (follows depth size t s g.1)

-- a node is read back at any offset, whatever stands behind it
pub node_returns : (depth size : ℕ) (m : List Att) (t : Tree) (file : List ℕ) (at : ℕ) (rest : List ℕ)
    → filled m t ≡ true → sorted t ≡ true → every (fits_at depth size) (claims m t) ≡ true → at ≤ length file → drop at file ≡ node_bytes m t ++ rest
    → node_at depth size file at ≡ got (claims m t) (at + length (node_bytes m t))
node_returns depth size m t file at rest h s f w e =
    ends (node_at depth size file at) (claims m t) file (node_bytes m t) rest at w e
    (full_node (node_spelled depth size m t h s f) file at rest w e)
