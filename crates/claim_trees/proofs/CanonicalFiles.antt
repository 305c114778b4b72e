-- What is written is the canonical file, and there is no other.
use Rattle.std.proofs.Common.{◌≡◌, ℕ, ◌<◌, true, false, ◌&&◌, List, [], ◌∷◌, ◌++◌, map, length, Less, sym, refl, ap, ◌∙◌, subst, inl, inr, true≢false}
use Rattle.std.specs.List.{AllByRecursion}
use Rattle.std.specs.Ordering.{is_lt}
use Rattle.std.proofs.lemmas.Bool.{and_parts, and_from}
use Rattle.std.proofs.lemmas.List.{append-nil, append_assoc}
use Rattle.format.specs.Outcome.{Outcome, got, fault}
use Rattle.format.specs.Operations.{Op}
use Rattle.format.specs.Attestations.{Att}
use Rattle.format.specs.Nodes.{Claim, claim, under}
use Rattle.format.specs.Files.{Said, said, head, file_at}
use Rattle.claim_trees.specs.Tree.{Tree, end, more, Held, held, here, through, claims, In, Alike, Claims, filled}
use Rattle.claim_trees.specs.Order.{att_order, claim_order, ahead, rising, ascends, before, sorted}
use Rattle.claim_trees.specs.Bytes.{op_bytes, att_bytes, ff, none, nil, marks_bytes, branches_bytes, node_bytes, file_of}
use Rattle.claim_trees.specs.Size.{Size, Sized, within}
use Rattle.claim_trees.specs.Gathered.{gathered, written}
use Rattle.claim_trees.specs.Canonical.{Later, Operations, last_operation, operation, Items, operations, last_attestation, attestation, Canonical}
use Rattle.claim_trees.specs.Laws.{Fitting, CanonicalLaw}
use Rattle.claim_trees.proofs.Orders.{claims_ordered, is_less}
use Rattle.claim_trees.proofs.Listing.{listed}
use Rattle.claim_trees.proofs.Kept.{parts, whole}
use Rattle.claim_trees.proofs.Unique.{after, witness, beyond}
use Rattle.claim_trees.proofs.Ascending.{written_rising}
use Rattle.claim_trees.proofs.Gathering.{alike_back, alike_trans, filled_from, gathered_holds, holds_one, gathered_alike}
use Rattle.claim_trees.proofs.WrittenFiles.{reread}

all_from : {A : Type 0} (P : A → Type 0) (xs : List A) → ((x : A) → In x xs → P x) → AllByRecursion P xs
all_from P [] h = tt
all_from P (x ∷ xs) h = (h x (inl refl), all_from P xs (λ y i. h y (inr i)))

in_all : {A : Type 0} (P : A → Type 0) (xs : List A) → AllByRecursion P xs → (x : A) → In x xs → P x
in_all P [] h x i = absurd i
in_all P (y ∷ ys) h x (inl e) = subst P (sym e) h.0
in_all P (y ∷ ys) h x (inr i) = in_all P ys h.1 x i

-- ---- a sorted tree is written in canonical form

later_by : (o : Op) (t : Tree) (os : List Op) (a : Att) → before o t ≡ true → sorted t ≡ true → In (claim os a) (through t) → Later o os
later_by o t [] a h s i = absurd ((listed [] a [] t).0 i)
later_by o t (p ∷ ps) a h s i = is_less _ (beyond o t h s p (Claims ps a) ((listed (p ∷ ps) a [] t).0 i))

all_later : (o : Op) (t : Tree) → before o t ≡ true → sorted t ≡ true → AllByRecursion (λ d. Later o d.path) (through t)
all_later o t h s = all_from (λ d. Later o d.path) (through t) (λ d i. later_by o t d.path d.attestation h s i)

all_after : (a : Att) (m : List Att) (t : Tree) → ascends (a ∷ m) ≡ true → sorted t ≡ true → AllByRecursion (λ c. claim_order (here a) c ≡ Less) (claims m t)
all_after a m t h s =
    let r = and_parts (ahead claim_order (here a) (claims m t)) (rising claim_order (claims m t)) (written_rising (a ∷ m) t h s) in
    all_from (λ c. claim_order (here a) c ≡ Less) (claims m t) (λ c i. is_less _ (after claims_ordered (here a) (claims m t) r.0 r.1 c i))

abbrev Follows : Tree → Type 0
Follows end = Unit {0}
Follows (more o m b r) = Operations (through (more o m b r)) (branches_bytes (more o m b r))

marked : (a : Att) (m : List Att) (t : Tree) → ascends (a ∷ m) ≡ true → sorted t ≡ true → Follows t → Items (claims (a ∷ m) t) (node_bytes (a ∷ m) t)
unfolding marks_bytes through branches_bytes
marked a [] end h s n =
    subst (λ z. Items (here a ∷ []) z) (sym (append-nil (att_bytes a ++ []) ∙ append-nil (att_bytes a))) (last_attestation a)
marked a [] (more o m b r) h s n =
    subst (λ z. Items (here a ∷ through (more o m b r)) (0xff ∷ z)) (sym (ap (λ z. z ++ branches_bytes (more o m b r)) (append-nil (att_bytes a))))
    (attestation a (all_after a [] (more o m b r) h s) (operations n))
marked a (c ∷ m) t h s n =
    let p = and_parts (is_lt (att_order a c)) (ascends (c ∷ m)) h in
    subst (λ z. Items (claims (a ∷ (c ∷ m)) t) (0xff ∷ z)) (sym (append_assoc (att_bytes a) (marks_bytes (c ∷ m) (none t)) (branches_bytes t)))
    (attestation a (all_after a (c ∷ m) t h s) (marked c m t p.1 s n))

items_by : (m : List Att) (t : Tree) → ascends m ≡ true → sorted t ≡ true → filled m t ≡ true → Follows t → Items (claims m t) (node_bytes m t)
unfolding marks_bytes
items_by (a ∷ m) t h s f n = marked a m t h s n
items_by [] end h s f n = absurd (true≢false (sym f))
items_by [] (more o m b r) h s f n = operations n

follows : (t : Tree) → sorted t ≡ true → Follows t
unfolding branches_bytes through
follows end s = tt
follows (more o m b end) s =
    let w = parts o m b end s in
    let i = items_by m b w.marks w.below w.some (follows b w.below) in
    subst (λ z. Operations (map (under o) (claims m b) ++ []) z) (sym (append-nil (op_bytes o ++ node_bytes m b)))
    (subst (λ z. Operations z (op_bytes o ++ node_bytes m b)) (sym (append-nil (map (under o) (claims m b)))) (last_operation o i))
follows (more o m b (more p n c r)) s =
    let w = parts o m b (more p n c r) s in
    let i = items_by m b w.marks w.below w.some (follows b w.below) in
    operation o i (all_later o (more p n c r) w.first w.rest) (follows (more p n c r) w.rest)

pub items_of : (m : List Att) (t : Tree) → ascends m ≡ true → sorted t ≡ true → filled m t ≡ true → Items (claims m t) (node_bytes m t)
items_of m t h s f = items_by m t h s f (follows t s)

-- ---- and canonical form is that of a sorted tree

record Planted (cs : List Claim) (bs : List ℕ) : Type 0 where
  branches : Tree
  sorts : sorted branches ≡ true
  some : none branches ≡ false
  says : through branches ≡ cs
  spells : branches_bytes branches ≡ bs

record Grown (cs : List Claim) (bs : List ℕ) : Type 0 where
  marks : List Att
  branches : Tree
  ascend : ascends marks ≡ true
  sorts : sorted branches ≡ true
  some : filled marks branches ≡ true
  says : claims marks branches ≡ cs
  spells : node_bytes marks branches ≡ bs

before_from : (o : Op) (t : Tree) → sorted t ≡ true → AllByRecursion (λ d. Later o d.path) (through t) → before o t ≡ true
before_from o end s h = refl
before_from o (more p n c r) s h =
    let w = parts p n c r s in
    let k = witness n c w.some w.below in
    ap is_lt (in_all (λ d. Later o d.path) (through (more p n c r)) h (claim (p ∷ k.0) k.1) ((listed (p ∷ k.0) k.1 [] (more p n c r)).1 (inl (refl, k.2))))

ahead_from : (a : Att) (m : List Att) (t : Tree) → AllByRecursion (λ c. claim_order (here a) c ≡ Less) (claims m t) → ahead att_order a m ≡ true
ahead_from a [] t h = refl
ahead_from a (b ∷ m) t h = ap is_lt h.0

filled_some : (t : Tree) → none t ≡ false → filled [] t ≡ true
filled_some end h = absurd (true≢false h)
filled_some (more o m b r) h = refl

not_last : (m : List Att) (t : Tree) → filled m t ≡ true → (nil m && none t) ≡ false
not_last (a ∷ m) t h = refl
not_last [] end h = absurd (true≢false (sym h))
not_last [] (more o m b r) h = refl

mutual
  unfolding through marks_bytes branches_bytes

  planted : {cs : List Claim} {bs : List ℕ} → Operations cs bs → Planted cs bs
  planted (last_operation o i) =
      let g = grown i in
      record {
        branches = more o g.marks g.branches end;
        sorts = whole o g.marks g.branches end (record { first = refl; marks = g.ascend; some = g.some; below = g.sorts; rest = refl });
        some = refl;
        says = append-nil (map (under o) (claims g.marks g.branches)) ∙ ap (map (under o)) g.says;
        spells = append-nil (op_bytes o ++ node_bytes g.marks g.branches) ∙ ap (λ z. op_bytes o ++ z) g.spells;
      }
  planted (operation o i later p) =
      let g = grown i in let r = planted p in
      record {
        branches = more o g.marks g.branches r.branches;
        sorts = whole o g.marks g.branches r.branches (record {
          first = before_from o r.branches r.sorts (subst (AllByRecursion (λ d. Later o d.path)) (sym r.says) later);
          marks = g.ascend;
          some = g.some;
          below = g.sorts;
          rest = r.sorts;
        });
        some = refl;
        says = λ i. map (under o) (g.says i) ++ r.says i;
        spells = λ i. ff (r.some i) ++ ((op_bytes o ++ g.spells i) ++ r.spells i);
      }

  grown : {cs : List Claim} {bs : List ℕ} → Items cs bs → Grown cs bs
  grown (operations p) =
      let r = planted p in
      record { marks = []; branches = r.branches; ascend = refl; sorts = r.sorts; some = filled_some r.branches r.some; says = r.says; spells = r.spells }
  grown (last_attestation a) =
      record { marks = a ∷ []; branches = end; ascend = refl; sorts = refl; some = refl; says = refl; spells = append-nil (att_bytes a ++ []) ∙ append-nil (att_bytes a) }
  grown (attestation a after i) =
      let g = grown i in
      record {
        marks = a ∷ g.marks;
        branches = g.branches;
        ascend = and_from _ _ (ahead_from a g.marks g.branches (subst (AllByRecursion (λ c. claim_order (here a) c ≡ Less)) (sym g.says) after)) g.ascend;
        sorts = g.sorts;
        some = refl;
        says = ap (λ z. here a ∷ z) g.says;
        spells = ap (λ z. (ff z ++ (att_bytes a ++ marks_bytes g.marks (none g.branches))) ++ branches_bytes g.branches) (not_last g.marks g.branches g.some)
            ∙ (ap (λ z. 0xff ∷ z) (append_assoc (att_bytes a) (marks_bytes g.marks (none g.branches)) (branches_bytes g.branches))
            ∙ ap (λ z. 0xff ∷ (att_bytes a ++ z)) g.spells);
      }

-- ---- the laws

pub canonical : (digest : List ℕ) (cs : List Claim) → 0 < length cs → Canonical digest cs (written digest cs)
canonical digest cs l =
    let x = gathered cs in let h = gathered_holds cs in
    record {
      listed = claims x.marks x.branches;
      node = node_bytes x.marks x.branches;
      members = h.claims;
      items = items_of x.marks x.branches h.marks h.branches (filled_from x.marks x.branches cs l h.claims);
      is = refl;
    }

pub only : (digest : List ℕ) (cs : List Claim) (bytes : List ℕ) → Canonical digest cs bytes → bytes ≡ written digest cs
only digest cs bytes c =
    let g = grown c.items in
    let x = held g.marks g.branches in
    let e : x ≡ gathered cs = holds_one x cs (record { marks = g.ascend; branches = g.sorts; claims = subst (λ z. Alike z cs) (sym g.says) c.members }) in
    c.is ∙ (ap (file_of digest) (sym g.spells) ∙ ap (λ (y : Held). file_of digest (node_bytes y.marks y.branches)) e)

same : (digest : List ℕ) (cs ds : List Claim) → Alike cs ds → written digest cs ≡ written digest ds
same digest cs ds h = ap (λ (y : Held). file_of digest (node_bytes y.marks y.branches)) (gathered_alike cs ds h)

abbrev what : Outcome Said → Said
what (got s n) = s
what (fault m n) = said (head 0 []) []

apart : (digest other : List ℕ) (cs ds : List Claim) (s t : Size) → length digest ≡ 32 → length other ≡ 32
    → Fitting cs → Fitting ds → Sized cs s → Sized ds t → within s ≡ true → within t ≡ true
    → written digest cs ≡ written other ds → (digest ≡ other) × Alike cs ds
apart digest other cs ds s t k l f g x y v w e =
    let a = reread digest cs s k f x v in
    let b = reread other ds t l g y w in
    let q : said (head 32 digest) a.0 ≡ said (head 32 other) b.0 = ap what (sym a.1 ∙ (ap file_at e ∙ b.1)) in
    let p : a.0 ≡ b.0 = ap (λ s. s.claims) q in (
      ap (λ s. s.head.digest) q,
      alike_trans cs a.0 ds (alike_back a.0 cs a.2) (subst (λ z. Alike z ds) (sym p) b.2),
    )

again : (digest : List ℕ) (cs : List Claim) (s : Size) (t : Said) (n : ℕ) → length digest ≡ 32 → Fitting cs → Sized cs s → within s ≡ true
    → file_at (written digest cs) ≡ got t n → written t.head.digest t.claims ≡ written digest cs
again digest cs s t n l f x w e =
    let a = reread digest cs s l f x w in
    let q : t ≡ said (head 32 digest) a.0 = ap what (sym e ∙ a.1) in
    ap (λ (r : Said). written r.head.digest r.claims) q ∙ same digest a.0 cs a.2

pub canonical_law : CanonicalLaw
canonical_law = record { canonical = canonical; only = only; same = same; apart = apart; again = again }
