-- What the grammar spells is read.
use Rattle.std.proofs.Common.{◌≡◌, ℕ, suc, ◌+◌, ◌-◌, ◌*◌, ◌^◌, ◌<◌, ◌≤◌, true, false, cond, ◌&&◌, eqb, ltb, leb, List, [], ◌∷◌, ◌++◌, length, get_or, take, drop, Some, None, sym, refl, ap, ◌∙◌, ⊎_elim, append_assoc, arith}
use Rattle.std.proofs.lemmas.Bool.{lt-ltb, le-ltb, le-leb, lt-leb, eq-eqb, ne_eqb, and_from, and_right, cond-true, cond-false, cases_Bool}
use Rattle.std.proofs.lemmas.List.{append-nil, drop-take, length-take-le, drop-drop, take_at, drop_at, length-append, length-drop, get_or-drop}
use Rattle.std.proofs.lemmas.Slice.Eq.{bytes_eq-Decides}
use Rattle.format.specs.declared.Kind.{Kind}
use Rattle.format.specs.Outcome.{Outcome, got, fault, then}
use Rattle.format.specs.Numbers.{byte_at, bytes_at, number_from, number_at, length_at, block_at}
use Rattle.format.specs.Operations.{kind_of, result_size, message_limit, path_limit, argument_at}
use Rattle.format.specs.Attestations.{Att, pending, bitcoin, pending_tag, bitcoin_tag, payload_limit, same, whole, content_at}
use Rattle.format.specs.Items.{Piece, operation_at, item_at}
use Rattle.format.specs.Items as items
use Rattle.format.specs.Nodes.{Claim, more_at, branch_by, node_at}
use Rattle.format.specs.Files.{mark, file_limit, mark_at, head, head_at, Said, said, top_at, file_at}
use Rattle.format.specs.Grammar.{Groups, final, onward, Number, Block, block, Argument, sha256, append, prepend, reverse, hexlify, Content, height, address, other, Branch, Node, attestation, operation, last, another, File, proof}
use Rattle.format.proofs.NumberSteps.{number_more}
use Rattle.format.proofs.Sound.{weigh, each_address, mark_long}
use Rattle.format.proofs.NodeLaw.{node_law}

-- x was read, up to an offset inside the file, and rest is left
pub record Full {A : Type 0} (o : Outcome A) (x : A) (file rest : List ℕ) : Type 0 where
  pub n : ℕ
  pub reads : o ≡ got x n
  pub left : drop n file ≡ rest
  pub within : n ≤ length file

pub full_here : {A : Type 0} {x : A} {file rest : List ℕ} (n : ℕ) → drop n file ≡ rest → n ≤ length file → Full (got x n) x file rest
full_here n l w = record { n = n; reads = refl; left = l; within = w }

pub full_then : {A B : Type 0} {o : Outcome A} {x : A} {file rest : List ℕ} (k : A → ℕ → Outcome B) {y : B} {rest' : List ℕ}
    → Full o x file rest → ((n : ℕ) → drop n file ≡ rest → n ≤ length file → Full (k x n) y file rest') → Full (then o k) y file rest'
full_then k f h = let g = h f.n f.left f.within in
    record { n = g.n; reads = ap (λ z. then z k) f.reads ∙ g.reads; left = g.left; within = g.within }

pub full_is : {A : Type 0} {o p : Outcome A} {x : A} {file rest : List ℕ} → p ≡ o → Full o x file rest → Full p x file rest
full_is e f = record { n = f.n; reads = e ∙ f.reads; left = f.left; within = f.within }

-- ---- bytes, numbers and lengths

-- the byte at an offset, by what is left there
pub first_left : (file : List ℕ) (at b : ℕ) (rest : List ℕ) → drop at file ≡ b ∷ rest → (at < length file) × (get_or file at 0 ≡ b)
first_left file at b rest e =
    let l = length-drop at file in
    let m : length (drop at file) ≡ suc (length rest) = ap length e in
    let g : get_or file (at + 0) 0 ≡ b = sym (get_or-drop at file 0 0) ∙ ap (λ z. get_or z 0 0) e in
    let z : at + 0 ≡ at = omega arith in
    (omega arith, ap (λ i. get_or file i 0) (sym z) ∙ g)

pub full_byte : (file : List ℕ) (at b : ℕ) (rest : List ℕ) → drop at file ≡ b ∷ rest → Full (byte_at file at) b file rest
full_byte file at b rest e =
    let f = first_left file at b rest e in
    let t : at < length file = f.0 in
    record {
      n = at + 1;
      reads = cond-true _ _ _ (lt-ltb at (length file) t) ∙ ap (λ i. got i (at + 1)) f.1;
      left = sym (drop-drop 1 at file) ∙ ap (λ z. drop 1 z) e;
      within = omega arith;
    }

-- bytes that were read, and where they stand
record Inside (o : Outcome (List ℕ)) (bs file rest : List ℕ) : Type 0 where
  full : Full o bs file rest
  inside : drop (full.n - length bs) (take full.n file) ≡ bs ++ []

inside_bytes : (k : ℕ) (file : List ℕ) (at : ℕ) (bs rest : List ℕ) → at ≤ length file → length bs ≡ k → drop at file ≡ bs ++ rest
    → Inside (bytes_at k file at) bs file rest
inside_bytes k file at bs rest w l e =
    let d = length-drop at file in
    let m : length (drop at file) ≡ length bs + length rest = ap length e ∙ length-append bs rest in
    let t : at + k ≤ length file = omega arith in
    let z : at + k - length bs ≡ at = omega arith in
    record {
      full = record {
        n = at + k;
        reads = cond-false _ _ _ (le-ltb (length file) (at + k) t) ∙ ap (λ z. got z (at + k)) (ap (λ z. take k z) e ∙ take_at bs rest k l);
        left = sym (drop-drop k at file) ∙ (ap (λ z. drop k z) e ∙ drop_at bs rest k l);
        within = t;
      };
      inside = ap (λ i. drop i (take (at + k) file)) z ∙ (drop-take at k file ∙ (ap (λ z. take k z) e ∙ (take_at bs rest k l ∙ sym (append-nil bs))));
    }

pub full_bytes : (k : ℕ) (file : List ℕ) (at : ℕ) (bs rest : List ℕ) → at ≤ length file → length bs ≡ k → drop at file ≡ bs ++ rest
    → Full (bytes_at k file at) bs file rest
full_bytes k file at bs rest w l e = (inside_bytes k file at bs rest w l e).full

number_step : (k j : ℕ) (file : List ℕ) (first w v at b next : ℕ) → k ≡ suc j → byte_at file at ≡ got b next
    → number_from k file first w v at
    ≡ cond (ltb b 128) (cond (ltb (v + b * w) (2 ^ 32)) (got (v + b * w) next) (fault 7 first))
    (number_from j file first (w * 128) (v + (b - 128) * w) next)
number_step k j file first w v at b next e h = number_more k j file first w v at e ∙
    ap (λ x. then x (λ b next.
    cond (ltb b 128)
    (cond (ltb (v + b * w) (2 ^ 32)) (got (v + b * w) next) (fault 7 first))
    (number_from j file first (w * 128) (v + (b - 128) * w) next))) h

full_groups : {bs : List ℕ} {u : ℕ} → Groups bs u → (k w v first : ℕ) (file : List ℕ) (at : ℕ) (rest : List ℕ)
    → length bs ≤ k → v + u * w < 2 ^ 32 → drop at file ≡ bs ++ rest → Full (number_from k file first w v at) (v + u * w) file rest
full_groups (final {b = b} h) k w v first file at rest l s e =
    let f = full_byte file at b rest e in
    full_is (number_step k (k - 1) file first w v at b f.n (omega arith) f.reads
    ∙ (cond-true _ _ _ (lt-ltb b 128 h) ∙ cond-true _ _ _ (lt-ltb (v + b * w) (2 ^ 32) s)))
    (full_here f.n f.left f.within)
full_groups (onward {b = b} {bs = bs} {v = u} h g) k w v first file at rest l s e =
    let f = full_byte file at b (bs ++ rest) e in
    let q = weigh b u w v in
    let r = full_groups g (k - 1) (w * 128) (v + (b - 128) * w) first file f.n rest (omega arith) (omega arith) f.left in
    record {
      n = r.n;
      reads = number_step k (k - 1) file first w v at b f.n (omega arith) f.reads
          ∙ (cond-false _ _ _ (le-ltb b 128 h) ∙ (r.reads ∙ ap (λ z. got z r.n) q));
      left = r.left;
      within = r.within;
    }

pub full_number : (bs : List ℕ) (x : ℕ) → Number bs x → (file : List ℕ) (at : ℕ) (rest : List ℕ) → drop at file ≡ bs ++ rest
    → Full (number_at file at) x file rest
unfolding number_at
full_number bs x m file at rest e =
    let z : 0 + x * 1 ≡ x = omega arith in
    let s : 0 + x * 1 < 2 ^ 32 = let h = m.small in omega arith in
    let r = full_groups m.groups 5 1 0 at file at rest m.short s e in
    record { n = r.n; reads = r.reads ∙ ap (λ i. got i r.n) z; left = r.left; within = r.within }

inside_block : {lo hi : ℕ} {ns bs : List ℕ} → Block lo hi ns bs → (file : List ℕ) (at : ℕ) (rest : List ℕ) → drop at file ≡ ns ++ rest
    → Inside (block_at lo hi file at) bs file rest
inside_block {lo = lo} {hi = hi} (block {ns = ns} {bs = bs} m low high) file at rest e =
    let f = full_number ns (length bs) m file at (bs ++ rest) (e ∙ append_assoc ns bs rest) in
    let g = inside_bytes (length bs) file f.n bs rest f.within refl f.left in
    let fits : length_at lo hi file at ≡ got (length bs) f.n =
    ap (λ z. then z (λ n next. cond (leb lo n && leb n hi) (got n next) (fault 8 at))) f.reads
    ∙ cond-true _ _ _ (and_from _ _ (le-leb lo (length bs) low) (le-leb (length bs) hi high)) in
    let h = g.full in
    record {
      full = record { n = h.n; reads = ap (λ z. then z (λ n next. bytes_at n file next)) fits ∙ h.reads; left = h.left; within = h.within };
      inside = g.inside;
    }

pub full_block : {lo hi : ℕ} {ns bs : List ℕ} → Block lo hi ns bs → (file : List ℕ) (at : ℕ) (rest : List ℕ) → drop at file ≡ ns ++ rest
    → Full (block_at lo hi file at) bs file rest
full_block b file at rest e = (inside_block b file at rest e).full

-- ---- operations

full_argument : {kind : Kind} {ns a : List ℕ} → Argument kind ns a → (file : List ℕ) (at : ℕ) (rest : List ℕ) → at ≤ length file
    → drop at file ≡ ns ++ rest → Full (argument_at kind file at) a file rest
full_argument sha256 file at rest w e = full_here at e w
full_argument (append b) file at rest w e = full_block b file at rest e
full_argument (prepend b) file at rest w e = full_block b file at rest e
full_argument reverse file at rest w e = full_here at e w
full_argument hexlify file at rest w e = full_here at e w

-- a byte that is no operation's tag
listed : (tag n : ℕ) (kind : Kind) → kind_of n ≡ None → kind_of tag ≡ Some kind → tag ≡ n → ⊥
listed tag n kind z e h = let q : kind_of tag ≡ kind_of n = ap kind_of h in let y : ◌≡◌ {A = ℕ} 0 1 = cc in omega arith

-- a piece that was read, with offsets of its own
record Found (o : Outcome Piece) (p : ℕ → ℕ → Piece) (file rest : List ℕ) : Type 0 where
  offset : ℕ
  first : ℕ
  full : Full o (p offset first) file rest

found_then : {A : Type 0} {o : Outcome A} {x : A} {file rest : List ℕ} (k : A → ℕ → Outcome Piece) {p : ℕ → ℕ → Piece} {rest' : List ℕ}
    → Full o x file rest → ((n : ℕ) → drop n file ≡ rest → n ≤ length file → Found (k x n) p file rest') → Found (then o k) p file rest'
found_then k f h = let g = h f.n f.left f.within in
    record { offset = g.offset; first = g.first; full = full_is (ap (λ z. then z k) f.reads) g.full }

found_is : {o q : Outcome Piece} {p : ℕ → ℕ → Piece} {file rest : List ℕ} → q ≡ o → Found o p file rest → Found q p file rest
found_is e f = record { offset = f.offset; first = f.first; full = full_is e f.full }

found_operation : (depth size tag : ℕ) (kind : Kind) (xs a : List ℕ) → kind_of tag ≡ Some kind → depth < path_limit → Argument kind xs a
    → result_size kind size (length a) ≤ message_limit → (file : List ℕ) (at : ℕ) (rest : List ℕ) → drop at file ≡ (tag ∷ xs) ++ rest
    → Found (item_at depth size file at) (items.operation kind a) file rest
found_operation depth size tag kind xs a k d m f file at rest e =
    found_then _ (full_byte file at tag (xs ++ rest) e) (λ n c w.
    found_is (cond-false _ _ _ (ne_eqb tag 0 (listed tag 0 kind refl k)) ∙ (ap (λ z. operation_at z at depth size file n) k
    ∙ cond-false _ _ _ (lt-leb path_limit depth d)))
    (found_then _ (full_argument m file n rest w c) (λ j b v.
    record {
      offset = at;
      first = j - length a;
      full = full_is (cond-true _ _ _ (le-leb (result_size kind size (length a)) message_limit f)) (full_here j b v);
    })))

-- ---- attestations

-- all of a payload was read, so the reading ended at the payload's end
full_whole : {A : Type 0} (o : Outcome A) (x : A) (file : List ℕ) (first end : ℕ) → end ≤ length file
    → Full o x (take end file) [] → whole first end o ≡ got x end
full_whole o x file first end w f =
    let l = length-drop f.n (take end file) in
    let m : length (drop f.n (take end file)) ≡ 0 = ap length f.left in
    let i = f.within in
    let k = length-take-le end file w in
    let q : f.n ≡ end = omega arith in
    ap (λ z. whole first end z) f.reads ∙ (cond-true _ _ _ (eq-eqb f.n end q) ∙ ap (λ z. got x z) q)

pub not_same : (xs ys : List ℕ) → (xs ≡ ys → ⊥) → same xs ys ≡ false
not_same xs ys h = ⊎_elim (λ e. absurd (h ((bytes_eq-Decides xs ys).0 e))) (λ e. e) (cases_Bool (same xs ys))

full_content : {tag payload : List ℕ} {a : Att} → Content tag payload a → (file : List ℕ) (first end : ℕ) → end ≤ length file
    → drop first (take end file) ≡ payload ++ [] → content_at tag payload file first end ≡ got a end
full_content (height {payload = ps} {h = h} m) file first end w e =
    ap (λ z. then z (λ h n. got (bitcoin h) n)) (full_whole _ _ file first end w (full_number ps h m (take end file) first [] e))
full_content (address {payload = ps} {a = a} b c) file first end w e =
    ap (λ z. then z (λ a n. got (pending a) n))
    (full_whole _ _ file first end w (full_then _ (full_block b (take end file) first [] e) (λ n l v.
    full_is (cond-true _ _ _ (each_address a c)) (full_here n l v))))
full_content (other {tag = tag} b p) file first end w e =
    cond-false _ _ _ (not_same tag bitcoin_tag b) ∙ cond-false _ _ _ (not_same tag pending_tag p)

-- a block and its content
found_payload : (at : ℕ) (tag ns payload : List ℕ) (a : Att) → Block 0 payload_limit ns payload → Content tag payload a
    → (file : List ℕ) (m : ℕ) (rest : List ℕ) → drop m file ≡ ns ++ rest
    → Found (then (block_at 0 payload_limit file m) (λ payload end.
    then (content_at tag payload file (end - length payload) end) (λ a last. got (items.attestation a payload at (end - length payload)) last)))
    (items.attestation a payload) file rest
found_payload at tag ns payload a b t file m rest e =
    let i = inside_block b file m rest e in
    let f = i.full in
    let c = full_content t file (f.n - length payload) f.n f.within i.inside in
    record {
      offset = at;
      first = f.n - length payload;
      full = full_is (ap (λ o. then o (λ payload end.
          then (content_at tag payload file (end - length payload) end) (λ a last. got (items.attestation a payload at (end - length payload)) last))) f.reads
          ∙ ap (λ o. then o (λ a last. got (items.attestation a payload at (f.n - length payload)) last)) c)
          (full_here f.n f.left f.within);
    }

found_attestation : (depth size : ℕ) (tag ps payload : List ℕ) (a : Att) → length tag ≡ 8 → Block 0 payload_limit ps payload → Content tag payload a
    → (file : List ℕ) (at : ℕ) (rest : List ℕ) → drop at file ≡ (0 ∷ (tag ++ ps)) ++ rest
    → Found (item_at depth size file at) (items.attestation a payload) file rest
found_attestation depth size tag ps payload a l b t file at rest e =
    found_then _ (full_byte file at 0 ((tag ++ ps) ++ rest) e) (λ n d w.
    found_then _ (full_bytes 8 file n tag (ps ++ rest) w l (d ∙ append_assoc tag ps rest)) (λ m c v.
    found_payload n tag ps payload a b t file m rest c))

-- ---- nodes

full_more : (file : List ℕ) (at : ℕ) (rest : List ℕ) → drop at file ≡ 0xff ∷ rest → Full (more_at file at) true file rest
full_more file at rest e =
    let f = first_left file at 0xff rest e in
    let t : at < length file = f.0 in
    record {
      n = at + 1;
      reads = cond-true _ _ _ (and_from _ _ (lt-ltb at (length file) t) (eq-eqb (get_or file at 0) 0xff f.1));
      left = sym (drop-drop 1 at file) ∙ ap (λ z. drop 1 z) e;
      within = omega arith;
    }

full_no_more : (file : List ℕ) (at b : ℕ) (rest : List ℕ) → (b ≡ 0xff → ⊥) → at ≤ length file → drop at file ≡ b ∷ rest
    → Full (more_at file at) false file (b ∷ rest)
full_no_more file at b rest h w e =
    let f = first_left file at b rest e in
    record { n = at; reads = cond-false _ _ _ (and_right (ltb at (length file)) _ (ne_eqb (get_or file at 0) 0xff (λ q. h (sym f.1 ∙ q)))); left = e; within = w }

-- the first byte of a branch is not ff
record Begins (bs : List ℕ) : Type 0 where
  b : ℕ
  rest : List ℕ
  is : bs ≡ b ∷ rest
  item : b ≡ 0xff → ⊥

first_of : {depth size : ℕ} {bs : List ℕ} {cs : List Claim} → Branch depth size bs cs → Begins bs
first_of (attestation {tag = tag} {ps = ps} l b t) = record { b = 0; rest = tag ++ ps; is = refl; item = λ q. omega arith }
first_of (operation {tag = tag} {kind = kind} {xs = xs} {bs = bs} k d m f n) =
    record { b = tag; rest = xs ++ bs; is = refl; item = listed tag 0xff kind refl k }

mutual
  full_branch : {depth size : ℕ} {bs : List ℕ} {cs : List Claim} → Branch depth size bs cs → (file : List ℕ) (at : ℕ) (rest : List ℕ)
      → drop at file ≡ bs ++ rest → Full (branch_by node_at depth size file at) cs file rest
  full_branch (attestation {depth = depth} {size = size} {tag = tag} {ps = ps} {payload = payload} {a = a} l b t) file at rest e =
      full_then _ (found_attestation depth size tag ps payload a l b t file at rest e).full (λ n d w. full_here n d w)
  full_branch (operation {depth = depth} {size = size} {tag = tag} {kind = kind} {xs = xs} {argument = a} {bs = bs} k d m f node) file at rest e =
      full_then _ (found_operation depth size tag kind xs a k d m f file at (bs ++ rest) (e ∙ append_assoc (tag ∷ xs) bs rest)).full (λ n c w.
      full_then _ (full_node node file n rest w c) (λ j b v. full_here j b v))

  -- a node at any offset, whatever stands behind it
  pub full_node : {depth size : ℕ} {bs : List ℕ} {cs : List Claim} → Node depth size bs cs → (file : List ℕ) (at : ℕ) (rest : List ℕ)
      → at ≤ length file → drop at file ≡ bs ++ rest → Full (node_at depth size file at) cs file rest
  full_node (last {depth = depth} {size = size} {bs = bs} b) file at rest w e =
      let p = first_of b in
      full_is (node_law depth size file at)
      (full_then _ (full_no_more file at p.b (p.rest ++ rest) p.item w (e ∙ ap (λ z. z ++ rest) p.is)) (λ n d v.
      full_then _ (full_branch b file n rest (d ∙ sym (ap (λ z. z ++ rest) p.is))) (λ m c u. full_here m c u)))
  full_node (another {depth = depth} {size = size} {xs = xs} {bs = bs} b node) file at rest w e =
      full_is (node_law depth size file at)
      (full_then _ (full_more file at ((xs ++ bs) ++ rest) e) (λ n d v.
      full_then _ (full_branch b file n (bs ++ rest) (d ∙ append_assoc xs bs rest)) (λ m c u.
      full_then _ (full_node node file m rest u c) (λ j a t. full_here j a t))))

-- ---- files

pub full_mark : (ms file : List ℕ) (at : ℕ) (rest : List ℕ) → at ≤ length file → drop at file ≡ ms ++ rest → Full (mark_at ms file at) tt file rest
unfolding mark_at
full_mark [] file at rest w e = full_here at e w
full_mark (m ∷ ms) file at rest w e =
    full_then _ (full_byte file at m (ms ++ rest) e) (λ n d v.
    full_is (cond-true _ _ _ (eq-eqb m m refl)) (full_mark ms file n rest v d))

-- where an offset inside the file is, by what is left there
place : (file before rest : List ℕ) (n : ℕ) → file ≡ before ++ rest → drop n file ≡ rest → n ≤ length file → n ≡ length before
place file before rest n e l w =
    let d = length-drop n file in
    let m : length (drop n file) ≡ length rest = ap length l in
    let k : length file ≡ length before + length rest = ap length e ∙ length-append before rest in
    omega arith

-- the head of a file, whatever follows it
pub full_head : (vs digest bs : List ℕ) → Number vs 1 → length digest ≡ 32
    → Full (head_at (mark ++ (vs ++ (0x08 ∷ (digest ++ bs))))) (head (31 + length vs) digest) (mark ++ (vs ++ (0x08 ∷ (digest ++ bs)))) bs
full_head vs digest bs v l =
    let behind : List ℕ = 0x08 ∷ (digest ++ bs) in
    let file : List ℕ = mark ++ (vs ++ behind) in
    full_then _ (full_mark mark file 0 (vs ++ behind) (omega arith) refl) (λ at d w.
    full_then _ (full_number vs 1 v file at behind d) (λ next c u.
    full_then _ (full_byte file next 0x08 (digest ++ bs) c) (λ n a t.
    full_then _ (full_bytes 32 file n digest bs t l a) (λ top z y.
    let p = place file (mark ++ vs) behind next (sym (append_assoc mark vs behind)) c u in
    let k = length-append mark vs in let m = mark_long in
    let q : next ≡ 31 + length vs = omega arith in
    full_is (ap (λ i. got (head i digest) top) q) (full_here top z y)))))

pub full_file : (file : List ℕ) (s : Said) → File file s → file_at file ≡ got s (length file)
unfolding file_at top_at
full_file _ _ (proof {vs = vs} {digest = digest} {bs = bs} {cs = cs} v l node fits) =
    let file : List ℕ = mark ++ (vs ++ (0x08 ∷ (digest ++ bs))) in
    let f = full_then (λ h top. then (node_at 0 32 file top) (λ cs last. got (said h cs) last)) (full_head vs digest bs v l) (λ top d w.
    full_then (λ cs last. got (said (head (31 + length vs) digest) cs) last) (full_node node file top [] w (d ∙ sym (append-nil bs))) (λ n c u. full_here n c u)) in
    let p = place file file [] f.n (sym (append-nil file)) f.left f.within in
    cond-true _ _ _ (le-leb (length file) file_limit fits) ∙
    (ap (λ o. then o (λ s last. cond (eqb last (length file)) (got s last) (fault 12 last))) f.reads
    ∙ (cond-true _ _ _ (eq-eqb f.n (length file) p) ∙ ap (λ i. got (said (head (31 + length vs) digest) cs) i) p))
