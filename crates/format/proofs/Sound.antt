-- What is read is spelt by the grammar.
use Rattle.std.proofs.Common.{◌≡◌, ℕ, zero, suc, ◌+◌, ◌-◌, ◌*◌, ◌^◌, ◌<◌, ◌≤◌, Bool, true, false, cond, ◌&&◌, eqb, ltb, leb, List, [], ◌∷◌, ◌++◌, length, get_or, take, drop, Some, None, Option, sym, refl, ap, ◌∙◌, subst, append_assoc, suc-le-suc, mul_assoc, mul_comm, add-mul, arith}
use Rattle.std.specs.List.{AllByRecursion}
use Rattle.std.proofs.lemmas.Bool.{ltb-true, ltb-false, leb-true, leb-false, eqb-true, and_parts, both_ways}
use Rattle.std.proofs.lemmas.List.{drop_more, take-append-drop, drop-drop, length-take-le, length-take, length-drop, length-append, drop-take, drop_all, append-nil}
use Rattle.std.proofs.ByRecursion.{Decides-by_and}
use Rattle.std.proofs.lemmas.Slice.Eq.{bytes_eq-Decides}
use Rattle.format.specs.declared.Kind.{Kind}
use Rattle.format.specs.declared.Kind.TheVariants.{Sha256, Append, Prepend, Reverse, Hexlify}
use Rattle.format.specs.Outcome.{Outcome, got, fault, then}
use Rattle.format.specs.Numbers.{byte_at, bytes_at, number_from, number_at, length_at, block_at}
use Rattle.format.specs.Operations.{kind_of, result_size, message_limit, path_limit, argument_at}
use Rattle.format.specs.Attestations.{Att, pending, bitcoin, pending_tag, bitcoin_tag, payload_limit, address_limit, address_byte, same, address_bytes, whole, height_at, address_at, content_at}
use Rattle.format.specs.Items.{Piece, operation_at, attestation_at, item_at}
use Rattle.format.specs.Items as items
use Rattle.format.specs.Nodes.{Claim, more_at, Reading, below_by, branch_by, node_from, node_at}
use Rattle.format.specs.Files.{mark, file_limit, mark_at, Head, head, digest_at, head_at, Said, said, top_at, file_at}
use Rattle.format.specs.Grammar.{Groups, final, onward, Number, Block, block, Argument, sha256, append, prepend, reverse, hexlify, Content, height, address, other, Branch, Node, attestation, operation, last, another, File, proof}

-- what holds of the value and the next offset, where there are such
abbrev pub Reads : {A : Type 0} → (A → ℕ → Type 0) → Outcome A → Type 0
Reads P (got x n) = P x n
Reads P (fault c o) = Unit {0}

pub reads_then : {A B : Type 0} (P : A → ℕ → Type 0) (Q : B → ℕ → Type 0) (o : Outcome A) (k : A → ℕ → Outcome B)
    → Reads P o → ((x : A) (n : ℕ) → P x n → Reads Q (k x n)) → Reads Q (then o k)
reads_then P Q (got x n) k p h = h x n p
reads_then P Q (fault c o) k p h = tt

pub reads_weaker : {A : Type 0} (P Q : A → ℕ → Type 0) (o : Outcome A) → Reads P o → ((x : A) (n : ℕ) → P x n → Q x n) → Reads Q o
reads_weaker P Q (got x n) p h = h x n p
reads_weaker P Q (fault c o) p h = tt

pub reads_cond : {A : Type 0} (P : A → ℕ → Type 0) (b : Bool) (o p : Outcome A)
    → (b ≡ true → Reads P o) → (b ≡ false → Reads P p) → Reads P (cond b o p)
reads_cond P true o p h g = h refl
reads_cond P false o p h g = g refl

-- the bytes of the file from offset a to offset b
pub record Spelt (file : List ℕ) (a b : ℕ) (bs : List ℕ) : Type 0 where
  pub are : drop a file ≡ bs ++ drop b file
  pub ends : b ≡ a + length bs

spelt_none : (file : List ℕ) (a : ℕ) → Spelt file a a []
spelt_none file a = record { are = refl; ends = omega arith }

spelt_join : (file : List ℕ) (a b c : ℕ) (xs ys : List ℕ) → Spelt file a b xs → Spelt file b c ys → Spelt file a c (xs ++ ys)
spelt_join file a b c xs ys p q = record {
  are = p.are ∙ (ap (λ z. xs ++ z) q.are ∙ sym (append_assoc xs ys (drop c file)));
  ends = let l = length-append xs ys in let m = p.ends in let n = q.ends in omega arith;
}

sound_byte : (file : List ℕ) (at : ℕ) → Reads (λ b n. Spelt file at n (b ∷ [])) (byte_at file at)
sound_byte file at = reads_cond (λ b n. Spelt file at n (b ∷ [])) (ltb at (length file)) (got (get_or file at 0) (at + 1)) (fault 2 (length file))
    (λ e. record { are = drop_more file at 0 (ltb-true at (length file) e); ends = refl }) (λ e. tt)

-- k bytes, which stand right before the next offset
record Bytes (k : ℕ) (file : List ℕ) (at : ℕ) (bs : List ℕ) (n : ℕ) : Type 0 where
  long : length bs ≡ k
  spelt : Spelt file at n bs
  inside : drop (n - length bs) (take n file) ≡ bs

sound_bytes : (k : ℕ) (file : List ℕ) (at : ℕ) → Reads (Bytes k file at) (bytes_at k file at)
sound_bytes k file at = reads_cond (Bytes k file at) (ltb (length file) (at + k)) (fault 2 (length file)) (got (take k (drop at file)) (at + k))
    (λ e. tt)
    (λ e. let l = ltb-false (length file) (at + k) e in let d = length-drop at file in
    let m = length-take-le k (drop at file) (omega arith) in
    let p : at + k - length (take k (drop at file)) ≡ at = omega arith in
    record {
      long = m;
      spelt = record {
        are = sym (take-append-drop k (drop at file)) ∙ ap (λ z. take k (drop at file) ++ z) (drop-drop k at file);
        ends = ap (λ z. at + z) (sym m);
      };
      inside = ap (λ i. drop i (take (at + k) file)) p ∙ drop-take at k file;
    })

-- ---- numbers and lengths

-- one group on: u is the value of the groups that follow
pub weigh : (b u w v : ℕ) → v + (b - 128) * w + u * (w * 128) ≡ v + (b - 128 + 128 * u) * w
weigh b u w v =
    let p = add-mul (b - 128) (128 * u) w in
    let q : 128 * u * w ≡ u * (w * 128) = ap (λ z. z * w) (mul_comm 128 u) ∙ (mul_assoc u 128 w ∙ ap (λ z. u * z) (mul_comm 128 w)) in
    omega arith

record Grouped (k w v : ℕ) (file : List ℕ) (at x n : ℕ) : Type 0 where
  bs : List ℕ
  u : ℕ
  groups : Groups bs u
  value : x ≡ v + u * w
  short : length bs ≤ k
  small : x < 2 ^ 32
  spelt : Spelt file at n bs

sound_groups : (k : ℕ) (file : List ℕ) (first w v at : ℕ) → Reads (Grouped k w v file at) (number_from k file first w v at)
unfolding number_from
sound_groups zero file first w v at = tt
sound_groups (suc k) file first w v at =
    reads_then (λ b n. Spelt file at n (b ∷ [])) (Grouped (suc k) w v file at) (byte_at file at) _ (sound_byte file at) (λ b next s.
    reads_cond (Grouped (suc k) w v file at) (ltb b 128) _ _
    (λ e. reads_cond (Grouped (suc k) w v file at) (ltb (v + b * w) (2 ^ 32)) (got (v + b * w) next) (fault 7 first)
    (λ l. record {
      bs = b ∷ [];
      u = b;
      groups = final (ltb-true b 128 e);
      value = refl;
      short = (let z : 1 ≤ suc k = omega arith in z);
      small = ltb-true (v + b * w) (2 ^ 32) l;
      spelt = s;
    })
    (λ l. tt))
    (λ e. reads_weaker (Grouped k (w * 128) (v + (b - 128) * w) file next) (Grouped (suc k) w v file at)
    (number_from k file first (w * 128) (v + (b - 128) * w) next) (sound_groups k file first (w * 128) (v + (b - 128) * w) next)
    (λ x n r. record {
      bs = b ∷ r.bs;
      u = b - 128 + 128 * r.u;
      groups = onward (ltb-false b 128 e) r.groups;
      value = r.value ∙ weigh b r.u w v;
      short = suc-le-suc r.short;
      small = r.small;
      spelt = spelt_join file at next n (b ∷ []) r.bs s r.spelt;
    })))

record Numbered (file : List ℕ) (at x n : ℕ) : Type 0 where
  bs : List ℕ
  number : Number bs x
  spelt : Spelt file at n bs

sound_number : (file : List ℕ) (at : ℕ) → Reads (Numbered file at) (number_at file at)
unfolding number_at
sound_number file at = reads_weaker (Grouped 5 1 0 file at) (Numbered file at) (number_from 5 file at 1 0 at) (sound_groups 5 file at 1 0 at)
    (λ x n r. let e : x ≡ r.u = let h = r.value in omega arith in
    record { bs = r.bs; number = record { groups = subst (λ z. Groups r.bs z) (sym e) r.groups; short = r.short; small = r.small }; spelt = r.spelt })

record Lengthed (lo hi : ℕ) (file : List ℕ) (at m n : ℕ) : Type 0 where
  bs : List ℕ
  number : Number bs m
  low : lo ≤ m
  high : m ≤ hi
  spelt : Spelt file at n bs

sound_length : (lo hi : ℕ) (file : List ℕ) (at : ℕ) → Reads (Lengthed lo hi file at) (length_at lo hi file at)
sound_length lo hi file at =
    reads_then (Numbered file at) (Lengthed lo hi file at) (number_at file at) _ (sound_number file at) (λ m next r.
    reads_cond (Lengthed lo hi file at) (leb lo m && leb m hi) (got m next) (fault 8 at)
    (λ e. let ends = and_parts (leb lo m) (leb m hi) e in
    record { bs = r.bs; number = r.number; low = leb-true lo m ends.0; high = leb-true m hi ends.1; spelt = r.spelt })
    (λ e. tt))

record Blocked (lo hi : ℕ) (file : List ℕ) (at : ℕ) (bs : List ℕ) (n : ℕ) : Type 0 where
  ns : List ℕ
  made : Block lo hi ns bs
  spelt : Spelt file at n ns
  inside : drop (n - length bs) (take n file) ≡ bs

sound_block : (lo hi : ℕ) (file : List ℕ) (at : ℕ) → Reads (Blocked lo hi file at) (block_at lo hi file at)
sound_block lo hi file at =
    reads_then (Lengthed lo hi file at) (Blocked lo hi file at) (length_at lo hi file at) _ (sound_length lo hi file at) (λ m next r.
    reads_weaker (Bytes m file next) (Blocked lo hi file at) (bytes_at m file next) (sound_bytes m file next)
    (λ bs n q. let l : m ≡ length bs = sym q.long in
    record {
      ns = r.bs ++ bs;
      made = block (subst (λ z. Number r.bs z) l r.number) (subst (λ z. lo ≤ z) l r.low) (subst (λ z. z ≤ hi) l r.high);
      spelt = spelt_join file at next n r.bs bs r.spelt q.spelt;
      inside = q.inside;
    }))

-- ---- operations

record Argued (kind : Kind) (file : List ℕ) (at : ℕ) (a : List ℕ) (n : ℕ) : Type 0 where
  ns : List ℕ
  made : Argument kind ns a
  spelt : Spelt file at n ns

sound_argument : (kind : Kind) (file : List ℕ) (at : ℕ) → Reads (Argued kind file at) (argument_at kind file at)
sound_argument Sha256 file at = record { ns = []; made = sha256; spelt = spelt_none file at }
sound_argument Append file at = reads_weaker (Blocked 1 message_limit file at) (Argued Append file at) (block_at 1 message_limit file at)
    (sound_block 1 message_limit file at) (λ a n r. record { ns = r.ns; made = append r.made; spelt = r.spelt })
sound_argument Prepend file at = reads_weaker (Blocked 1 message_limit file at) (Argued Prepend file at) (block_at 1 message_limit file at)
    (sound_block 1 message_limit file at) (λ a n r. record { ns = r.ns; made = prepend r.made; spelt = r.spelt })
sound_argument Reverse file at = record { ns = []; made = reverse; spelt = spelt_none file at }
sound_argument Hexlify file at = record { ns = []; made = hexlify; spelt = spelt_none file at }

record Operated (depth size : ℕ) (file : List ℕ) (at : ℕ) (kind : Kind) (a : List ℕ) (n : ℕ) : Type 0 where
  tag : ℕ
  xs : List ℕ
  listed : kind_of tag ≡ Some kind
  shallow : depth < path_limit
  argument : Argument kind xs a
  fits : result_size kind size (length a) ≤ message_limit
  spelt : Spelt file at n (tag ∷ xs)

record Attested (file : List ℕ) (at : ℕ) (a : Att) (n : ℕ) : Type 0 where
  tag : List ℕ
  payload : List ℕ
  ps : List ℕ
  eight : length tag ≡ 8
  made : Block 0 payload_limit ps payload
  content : Content tag payload a
  spelt : Spelt file at n (0 ∷ (tag ++ ps))

abbrev Itemed : ℕ → ℕ → List ℕ → ℕ → Piece → ℕ → Type 0
Itemed depth size file at (items.operation kind argument offset first) n = Operated depth size file at kind argument n
Itemed depth size file at (items.attestation a payload offset first) n = Attested file at a n

sound_operation : (depth size tag : ℕ) (k : Option Kind) (file : List ℕ) (at next : ℕ) → kind_of tag ≡ k → Spelt file at next (tag ∷ [])
    → Reads (Itemed depth size file at) (operation_at k at depth size file next)
sound_operation depth size tag None file at next e s = tt
sound_operation depth size tag (Some kind) file at next e s =
    reads_cond (Itemed depth size file at) (leb path_limit depth) (fault 11 at) _ (λ d. tt) (λ d.
    reads_then (Argued kind file next) (Itemed depth size file at) (argument_at kind file next) _ (sound_argument kind file next) (λ a end r.
    reads_cond (Itemed depth size file at) (leb (result_size kind size (length a)) message_limit)
    (got (items.operation kind a at (end - length a)) end) (fault 9 at)
    (λ f. record {
      tag = tag;
      xs = r.ns;
      listed = e;
      shallow = leb-false path_limit depth d;
      argument = r.made;
      fits = leb-true (result_size kind size (length a)) message_limit f;
      spelt = spelt_join file at next end (tag ∷ []) r.ns s r.spelt;
    })
    (λ f. tt)))

-- ---- attestations

-- what was read whole ended at the payload's end
reads_whole : {A : Type 0} (P Q : A → ℕ → Type 0) (first end : ℕ) (o : Outcome A) → Reads P o → ((x : A) (n : ℕ) → P x n → n ≡ end → Q x n)
    → Reads Q (whole first end o)
reads_whole P Q first end (got x n) p h = reads_cond Q (eqb n end) (got x n) (fault 10 first) (λ e. h x n p (eqb-true n end e)) (λ e. tt)
reads_whole P Q first end (fault c o) p h = reads_cond Q (eqb c 2) (fault 10 first) (fault c o) (λ e. tt) (λ e. tt)

-- bytes that reach the payload's end are the payload
spelt_all : (file : List ℕ) (first n end : ℕ) (bs payload : List ℕ) → n ≡ end → Spelt (take end file) first n bs → drop first (take end file) ≡ payload → bs ≡ payload
spelt_all file first n end bs payload e s p =
    let l = length-take end file in
    sym (append-nil bs) ∙ (ap (λ z. bs ++ z) (sym (drop_all n (take end file) (omega arith))) ∙ (sym s.are ∙ p))

-- a payload whose content has been read, up to its end
record Held (P : Type 0) (n end : ℕ) : Type 0 where
  whole : n ≡ end
  says : P

sound_height : (payload file : List ℕ) (first end : ℕ) → drop first (take end file) ≡ payload
    → Reads (λ h n. Held (Number payload h) n end) (height_at file first end)
sound_height payload file first end p =
    reads_whole (Numbered (take end file) first) (λ h n. Held (Number payload h) n end) first end
    (number_at (take end file) first) (sound_number (take end file) first)
    (λ h n r e. record { whole = e; says = subst (λ z. Number z h) (spelt_all file first n end r.bs payload e r.spelt p) r.number })

record Addressed (file : List ℕ) (at : ℕ) (a : List ℕ) (n : ℕ) : Type 0 where
  blocked : Blocked 0 address_limit file at a n
  plain : address_bytes a ≡ true

sound_address : (payload file : List ℕ) (first end : ℕ) → drop first (take end file) ≡ payload
    → Reads (λ a n. Held (Block 0 address_limit payload a × (address_bytes a ≡ true)) n end) (address_at file first end)
sound_address payload file first end p =
    let cut : List ℕ = take end file in
    reads_whole (Addressed cut first) (λ a n. Held (Block 0 address_limit payload a × (address_bytes a ≡ true)) n end) first end
    (then (block_at 0 address_limit cut first) (λ a n. cond (address_bytes a) (got a n) (fault 10 first)))
    (reads_then (Blocked 0 address_limit cut first) (Addressed cut first) (block_at 0 address_limit cut first) _ (sound_block 0 address_limit cut first)
    (λ a n r. reads_cond (Addressed cut first) (address_bytes a) (got a n) (fault 10 first) (λ y. record { blocked = r; plain = y }) (λ y. tt)))
    (λ a n q e. let r = q.blocked in record {
      whole = e;
      says = (subst (λ z. Block 0 address_limit z a) (spelt_all file first n end r.ns payload e r.spelt p) r.made, q.plain);
    })

-- the test on an address, byte by byte
pub address_each : (a : List ℕ) → address_bytes a ≡ true → AllByRecursion (λ b. address_byte b ≡ true) a
address_each a e = (Decides-by_and address_byte (λ b. address_byte b ≡ true) address_bytes (λ b. ((λ q. q), (λ q. q))) refl (λ _ _. refl) a).0 e

pub each_address : (a : List ℕ) → AllByRecursion (λ b. address_byte b ≡ true) a → address_bytes a ≡ true
each_address a e = (Decides-by_and address_byte (λ b. address_byte b ≡ true) address_bytes (λ b. ((λ q. q), (λ q. q))) refl (λ _ _. refl) a).1 e

sound_content : (tag payload file : List ℕ) (first end : ℕ) → drop first (take end file) ≡ payload
    → Reads (λ a n. Held (Content tag payload a) n end) (content_at tag payload file first end)
sound_content tag payload file first end p =
    let P : Att → ℕ → Type 0 = λ a n. Held (Content tag payload a) n end in
    reads_cond P (same tag bitcoin_tag) _ _
    (λ e. reads_then (λ h n. Held (Number payload h) n end) P (height_at file first end) _ (sound_height payload file first end p)
    (λ h n r. record { whole = r.whole; says = subst (λ t. Content t payload (bitcoin h)) (sym ((bytes_eq-Decides tag bitcoin_tag).0 e)) (height r.says) }))
    (λ b. reads_cond P (same tag pending_tag) _ _
    (λ e. reads_then (λ a n. Held (Block 0 address_limit payload a × (address_bytes a ≡ true)) n end) P (address_at file first end) _ (sound_address payload file first end p)
    (λ a n r. record { whole = r.whole; says = subst (λ t. Content t payload (pending a)) (sym ((bytes_eq-Decides tag pending_tag).0 e)) (address r.says.0 (address_each a r.says.1)) }))
    (λ e. record {
      whole = refl;
      says = other
          (λ q. both_ways (same tag bitcoin_tag) b ((bytes_eq-Decides tag bitcoin_tag).1 q))
          (λ q. both_ways (same tag pending_tag) e ((bytes_eq-Decides tag pending_tag).1 q));
    }))

sound_attestation : (depth size : ℕ) (file : List ℕ) (at next : ℕ) → Spelt file at next (0 ∷ [])
    → Reads (Itemed depth size file at) (attestation_at file next)
sound_attestation depth size file at next s =
    reads_then (Bytes 8 file next) (Itemed depth size file at) (bytes_at 8 file next) _ (sound_bytes 8 file next) (λ tag mid q.
    reads_then (Blocked 0 payload_limit file mid) (Itemed depth size file at) (block_at 0 payload_limit file mid) _ (sound_block 0 payload_limit file mid) (λ payload end r.
    reads_then (λ a n. Held (Content tag payload a) n end) (Itemed depth size file at) (content_at tag payload file (end - length payload) end) _
    (sound_content tag payload file (end - length payload) end r.inside) (λ a n h.
    record {
      tag = tag;
      payload = payload;
      ps = r.ns;
      eight = q.long;
      made = r.made;
      content = h.says;
      spelt = subst (λ z. Spelt file at z (0 ∷ (tag ++ r.ns))) (sym h.whole)
          (spelt_join file at next end (0 ∷ []) (tag ++ r.ns) s (spelt_join file next mid end tag r.ns q.spelt r.spelt));
    })))

sound_item : (depth size : ℕ) (file : List ℕ) (at : ℕ) → Reads (Itemed depth size file at) (item_at depth size file at)
sound_item depth size file at =
    reads_then (λ b n. Spelt file at n (b ∷ [])) (Itemed depth size file at) (byte_at file at) _ (sound_byte file at) (λ tag next s.
    reads_cond (Itemed depth size file at) (eqb tag 0) (attestation_at file next) (operation_at (kind_of tag) at depth size file next)
    (λ e. sound_attestation depth size file at next (subst (λ z. Spelt file at next (z ∷ [])) (eqb-true tag 0 e) s))
    (λ e. sound_operation depth size tag (kind_of tag) file at next refl s))

-- ---- nodes

abbrev More : List ℕ → ℕ → Bool → ℕ → Type 0
More file at true n = Spelt file at n (0xff ∷ [])
More file at false n = n ≡ at

sound_more : (file : List ℕ) (at : ℕ) → Reads (More file at) (more_at file at)
sound_more file at = reads_cond (More file at) (ltb at (length file) && eqb (get_or file at 0) 0xff) (got true (at + 1)) (got false at)
    (λ e. let p = and_parts (ltb at (length file)) (eqb (get_or file at 0) 0xff) e in
    record { are = drop_more file at 0 (ltb-true at (length file) p.0) ∙ ap (λ z. z ∷ drop (at + 1) file) (eqb-true (get_or file at 0) 0xff p.1); ends = refl })
    (λ e. refl)

-- the claims of a node, or of a branch, in bytes of the file
pub record Noded (depth size : ℕ) (file : List ℕ) (at : ℕ) (cs : List Claim) (n : ℕ) : Type 0 where
  pub bs : List ℕ
  pub made : Node depth size bs cs
  pub spelt : Spelt file at n bs

pub record Branched (depth size : ℕ) (file : List ℕ) (at : ℕ) (cs : List Claim) (n : ℕ) : Type 0 where
  pub bs : List ℕ
  pub made : Branch depth size bs cs
  pub spelt : Spelt file at n bs

-- the nodes below are spelt by the grammar
abbrev Below : Reading → List ℕ → Type 0
Below f file = (d s a : ℕ) → Reads (Noded d s file a) (f d s file a)

sound_below : (f : Reading) (p : Piece) (depth size : ℕ) (file : List ℕ) (at next : ℕ) → Below f file → Itemed depth size file at p next
    → Reads (Branched depth size file at) (below_by f p depth size file next)
sound_below f (items.operation kind argument offset first) depth size file at next q i =
    let below : ℕ = result_size kind size (length argument) in
    reads_then (Noded (depth + 1) below file next) (Branched depth size file at) (f (depth + 1) below file next) _ (q (depth + 1) below next)
    (λ cs n r. record {
      bs = i.tag ∷ (i.xs ++ r.bs);
      made = operation i.listed i.shallow i.argument i.fits r.made;
      spelt = spelt_join file at next n (i.tag ∷ i.xs) r.bs i.spelt r.spelt;
    })
sound_below f (items.attestation a payload offset first) depth size file at next q i =
    record { bs = 0 ∷ (i.tag ++ i.ps); made = attestation i.eight i.made i.content; spelt = i.spelt }

sound_branch : (f : Reading) (depth size : ℕ) (file : List ℕ) (at : ℕ) → Below f file
    → Reads (Branched depth size file at) (branch_by f depth size file at)
sound_branch f depth size file at q =
    reads_then (Itemed depth size file at) (Branched depth size file at) (item_at depth size file at) _ (sound_item depth size file at)
    (λ p next i. sound_below f p depth size file at next q i)

sound_rest : (f : Reading) (more : Bool) (depth size : ℕ) (file : List ℕ) (at next after : ℕ) (cs : List Claim)
    → Below f file → More file at more next → Branched depth size file next cs after
    → Reads (Noded depth size file at) (cond more (then (f depth size file after) (λ rest last. got (cs ++ rest) last)) (got cs after))
sound_rest f false depth size file at next after cs q m b =
    record { bs = b.bs; made = last b.made; spelt = subst (λ z. Spelt file z after b.bs) m b.spelt }
sound_rest f true depth size file at next after cs q m b =
    reads_then (Noded depth size file after) (Noded depth size file at) (f depth size file after) _ (q depth size after)
    (λ ds n r. record {
      bs = 0xff ∷ (b.bs ++ r.bs);
      made = another b.made r.made;
      spelt = spelt_join file at next n (0xff ∷ []) (b.bs ++ r.bs) m (spelt_join file next after n b.bs r.bs b.spelt r.spelt);
    })

sound_steps : (k depth size : ℕ) (file : List ℕ) (at : ℕ) → Reads (Noded depth size file at) (node_from k depth size file at)
unfolding node_from
sound_steps zero depth size file at = tt
sound_steps (suc k) depth size file at =
    reads_then (More file at) (Noded depth size file at) (more_at file at) _ (sound_more file at) (λ more next m.
    reads_then (Branched depth size file next) (Noded depth size file at) (branch_by (node_from k) depth size file next) _
    (sound_branch (node_from k) depth size file next (λ d s a. sound_steps k d s file a)) (λ cs after b.
    sound_rest (node_from k) more depth size file at next after cs (λ d s a. sound_steps k d s file a) m b))

pub sound_node : (depth size : ℕ) (file : List ℕ) (at : ℕ) → Reads (Noded depth size file at) (node_at depth size file at)
unfolding node_at
sound_node depth size file at = sound_steps (length file - at) depth size file at

-- ---- files

sound_mark : (ms file : List ℕ) (at : ℕ) → Reads (λ u n. Spelt file at n ms) (mark_at ms file at)
unfolding mark_at
sound_mark [] file at = spelt_none file at
sound_mark (m ∷ ms) file at =
    reads_then (λ b n. Spelt file at n (b ∷ [])) (λ u n. Spelt file at n (m ∷ ms)) (byte_at file at) _ (sound_byte file at) (λ b next s.
    reads_cond (λ u n. Spelt file at n (m ∷ ms)) (eqb b m) (mark_at ms file next) (fault 3 at)
    (λ e. reads_weaker (λ u n. Spelt file next n ms) (λ u n. Spelt file at n (m ∷ ms)) (mark_at ms file next) (sound_mark ms file next)
    (λ u n r. spelt_join file at next n (m ∷ []) ms (subst (λ z. Spelt file at next (z ∷ [])) (eqb-true b m e) s) r))
    (λ e. tt))

-- the head of a file
record Headed (file : List ℕ) (h : Head) (n : ℕ) : Type 0 where
  vs : List ℕ
  digest : List ℕ
  is : h ≡ head (31 + length vs) digest
  version : Number vs 1
  long : length digest ≡ 32
  spelt : Spelt file 0 n (mark ++ (vs ++ (0x08 ∷ digest)))

pub mark_long : length mark ≡ 31
unfolding mark
mark_long = refl

sound_digest : (file vs : List ℕ) (at : ℕ) → Number vs 1 → Spelt file 0 at (mark ++ vs) → Reads (Headed file) (digest_at file at)
sound_digest file vs at v s =
    reads_then (λ b n. Spelt file at n (b ∷ [])) (Headed file) (byte_at file at) _ (sound_byte file at) (λ tag next t.
    reads_cond (Headed file) (eqb tag 0x08) _ (fault 5 at)
    (λ e. reads_then (Bytes 32 file next) (Headed file) (bytes_at 32 file next) _ (sound_bytes 32 file next) (λ digest top q.
    let l = length-append mark vs in let k = mark_long in let m = s.ends in
    let z : at ≡ 31 + length vs = omega arith in
    let j = spelt_join file 0 at top (mark ++ vs) (0x08 ∷ digest) s
    (spelt_join file at next top (0x08 ∷ []) digest (subst (λ z. Spelt file at next (z ∷ [])) (eqb-true tag 0x08 e) t) q.spelt) in
    record {
      vs = vs;
      digest = digest;
      is = ap (λ i. head i digest) z;
      version = v;
      long = q.long;
      spelt = subst (λ z. Spelt file 0 top z) (append_assoc mark vs (0x08 ∷ digest)) j;
    }))
    (λ e. tt))

sound_head : (file : List ℕ) → Reads (Headed file) (head_at file)
sound_head file =
    reads_then (λ u n. Spelt file 0 n mark) (Headed file) (mark_at mark file 0) _ (sound_mark mark file 0) (λ u at s.
    reads_then (Numbered file at) (Headed file) (number_at file at) _ (sound_number file at) (λ version next r.
    reads_cond (Headed file) (eqb version 1) (digest_at file next) (fault 4 at)
    (λ e. sound_digest file r.bs next (subst (λ z. Number r.bs z) (eqb-true version 1 e) r.number)
    (spelt_join file 0 at next mark r.bs s r.spelt))
    (λ e. tt)))

-- a head and a node that reach the file's end
sound_whole : (file : List ℕ) (h : Head) (cs : List Claim) (top n : ℕ) → length file ≤ file_limit → n ≡ length file
    → Headed file h top → Noded 0 32 file top cs n → File file (said h cs)
sound_whole file h cs top n short e r q =
    let bs : List ℕ = mark ++ (r.vs ++ (0x08 ∷ (r.digest ++ q.bs))) in
    let s = spelt_join file 0 top n (mark ++ (r.vs ++ (0x08 ∷ r.digest))) q.bs r.spelt q.spelt in
    let z : file ≡ bs = s.are ∙ (ap (λ i. ((mark ++ (r.vs ++ (0x08 ∷ r.digest))) ++ q.bs) ++ drop i file) e
    ∙ (ap (λ x. ((mark ++ (r.vs ++ (0x08 ∷ r.digest))) ++ q.bs) ++ x) (drop_all (length file) file (omega arith))
    ∙ simp (append_assoc, append-nil))) in
    let fits : length bs ≤ file_limit = subst (λ x. length x ≤ file_limit) z short in
    subst (λ x. File x (said h cs)) (sym z) (subst (λ i. File bs (said i cs)) (sym r.is) (proof r.version r.long q.made fits))

pub sound_file : (file : List ℕ) → Reads (λ s n. (n ≡ length file) × File file s) (file_at file)
unfolding file_at top_at
sound_file file =
    let P : Said → ℕ → Type 0 = λ s n. (n ≡ length file) × File file s in
    reads_cond P (leb (length file) file_limit) _ (fault 1 file_limit)
    (λ l. reads_then (λ s n. n ≡ length file → File file s) P (top_at file) _
    (reads_then (Headed file) (λ s n. n ≡ length file → File file s) (head_at file) _ (sound_head file) (λ h top r.
    reads_then (Noded 0 32 file top) (λ s n. n ≡ length file → File file s) (node_at 0 32 file top) _ (sound_node 0 32 file top) (λ cs n q e.
    sound_whole file h cs top n (leb-true (length file) file_limit l) e r q)))
    (λ s n q. reads_cond P (eqb n (length file)) (got s n) (fault 12 n) (λ e. let z = eqb-true n (length file) e in (z, q z)) (λ e. tt)))
    (λ l. tt)
