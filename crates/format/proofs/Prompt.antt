-- A reading tells a fault as soon as the bytes show it, and looks at no byte behind.
use Rattle.std.proofs.Common.{◌≡◌, ℕ, zero, suc, ◌+◌, ◌-◌, ◌*◌, ◌^◌, ◌<◌, ◌≤◌, Bool, true, false, cond, ◌&&◌, eqb, ltb, leb, ◌⊎◌, List, [], ◌∷◌, ◌++◌, map, length, get_or, take, drop, Some, None, Option, sym, refl, ap, ◌∙◌, subst, inl, inr, ⊎_elim, le_refl, arith}
use Rattle.std.proofs.lemmas.Bool.{lt-ltb, le-ltb, eqb-true, eqb-false, cond-true, cond-false, cond_both, cases_lt}
use Rattle.std.proofs.lemmas.List.{take-take, length-take, length-take-le, get_or-take, drop-take}
use Rattle.format.specs.declared.Kind.{Kind}
use Rattle.format.specs.declared.Kind.TheVariants.{Sha256, Append, Prepend, Reverse, Hexlify}
use Rattle.format.specs.Outcome.{Outcome, got, fault, then}
use Rattle.format.specs.Numbers.{byte_at, bytes_at, number_from, number_at, length_at, block_at}
use Rattle.format.specs.Operations.{op_of, kind_of, result_size, message_limit, path_limit, argument_at}
use Rattle.format.specs.Attestations.{pending, bitcoin, unknown, pending_tag, bitcoin_tag, payload_limit, address_limit, same, address_bytes, whole, height_at, address_at, content_at}
use Rattle.format.specs.Items.{Piece, operation, attestation, operation_at, attestation_at, item_at}
use Rattle.format.specs.Nodes.{Claim, claim, under, Reading, below_by, branch_by, node_by, node_at}
use Rattle.format.specs.Files.{mark, mark_at, head, digest_at, version_at, head_at, said, top_at}
use Rattle.format.proofs.Progress.{From, from_weaker, item_from}
use Rattle.format.proofs.NodeLaw.{byte_past, item_past, node_past, node_law, branch_from, node_from_lem}

-- the first m bytes settle what R reads from offset a: with them it is the same, and with fewer the file ends
pub record Kept {A : Type 0} (R : List ℕ → Outcome A) (a : ℕ) (file : List ℕ) (m : ℕ) : Type 0 where
  pub low : a ≤ m
  pub within : m ≤ length file
  pub stable : (other : List ℕ) → take m other ≡ take m file → R other ≡ R file
  pub cut : (k : ℕ) → a ≤ k → k < m → R (take k file) ≡ fault 2 k

-- the file ends, and so does every front of it
pub record Short {A : Type 0} (R : List ℕ → Outcome A) (a : ℕ) (file : List ℕ) (o : ℕ) : Type 0 where
  pub ends : o ≡ length file
  pub cut : (k : ℕ) → a ≤ k → k ≤ length file → R (take k file) ≡ fault 2 k

-- a fault of bytes that were read
pub record Shown {A : Type 0} (R : List ℕ → Outcome A) (a : ℕ) (file : List ℕ) (c : ℕ) : Type 0 where
  pub above : 2 < c
  pub below : c < 12
  pub m : ℕ
  pub kept : Kept R a file m

abbrev pub PromptBy : {A : Type 0} → Outcome A → (List ℕ → Outcome A) → ℕ → List ℕ → Type 0
PromptBy (got x n) R a file = Kept R a file n
PromptBy (fault c o) R a file = ((c ≡ 2) × Short R a file o) ⊎ Shown R a file c

abbrev pub Prompt : {A : Type 0} → (List ℕ → Outcome A) → ℕ → List ℕ → Type 0
Prompt R a file = PromptBy (R file) R a file

-- ---- fronts of a file

-- a shorter front is the same too
shorter : (n m : ℕ) (file other : List ℕ) → n ≤ m → take m other ≡ take m file → take n other ≡ take n file
shorter n m file other l e = sym (take-take n m other l) ∙ (ap (λ z. take n z) e ∙ take-take n m file l)

-- a file with the same front is as long as it at least
reaches : (m : ℕ) (file other : List ℕ) → m ≤ length file → take m other ≡ take m file → m ≤ length other
reaches m file other l e =
    let p = length-take m other in let q = length-take-le m file l in
    let r : length (take m other) ≡ length (take m file) = ap length e in omega arith

-- ---- one reading after another

kept_then : {A B : Type 0} (P : List ℕ → Outcome A) (Q : A → ℕ → List ℕ → Outcome B) (a : ℕ) (file : List ℕ) (x : A) (n m : ℕ)
    → P file ≡ got x n → Kept P a file n → Kept (Q x n) n file m → Kept (λ F. then (P F) (λ y i. Q y i F)) a file m
kept_then P Q a file x n m e p q =
    let i = p.low in let j = q.low in
    record {
      low = omega arith;
      within = q.within;
      stable = λ other s.
          ap (λ z. then z (λ y i. Q y i other)) (p.stable other (shorter n m file other j s) ∙ e)
          ∙ (q.stable other s ∙ sym (ap (λ z. then z (λ y i. Q y i file)) e));
      cut = λ k l h. ⊎_elim
          (λ u. ap (λ z. then z (λ y i. Q y i (take k file))) (p.cut k l u))
          (λ u. ap (λ z. then z (λ y i. Q y i (take k file))) (p.stable (take k file) (take-take n k file u) ∙ e) ∙ q.cut k u h)
          (cases_lt k n);
    }

short_then : {A B : Type 0} (P : List ℕ → Outcome A) (Q : A → ℕ → List ℕ → Outcome B) (a : ℕ) (file : List ℕ) (x : A) (n o : ℕ)
    → P file ≡ got x n → Kept P a file n → Short (Q x n) n file o → Short (λ F. then (P F) (λ y i. Q y i F)) a file o
short_then P Q a file x n o e p q = record {
  ends = q.ends;
  cut = λ k l h. ⊎_elim
      (λ u. ap (λ z. then z (λ y i. Q y i (take k file))) (p.cut k l u))
      (λ u. ap (λ z. then z (λ y i. Q y i (take k file))) (p.stable (take k file) (take-take n k file u) ∙ e) ∙ q.cut k u h)
      (cases_lt k n);
}

on : {A B : Type 0} (P : List ℕ → Outcome A) (Q : A → ℕ → List ℕ → Outcome B) (a : ℕ) (file : List ℕ) (x : A) (n : ℕ) (o : Outcome B)
    → P file ≡ got x n → Kept P a file n → PromptBy o (Q x n) n file → PromptBy o (λ F. then (P F) (λ y i. Q y i F)) a file
on P Q a file x n (got y m) e p q = kept_then P Q a file x n m e p q
on P Q a file x n (fault c o) e p q = ⊎_elim
    (λ s. inl (s.0, short_then P Q a file x n o e p s.1))
    (λ s. inr (record { above = s.above; below = s.below; m = s.m; kept = kept_then P Q a file x n s.m e p s.kept })) q

then_from : {A B : Type 0} (P : List ℕ → Outcome A) (Q : A → ℕ → List ℕ → Outcome B) (a : ℕ) (file : List ℕ) (o : Outcome A)
    → P file ≡ o → PromptBy o P a file
    → ((x : A) (n : ℕ) → P file ≡ got x n → a ≤ n → n ≤ length file → Prompt (Q x n) n file)
    → PromptBy (then o (λ x n. Q x n file)) (λ F. then (P F) (λ x n. Q x n F)) a file
then_from P Q a file (got x n) e p h = on P Q a file x n (Q x n file) e p (h x n e p.low p.within)
then_from P Q a file (fault c o) e p h = ⊎_elim
    (λ s. inl (s.0, record { ends = s.1.ends; cut = λ k l u. ap (λ z. then z (λ y i. Q y i (take k file))) (s.1.cut k l u) }))
    (λ s. let q = s.kept in inr (record {
      above = s.above;
      below = s.below;
      m = s.m;
      kept = record {
        low = q.low;
        within = q.within;
        stable = λ other t. ap (λ z. then z (λ y i. Q y i other)) (q.stable other t ∙ e) ∙ sym (ap (λ z. then z (λ y i. Q y i file)) e);
        cut = λ k l u. ap (λ z. then z (λ y i. Q y i (take k file))) (q.cut k l u);
      };
    })) p

prompt_then : {A B : Type 0} (P : List ℕ → Outcome A) (Q : A → ℕ → List ℕ → Outcome B) (a : ℕ) (file : List ℕ)
    → Prompt P a file
    → ((x : A) (n : ℕ) → P file ≡ got x n → a ≤ n → n ≤ length file → Prompt (Q x n) n file)
    → Prompt (λ F. then (P F) (λ x n. Q x n F)) a file
prompt_then P Q a file p h = then_from P Q a file (P file) refl p h

prompt_cond : {A : Type 0} (b : Bool) (S T : List ℕ → Outcome A) (a : ℕ) (file : List ℕ)
    → (b ≡ true → Prompt S a file) → (b ≡ false → Prompt T a file) → Prompt (λ F. cond b (S F) (T F)) a file
prompt_cond true S T a file p q = p refl
prompt_cond false S T a file p q = q refl

-- what does not depend on the file
kept_here : {A : Type 0} (o : Outcome A) (a : ℕ) (file : List ℕ) → a ≤ length file → Kept (λ F. o) a file a
kept_here o a file w = record { low = le_refl a; within = w; stable = λ other e. refl; cut = λ k l h. absurd (omega arith) }

prompt_got : {A : Type 0} (x : A) (a : ℕ) (file : List ℕ) → a ≤ length file → Prompt (λ F. got x a) a file
prompt_got x a file w = kept_here (got x a) a file w

prompt_fault : {A : Type 0} (c o a : ℕ) (file : List ℕ) → 2 < c → c < 12 → a ≤ length file → Prompt {A = A} (λ F. fault c o) a file
prompt_fault c o a file u v w = inr (record { above = u; below = v; m = a; kept = kept_here (fault c o) a file w })

-- equal readings
by_same : {A : Type 0} (R S : List ℕ → Outcome A) (a : ℕ) (file : List ℕ) (o : Outcome A) → ((F : List ℕ) → S F ≡ R F)
    → PromptBy o R a file → PromptBy o S a file
by_same R S a file o e p = elim o as (λ o. PromptBy o R a file → PromptBy o S a file) [
  | got x n ↦ λ q. kept n q
  | fault c i ↦ λ q. ⊎_elim
      (λ s. inl (s.0, record { ends = s.1.ends; cut = λ k l h. e (take k file) ∙ s.1.cut k l h }))
      (λ s. inr (record { above = s.above; below = s.below; m = s.m; kept = kept s.m s.kept })) q
] p
  where
    kept : (m : ℕ) → Kept R a file m → Kept S a file m
    kept m q = record {
      low = q.low;
      within = q.within;
      stable = λ other t. e other ∙ (q.stable other t ∙ sym (e file));
      cut = λ k l h. e (take k file) ∙ q.cut k l h;
    }

prompt_same : {A : Type 0} (R S : List ℕ → Outcome A) (a : ℕ) (file : List ℕ) → ((F : List ℕ) → S F ≡ R F) → Prompt R a file → Prompt S a file
prompt_same R S a file e p = subst (λ o. PromptBy o S a file) (sym (e file)) (by_same R S a file (R file) e p)

-- ---- bytes, numbers and lengths

prompt_byte : (file : List ℕ) (at : ℕ) → at ≤ length file → Prompt (λ F. byte_at F at) at file
prompt_byte file at w = ⊎_elim here past (cases_lt at (length file))
  where
    front : (k : ℕ) → k ≤ at → k ≤ length file → byte_at (take k file) at ≡ fault 2 k
    front k l h = let e = length-take-le k file h in
        byte_past (take k file) at (let z : length (take k file) ≤ at = omega arith in z) ∙ ap (λ i. fault 2 i) e

    there : (F : List ℕ) → at < length F → byte_at F at ≡ got (get_or F at 0) (at + 1)
    there F l = cond-true _ _ _ (lt-ltb at (length F) l)

    here : at < length file → Prompt (λ F. byte_at F at) at file
    here l = subst (λ o. PromptBy o (λ F. byte_at F at) at file) (sym (there file l)) (record {
      low = omega arith;
      within = omega arith;
      stable = λ other e. there other (let z = reaches (at + 1) file other (omega arith) e in omega arith)
          ∙ (ap (λ v. got v (at + 1)) (sym (get_or-take (at + 1) other at 0 (omega arith)) ∙ (ap (λ z. get_or z at 0) e ∙ get_or-take (at + 1) file at 0 (omega arith)))
          ∙ sym (there file l));
      cut = λ k g h. front k (omega arith) (omega arith);
    })

    past : length file ≤ at → Prompt (λ F. byte_at F at) at file
    past l = subst (λ o. PromptBy o (λ F. byte_at F at) at file) (sym (byte_past file at l)) (inl (
      refl,
      record
          { ends = refl; cut = λ k g h. front k (omega arith) h },
    ))

prompt_bytes : (n : ℕ) (file : List ℕ) (at : ℕ) → at ≤ length file → Prompt (λ F. bytes_at n F at) at file
prompt_bytes n file at w = ⊎_elim past here (cases_lt (length file) (at + n))
  where
    short : (F : List ℕ) → length F < at + n → bytes_at n F at ≡ fault 2 (length F)
    short F l = cond-true _ _ _ (lt-ltb (length F) (at + n) l)

    there : (F : List ℕ) → at + n ≤ length F → bytes_at n F at ≡ got (take n (drop at F)) (at + n)
    there F l = cond-false _ _ _ (le-ltb (length F) (at + n) l)

    front : (k : ℕ) → k < at + n → k ≤ length file → bytes_at n (take k file) at ≡ fault 2 k
    front k l h = let e = length-take-le k file h in
        short (take k file) (let z : length (take k file) < at + n = omega arith in z) ∙ ap (λ i. fault 2 i) e

    here : at + n ≤ length file → Prompt (λ F. bytes_at n F at) at file
    here l = subst (λ o. PromptBy o (λ F. bytes_at n F at) at file) (sym (there file l)) (record {
      low = omega arith;
      within = l;
      stable = λ other e. there other (reaches (at + n) file other l e)
          ∙ (ap (λ z. got z (at + n)) (sym (drop-take at n other) ∙ (ap (λ z. drop at z) e ∙ drop-take at n file)) ∙ sym (there file l));
      cut = λ k g h. front k h (omega arith);
    })

    past : length file < at + n → Prompt (λ F. bytes_at n F at) at file
    past l = subst (λ o. PromptBy o (λ F. bytes_at n F at) at file) (sym (short file l)) (inl (
      refl,
      record
          { ends = refl; cut = λ k g h. front k (omega arith) h },
    ))

prompt_groups : (k : ℕ) (file : List ℕ) (first w v at : ℕ) → at ≤ length file → Prompt (λ F. number_from k F first w v at) at file
unfolding number_from
prompt_groups zero file first w v at l = prompt_fault 7 first at file (omega arith) (omega arith) l
prompt_groups (suc k) file first w v at l =
    prompt_then (λ F. byte_at F at)
    (λ b next F. cond (ltb b 128)
    (cond (ltb (v + b * w) (2 ^ 32)) (got (v + b * w) next) (fault 7 first))
    (number_from k F first (w * 128) (v + (b - 128) * w) next))
    at file (prompt_byte file at l) (λ b next e g h.
    prompt_cond (ltb b 128) (λ F. cond (ltb (v + b * w) (2 ^ 32)) (got (v + b * w) next) (fault 7 first))
    (λ F. number_from k F first (w * 128) (v + (b - 128) * w) next) next file
    (λ _. prompt_cond (ltb (v + b * w) (2 ^ 32)) (λ F. got (v + b * w) next) (λ F. fault 7 first) next file
    (λ _. prompt_got (v + b * w) next file h) (λ _. prompt_fault 7 first next file (omega arith) (omega arith) h))
    (λ _. prompt_groups k file first (w * 128) (v + (b - 128) * w) next h))

prompt_number : (file : List ℕ) (at : ℕ) → at ≤ length file → Prompt (λ F. number_at F at) at file
unfolding number_at
prompt_number file at l = prompt_groups 5 file at 1 0 at l

prompt_length : (lo hi : ℕ) (file : List ℕ) (at : ℕ) → at ≤ length file → Prompt (λ F. length_at lo hi F at) at file
prompt_length lo hi file at l =
    prompt_then (λ F. number_at F at) (λ n next F. cond (leb lo n && leb n hi) (got n next) (fault 8 at)) at file (prompt_number file at l) (λ n next e g h.
    prompt_cond (leb lo n && leb n hi) (λ F. got n next) (λ F. fault 8 at) next file
    (λ _. prompt_got n next file h) (λ _. prompt_fault 8 at next file (omega arith) (omega arith) h))

prompt_block : (lo hi : ℕ) (file : List ℕ) (at : ℕ) → at ≤ length file → Prompt (λ F. block_at lo hi F at) at file
prompt_block lo hi file at l =
    prompt_then (λ F. length_at lo hi F at) (λ n next F. bytes_at n F next) at file (prompt_length lo hi file at l) (λ n next e g h.
    prompt_bytes n file next h)

-- ---- operations

prompt_argument : (kind : Kind) (file : List ℕ) (at : ℕ) → at ≤ length file → Prompt (λ F. argument_at kind F at) at file
prompt_argument Sha256 file at l = prompt_got [] at file l
prompt_argument Append file at l = prompt_block 1 message_limit file at l
prompt_argument Prepend file at l = prompt_block 1 message_limit file at l
prompt_argument Reverse file at l = prompt_got [] at file l
prompt_argument Hexlify file at l = prompt_got [] at file l

prompt_operation : (k : Option Kind) (offset depth size : ℕ) (file : List ℕ) (at : ℕ) → at ≤ length file
    → Prompt (λ F. operation_at k offset depth size F at) at file
prompt_operation None offset depth size file at l = prompt_fault 6 offset at file (omega arith) (omega arith) l
prompt_operation (Some kind) offset depth size file at l =
    prompt_cond (leb path_limit depth) (λ F. fault 11 offset)
    (λ F. then (argument_at kind F at) (λ argument end.
    cond (leb (result_size kind size (length argument)) message_limit) (got (operation kind argument offset (end - length argument)) end) (fault 9 offset)))
    at file
    (λ _. prompt_fault 11 offset at file (omega arith) (omega arith) l)
    (λ _. prompt_then (λ F. argument_at kind F at)
    (λ argument end F. cond (leb (result_size kind size (length argument)) message_limit) (got (operation kind argument offset (end - length argument)) end) (fault 9 offset))
    at file (prompt_argument kind file at l) (λ argument end e g h.
    prompt_cond (leb (result_size kind size (length argument)) message_limit) (λ F. got (operation kind argument offset (end - length argument)) end) (λ F. fault 9 offset) end file
    (λ _. prompt_got (operation kind argument offset (end - length argument)) end file h)
    (λ _. prompt_fault 9 offset end file (omega arith) (omega arith) h)))

-- ---- attestations

-- a value up to end, or a fault of bytes that were read
abbrev Ends : {A : Type 0} → ℕ → Outcome A → Type 0
Ends end (got x n) = n ≡ end
Ends end (fault c o) = (2 < c) × (c < 12)

-- what reads only bytes before end, which have been reached
prompt_inside : {A : Type 0} (S : List ℕ → Outcome A) (end : ℕ) (file : List ℕ) → end ≤ length file → Ends end (S (take end file))
    → Prompt (λ F. S (take end F)) end file
prompt_inside {A = A} S end file w p = by (S (take end file)) p
  where
    kept : Kept (λ F. S (take end F)) end file end
    kept = record { low = le_refl end; within = w; stable = λ other e. ap S e; cut = λ k l h. absurd (omega arith) }

    by : (o : Outcome A) → Ends end o → PromptBy o (λ F. S (take end F)) end file
    by (got x n) q = subst (λ i. Kept (λ F. S (take end F)) end file i) (sym q) kept
    by (fault c o) q = inr (record { above = q.0; below = q.1; m = end; kept = kept })

ends_whole : {A : Type 0} (R : List ℕ → Outcome A) (a : ℕ) (file : List ℕ) (first end : ℕ) (o : Outcome A) → PromptBy o R a file → Ends end (whole first end o)
ends_whole R a file first end (got x n) p = cond_both (eqb n end) (got x n) (fault 10 first) (λ o. Ends end o)
    (λ e. eqb-true n end e) (λ e. (omega arith, omega arith))
ends_whole R a file first end (fault c o) p = cond_both (eqb c 2) (fault 10 first) (fault c o) (λ o. Ends end o)
    (λ e. (omega arith, omega arith))
    (λ e. ⊎_elim (λ s. absurd (eqb-false c 2 e s.0)) (λ s. (s.above, s.below)) p)

prompt_height : (file : List ℕ) (first end : ℕ) → first ≤ end → end ≤ length file → Prompt (λ F. height_at F first end) end file
prompt_height file first end l w =
    let c = length-take-le end file w in
    prompt_inside (λ F. whole first end (number_at F first)) end file w
    (ends_whole (λ F. number_at F first) first (take end file) first end (number_at (take end file) first)
    (prompt_number (take end file) first (omega arith)))

prompt_address : (file : List ℕ) (first end : ℕ) → first ≤ end → end ≤ length file → Prompt (λ F. address_at F first end) end file
prompt_address file first end l w =
    let c = length-take-le end file w in
    let R : List ℕ → Outcome (List ℕ) = λ F. then (block_at 0 address_limit F first) (λ a n. cond (address_bytes a) (got a n) (fault 10 first)) in
    prompt_inside (λ F. whole first end (R F)) end file w
    (ends_whole R first (take end file) first end (R (take end file))
    (prompt_then (λ F. block_at 0 address_limit F first) (λ a n F. cond (address_bytes a) (got a n) (fault 10 first)) first (take end file)
    (prompt_block 0 address_limit (take end file) first (omega arith)) (λ a n e g h.
    prompt_cond (address_bytes a) (λ F. got a n) (λ F. fault 10 first) n (take end file)
    (λ _. prompt_got a n (take end file) h) (λ _. prompt_fault 10 first n (take end file) (omega arith) (omega arith) h))))

prompt_content : (tag payload file : List ℕ) (first end : ℕ) → first ≤ end → end ≤ length file
    → Prompt (λ F. content_at tag payload F first end) end file
prompt_content tag payload file first end l w =
    prompt_cond (same tag bitcoin_tag) (λ F. then (height_at F first end) (λ h n. got (bitcoin h) n))
    (λ F. cond (same tag pending_tag) (then (address_at F first end) (λ a n. got (pending a) n)) (got (unknown tag payload) end)) end file
    (λ _. prompt_then (λ F. height_at F first end) (λ h n F. got (bitcoin h) n) end file (prompt_height file first end l w)
    (λ h n e g v. prompt_got (bitcoin h) n file v))
    (λ _. prompt_cond (same tag pending_tag) (λ F. then (address_at F first end) (λ a n. got (pending a) n)) (λ F. got (unknown tag payload) end) end file
    (λ _. prompt_then (λ F. address_at F first end) (λ a n F. got (pending a) n) end file (prompt_address file first end l w)
    (λ a n e g v. prompt_got (pending a) n file v))
    (λ _. prompt_got (unknown tag payload) end file w))

prompt_attestation : (file : List ℕ) (at : ℕ) → at ≤ length file → Prompt (λ F. attestation_at F at) at file
prompt_attestation file at l =
    prompt_then (λ F. bytes_at 8 F at)
    (λ tag next F. then (block_at 0 payload_limit F next) (λ payload end.
    then (content_at tag payload F (end - length payload) end) (λ a last. got (attestation a payload at (end - length payload)) last)))
    at file (prompt_bytes 8 file at l) (λ tag next e g h.
    prompt_then (λ F. block_at 0 payload_limit F next)
    (λ payload end F. then (content_at tag payload F (end - length payload) end) (λ a last. got (attestation a payload at (end - length payload)) last))
    next file (prompt_block 0 payload_limit file next h) (λ payload end d u v.
    prompt_then (λ F. content_at tag payload F (end - length payload) end)
    (λ a last F. got (attestation a payload at (end - length payload)) last)
    end file (prompt_content tag payload file (end - length payload) end (omega arith) v) (λ a last c i j.
    prompt_got (attestation a payload at (end - length payload)) last file j)))

prompt_item : (depth size : ℕ) (file : List ℕ) (at : ℕ) → at ≤ length file → Prompt (λ F. item_at depth size F at) at file
prompt_item depth size file at l =
    prompt_then (λ F. byte_at F at) (λ tag next F. cond (eqb tag 0) (attestation_at F next) (operation_at (kind_of tag) at depth size F next))
    at file (prompt_byte file at l) (λ tag next e g h.
    prompt_cond (eqb tag 0) (λ F. attestation_at F next) (λ F. operation_at (kind_of tag) at depth size F next) next file
    (λ _. prompt_attestation file next h)
    (λ _. prompt_operation (kind_of tag) at depth size file next h))

-- ---- nodes

-- with nothing left from a on, the file ends
prompt_past : {A : Type 0} (R : List ℕ → Outcome A) (a : ℕ) (file : List ℕ) → ((F : List ℕ) → length F ≤ a → R F ≡ fault 2 (length F))
    → length file ≤ a → Prompt R a file
prompt_past R a file e l = subst (λ o. PromptBy o R a file) (sym (e file l)) (inl (
  refl,
  record {
    ends = refl;
    cut = λ k g h. let p = length-take-le k file h in
        e (take k file) (let z : length (take k file) ≤ a = omega arith in z) ∙ ap (λ i. fault 2 i) p;
  },
))

-- a reading that fails without the byte at a reads that byte
later : {A : Type 0} (R : List ℕ → Outcome A) (a : ℕ) (file : List ℕ) (o : Outcome A) → R file ≡ o → R (take a file) ≡ fault 2 a → a < length file
    → PromptBy o R a file → PromptBy o R (a + 1) file
later {A = A} R a file o q s l p = by o q p
  where
    reached : (m : ℕ) → Kept R a file m → (R file ≡ fault 2 a → ⊥) → a + 1 ≤ m
    reached m k h = let i = k.low in ⊎_elim (λ u. omega arith)
        (λ u. absurd (h (sym (k.stable (take a file) (take-take m a file u)) ∙ s))) (cases_lt a m)

    kept : (m : ℕ) → Kept R a file m → (R file ≡ fault 2 a → ⊥) → Kept R (a + 1) file m
    kept m k h = record { low = reached m k h; within = k.within; stable = k.stable; cut = λ i g u. k.cut i (omega arith) u }

    by : (o : Outcome A) → R file ≡ o → PromptBy o R a file → PromptBy o R (a + 1) file
    by (got x n) e k = kept n k (λ d. let z : ◌≡◌ {A = ℕ} 0 1 = cc in omega arith)
    by (fault c i) e k = ⊎_elim
        (λ t. inl (t.0, record { ends = t.1.ends; cut = λ j g u. t.1.cut j (omega arith) u }))
        (λ t. let above = t.above in
        inr (record { above = t.above; below = t.below; m = t.m; kept = kept t.m t.kept (λ d. let z : c ≡ 2 = cc in omega arith) })) k

-- a branch, and the others where there are more
abbrev rest_by : Reading → Bool → Reading
rest_by f more depth size file at =
    then (branch_by f depth size file at) (λ cs after. cond more (then (f depth size file after) (λ rest last. got (cs ++ rest) last)) (got cs after))

rest_past : (f : Reading) (more : Bool) (depth size : ℕ) (file : List ℕ) (at : ℕ) → length file ≤ at → rest_by f more depth size file at ≡ fault 2 (length file)
rest_past f more depth size file at h = rw (item_past depth size file at h)

split : {A B : Type 0} (b : Bool) (x y : A) (i j : ℕ) (k : A → ℕ → Outcome B) → then (cond b (got x i) (got y j)) k ≡ cond b (k x i) (k y j)
split true x y i j k = refl
split false x y i j k = refl

-- a node by its first byte
peeked : (f : Reading) (depth size at : ℕ) (file : List ℕ)
    → node_by f depth size file at
    ≡ then (byte_at file at) (λ b next. cond (eqb b 0xff) (rest_by f true depth size file next) (rest_by f false depth size file at))
peeked f depth size at file = ⊎_elim
    (λ l. ap (λ z. then (cond (z && eqb (get_or file at 0) 0xff) (got true (at + 1)) (got false at)) (λ more next. rest_by f more depth size file next)) (lt-ltb at (length file) l)
    ∙ (split (eqb (get_or file at 0) 0xff) true false (at + 1) at (λ more next. rest_by f more depth size file next)
    ∙ sym (ap (λ z. then z (λ b next. cond (eqb b 0xff) (rest_by f true depth size file next) (rest_by f false depth size file at)))
    (cond-true _ _ _ (lt-ltb at (length file) l)))))
    (λ l. node_past f depth size file at l
    ∙ sym (ap (λ z. then z (λ b next. cond (eqb b 0xff) (rest_by f true depth size file next) (rest_by f false depth size file at))) (byte_past file at l)))
    (cases_lt at (length file))

-- the nodes that begin at an offset or behind it
abbrev Below : Reading → ℕ → List ℕ → Type 0
Below f from file = (d s a : ℕ) → from ≤ a → a ≤ length file → Prompt (λ F. f d s F a) a file

prompt_below : (f : Reading) (p : Piece) (depth size : ℕ) (file : List ℕ) (from at : ℕ) → Below f from file → from ≤ at → at ≤ length file
    → Prompt (λ F. below_by f p depth size F at) at file
prompt_below f (operation kind argument offset first) depth size file from at q g h =
    prompt_then (λ F. f (depth + 1) (result_size kind size (length argument)) F at) (λ cs last F. got (map (under (op_of kind argument)) cs) last) at file
    (q (depth + 1) (result_size kind size (length argument)) at g h) (λ cs last e u v.
    prompt_got (map (under (op_of kind argument)) cs) last file v)
prompt_below f (attestation a payload offset first) depth size file from at q g h = prompt_got (claim [] a ∷ []) at file h

-- an item moves the offset on
item_on : (depth size : ℕ) (file : List ℕ) (at n : ℕ) (p : Piece) → item_at depth size file at ≡ got p n → at + 1 ≤ n
item_on depth size file at n p e = subst (λ o. From (at + 1) o) e (item_from depth size file at)

prompt_branch : (f : Reading) (depth size : ℕ) (file : List ℕ) (at : ℕ) → Below f (at + 1) file → at ≤ length file
    → Prompt (λ F. branch_by f depth size F at) at file
prompt_branch f depth size file at q l =
    prompt_then (λ F. item_at depth size F at) (λ p end F. below_by f p depth size F end) at file (prompt_item depth size file at l) (λ p end e g h.
    prompt_below f p depth size file (at + 1) end q (item_on depth size file at end p e) h)

branch_on : (depth size : ℕ) (file : List ℕ) (at n : ℕ) (cs : List Claim) → branch_by node_at depth size file at ≡ got cs n → at + 1 ≤ n
branch_on depth size file at n cs e = subst (λ o. From (at + 1) o) e
    (branch_from node_at depth size file at (λ d s a. from_weaker (a + 1) a _ (omega arith) (node_from_lem d s file a)))

prompt_rest : (more : Bool) (depth size : ℕ) (file : List ℕ) (at : ℕ) → Below node_at (at + 1) file → at ≤ length file
    → Prompt (λ F. rest_by node_at more depth size F at) at file
prompt_rest more depth size file at q l =
    prompt_then (λ F. branch_by node_at depth size F at)
    (λ cs after F. cond more (then (node_at depth size F after) (λ rest last. got (cs ++ rest) last)) (got cs after))
    at file (prompt_branch node_at depth size file at q l) (λ cs after e g h.
    prompt_cond more (λ F. then (node_at depth size F after) (λ rest last. got (cs ++ rest) last)) (λ F. got cs after) after file
    (λ _. prompt_then (λ F. node_at depth size F after) (λ rest last F. got (cs ++ rest) last) after file
    (q depth size after (branch_on depth size file at after cs e) h) (λ rest last d u v.
    prompt_got (cs ++ rest) last file v))
    (λ _. prompt_got cs after file h))

-- a byte that was read stands before the end
byte_on : (file : List ℕ) (at b n : ℕ) → byte_at file at ≡ got b n → (at < length file) × (n ≡ at + 1)
byte_on file at b n e = ⊎_elim
    (λ l. (l, let q : byte_at file at ≡ got (get_or file at 0) (at + 1) = cond-true _ _ _ (lt-ltb at (length file) l) in cc))
    (λ l. absurd (let q = byte_past file at l in let z : ◌≡◌ {A = ℕ} 0 1 = cc in omega arith))
    (cases_lt at (length file))

-- j bounds the bytes left
prompt_steps : (j : ℕ) (depth size : ℕ) (file : List ℕ) (at : ℕ) → at ≤ length file → length file - at ≤ j
    → Prompt (λ F. node_at depth size F at) at file
prompt_steps zero depth size file at w l =
    prompt_past (λ F. node_at depth size F at) at file (λ F h. node_law depth size F at ∙ node_past node_at depth size F at h) (omega arith)
prompt_steps (suc j) depth size file at w l =
    let behind : Below node_at (at + 1) file = λ d s a g h. prompt_steps j d s file a h (omega arith) in
    let R : List ℕ → Outcome (List Claim) = λ F.
    then (byte_at F at) (λ b next. cond (eqb b 0xff) (rest_by node_at true depth size F next) (rest_by node_at false depth size F at)) in
    prompt_same R (λ F. node_at depth size F at) at file (λ F. node_law depth size F at ∙ peeked node_at depth size at F)
    (prompt_then (λ F. byte_at F at) (λ b next F. cond (eqb b 0xff) (rest_by node_at true depth size F next) (rest_by node_at false depth size F at))
    at file (prompt_byte file at w) (λ b next e g h.
    let o = byte_on file at b next e in
    let t : at < length file = o.0 in
    let n : next ≡ at + 1 = o.1 in
    let c = length-take-le at file w in
    prompt_cond (eqb b 0xff) (λ F. rest_by node_at true depth size F next) (λ F. rest_by node_at false depth size F at) next file
    (λ _. prompt_rest true depth size file next (λ d s a u v. behind d s a (omega arith) v) h)
    (λ _. subst (λ i. Prompt (λ F. rest_by node_at false depth size F at) i file) (sym n)
    (later (λ F. rest_by node_at false depth size F at) at file (rest_by node_at false depth size file at) refl
    (rest_past node_at false depth size (take at file) at (let z : length (take at file) ≤ at = omega arith in z) ∙ ap (λ i. fault 2 i) c)
    t (prompt_rest false depth size file at behind w)))))

pub prompt_node : (depth size : ℕ) (file : List ℕ) (at : ℕ) → at ≤ length file → Prompt (λ F. node_at depth size F at) at file
prompt_node depth size file at w = prompt_steps (length file - at) depth size file at w (le_refl (length file - at))

-- ---- files

prompt_mark : (ms file : List ℕ) (at : ℕ) → at ≤ length file → Prompt (λ F. mark_at ms F at) at file
unfolding mark_at
prompt_mark [] file at l = prompt_got tt at file l
prompt_mark (m ∷ ms) file at l =
    prompt_then (λ F. byte_at F at) (λ b next F. cond (eqb b m) (mark_at ms F next) (fault 3 at)) at file (prompt_byte file at l) (λ b next e g h.
    prompt_cond (eqb b m) (λ F. mark_at ms F next) (λ F. fault 3 at) next file
    (λ _. prompt_mark ms file next h) (λ _. prompt_fault 3 at next file (omega arith) (omega arith) h))

prompt_digest : (file : List ℕ) (at : ℕ) → at ≤ length file → Prompt (λ F. digest_at F at) at file
prompt_digest file at l =
    prompt_then (λ F. byte_at F at)
    (λ tag next F. cond (eqb tag 0x08) (then (bytes_at 32 F next) (λ digest top. got (head at digest) top)) (fault 5 at))
    at file (prompt_byte file at l) (λ tag next e g h.
    prompt_cond (eqb tag 0x08) (λ F. then (bytes_at 32 F next) (λ digest top. got (head at digest) top)) (λ F. fault 5 at) next file
    (λ _. prompt_then (λ F. bytes_at 32 F next) (λ digest top F. got (head at digest) top) next file (prompt_bytes 32 file next h) (λ digest top d u v.
    prompt_got (head at digest) top file v))
    (λ _. prompt_fault 5 at next file (omega arith) (omega arith) h))

prompt_version : (file : List ℕ) (at : ℕ) → at ≤ length file → Prompt (λ F. version_at F at) at file
prompt_version file at l =
    prompt_then (λ F. number_at F at) (λ version next F. cond (eqb version 1) (digest_at F next) (fault 4 at)) at file (prompt_number file at l) (λ version next e g h.
    prompt_cond (eqb version 1) (λ F. digest_at F next) (λ F. fault 4 at) next file
    (λ _. prompt_digest file next h) (λ _. prompt_fault 4 at next file (omega arith) (omega arith) h))

prompt_head : (file : List ℕ) → Prompt head_at 0 file
prompt_head file =
    prompt_then (λ F. mark_at mark F 0) (λ u at F. version_at F at) 0 file (prompt_mark mark file 0 (omega arith)) (λ u at e g h.
    prompt_version file at h)

pub prompt_top : (file : List ℕ) → Prompt top_at 0 file
unfolding top_at
prompt_top file =
    prompt_then head_at (λ h top F. then (node_at 0 32 F top) (λ cs last. got (said h cs) last)) 0 file (prompt_head file) (λ h top e g w.
    prompt_then (λ F. node_at 0 32 F top) (λ cs last F. got (said h cs) last) top file (prompt_node 0 32 file top w) (λ cs last d u v.
    prompt_got (said h cs) last file v))
