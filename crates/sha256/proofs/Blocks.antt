-- The blocks of a message in two parts, and the law of the padding.
use Rattle.std.proofs.Common.{◌≡◌, ℕ, zero, suc, ◌+◌, ◌-◌, ◌*◌, ◌/◌, ◌%◌, ◌≤◌, List, ◌++◌, length, take, drop, sym, refl, ap, ◌∙◌, fold, add-zero, add-suc, arith}
use Rattle.std.proofs.lemmas.List.{take-append-le, drop-append-le, drop-drop, drop_at, length-drop, take-append-drop, length-take-le, append_assoc, length-append, length-replicate}
use Rattle.std.specs.Simd.{first_chunks}
use Rattle.sha256.specs.Sha256.{H0, zeros, padding, padded, block_step, hash_value, PaddingIsLeast}

-- what follows the blocks does not matter
hash_value_front :
    (hash a b : List ℕ) (n : ℕ) → 64 * n ≤ length a → hash_value hash (a ++ b) n ≡ hash_value hash a n
unfolding hash_value
hash_value_front hash a b zero h = refl
hash_value_front hash a b (suc n) h =
    let le : 64 * n ≤ length a = omega arith in
    let room : 64 ≤ length (drop (64 * n) a) = simp length-drop (omega arith) in
    rw (hash_value_front hash a b n le, drop-append-le (64 * n) a b le, take-append-le 64 (drop (64 * n) a) b room)

-- the first block, then more
hash_value_after :
    (hash bytes : List ℕ) (n : ℕ) → hash_value hash bytes (suc n) ≡ hash_value (block_step hash (take 64 bytes)) (drop 64 bytes) n
unfolding hash_value
hash_value_after hash bytes zero = refl
hash_value_after hash bytes (suc n) =
    let behind : drop (64 * suc n) bytes ≡ drop (64 * n) (drop 64 bytes) =
    ap (λ k. drop k bytes) (omega arith) ∙ sym (drop-drop (64 * n) 64 bytes) in
    rw (hash_value_after hash bytes n, behind)

-- whole blocks, then more
hash_value_append :
    (hash a b : List ℕ) (q n : ℕ)
    → length a ≡ 64 * q → hash_value hash (a ++ b) (q + n) ≡ hash_value (hash_value hash a q) b n
unfolding hash_value
hash_value_append hash a b q zero h = rw add-zero (hash_value_front hash a b q (omega arith))
hash_value_append hash a b q (suc n) h =
    let behind : drop (64 * (q + n)) (a ++ b) ≡ drop (64 * n) b =
    ap (λ k. drop k (a ++ b)) (omega arith) ∙ sym (drop-drop (64 * n) (64 * q) (a ++ b))
    ∙ ap (drop (64 * n)) (drop_at a b (64 * q) h) in
    rw (add-suc, hash_value_append hash a b q n h, behind)

-- the blocks in a row, each taken by a step
pub fold_blocks :
    (hash bytes : List ℕ) (n : ℕ) → fold block_step hash (first_chunks 64 n bytes) ≡ hash_value hash bytes n
unfolding hash_value
fold_blocks hash bytes zero = refl
fold_blocks hash bytes (suc n) =
    fold_blocks (block_step hash (take 64 bytes)) (drop 64 bytes) n ∙ sym (hash_value_after hash bytes n)

-- the message's whole blocks, and then its end with the padding
pub hash_value_padded :
    (m tail : List ℕ)
    → tail ≡ drop (length m - length m % 64) m ++ padding (length m)
    → hash_value (hash_value H0 m (length m / 64)) tail (length tail / 64)
    ≡ hash_value H0 (padded m) (length (padded m) / 64)
hash_value_padded m tail e =
    let q = length m / 64 in
    let k = length m - length m % 64 in
    let kq : k ≡ 64 * q = omega arith in
    let a = take k m in
    let d = drop k m in
    let long : length a ≡ 64 * q = length-take-le k m (omega arith) ∙ kq in
    let joined : a ++ d ≡ m = take-append-drop k m in
    let front : hash_value H0 m q ≡ hash_value H0 a q =
    ap (λ x. hash_value H0 x q) (sym joined) ∙ hash_value_front H0 a d q (omega arith) in
    let all : padded m ≡ a ++ tail =
    ap (λ x. x ++ padding (length m)) (sym joined) ∙ append_assoc a d (padding (length m)) ∙ ap (λ x. a ++ x) (sym e) in
    let n : length (padded m) / 64 ≡ q + length tail / 64 =
    ap (λ x. length x / 64) all ∙ simp length-append (omega arith) in
    ap (λ x. hash_value x tail (length tail / 64)) front ∙ sym (hash_value_append H0 a tail q (length tail / 64) long)
    ∙ ap (λ x. hash_value H0 x (q + length tail / 64)) (sym all) ∙ ap (hash_value H0 (padded m)) (sym n)

-- the padding is at least the byte 80 and eight bytes
pub length_padding : (n : ℕ) → length (padding n) ≡ zeros n + 9
unfolding padding
length_padding n = simp (length-append, length-replicate) (omega arith)

length_padded : (m : List ℕ) → length (padded m) ≡ length m + (zeros (length m) + 9)
length_padded m = simp (length-append, length_padding) refl

pub padding_least : PaddingIsLeast
padding_least m =
    let e = length_padded m in
    (omega arith, omega arith, λ n whole room. omega arith)
