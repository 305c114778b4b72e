-- Bytes written over others: the last blocks as they are made, and the digest word by word.
use Rattle.std.proofs.Common.{◌≡◌, ℕ, ◌+◌, ◌-◌, ◌/◌, ◌%◌, ◌<◌, ◌≤◌, List, ◌∷◌, ◌++◌, map, length, get_or, take, drop, set, replicate, sym, refl, ap, ◌∙◌, subst, arith}
use Rattle.std.specs.List.{range_with_len}
use Rattle.std.proofs.lemmas.List.FromFn.{fill_by_all}
use Rattle.std.proofs.lemmas.List.{take_at, length-append, length-take-le, length-drop, drop_all, append-nil, append_assoc, drop-set, drop-replicate, length-replicate, replicate-append-replicate}
use Rattle.sha256.specs.Words.{word_bytes}
use Rattle.sha256.specs.Sha256.{digest}
use Rattle.sha256.specs.Working.{overwritten}

pub length_overwritten :
    (xs : List ℕ) (i : ℕ) (ys : List ℕ) → i + length ys ≤ length xs → length (overwritten xs i ys) ≡ length xs
unfolding overwritten
length_overwritten xs i ys h =
    let front : length (take i xs) ≡ i = length-take-le i xs (omega arith) in
    simp (length-append, front, length-drop) (omega arith)

-- the bytes of eight words, each at its place
pub digest_is : (hash : List ℕ) → length hash ≡ 8 → map (λ i. get_or (word_bytes (get_or hash (i / 4) 0)) (i % 4) 0) (range_with_len 0 32) ≡ digest hash
unfolding digest
digest_is hash h =
    let P : List ℕ → Type 0 = λ x. map (λ i. get_or (word_bytes (get_or x (i / 4) 0)) (i % 4) 0) (range_with_len 0 32) ≡ digest x in
    subst P (sym (fill_by_all (λ i. get_or hash i 0) hash 8 0 h (λ k lt. refl))) refl

-- some of the zeros after the byte 80, and the others
zeros_apart :
    (rest : List ℕ) (m n : ℕ) → rest ++ 0x80 ∷ replicate (m + n) 0 ≡ (rest ++ 0x80 ∷ replicate m 0) ++ replicate n 0
zeros_apart rest m n = rw (append_assoc, ← replicate-append-replicate)

-- the byte 80 and eight bytes of length, written over zeros around the end of a message
pub tail_is :
    (rest bits : List ℕ) (n e : ℕ)
    → length rest ≡ n → n + 9 ≤ e → length bits ≡ 8
    → overwritten (overwritten (set (replicate e 0) n 0x80) 0 rest) (e - 8) bits
    ≡ rest ++ (0x80 ∷ (replicate (e - 9 - n) 0 ++ bits))
unfolding overwritten
tail_is rest bits n e r low l =
    let z : ℕ → List ℕ = λ k. replicate k 0 in
    let some = rest ++ 0x80 ∷ z (e - 9 - n) in
    let all = rest ++ 0x80 ∷ z (e - 1 - n) in
    let start : 0 + length rest ≡ n = omega arith in
    let lt : n < length (z e) = simp length-replicate (omega arith) in
    let left : e - (n + 1) ≡ e - 1 - n = omega arith in
    let behind : drop (0 + length rest) (set (z e) n 0x80) ≡ 0x80 ∷ z (e - 1 - n) =
    ap (λ k. drop k (set (z e) n 0x80)) start ∙ drop-set (z e) n 0x80 lt
    ∙ ap (λ t. 0x80 ∷ t) (drop-replicate (n + 1) e 0 ∙ ap z left) in
    let sum : e - 1 - n ≡ (e - 9 - n) + 8 = omega arith in
    let parts : all ≡ some ++ z 8 =
    ap (λ k. rest ++ 0x80 ∷ z k) sum ∙ zeros_apart rest (e - 9 - n) 8 in
    let long-some : length some ≡ e - 8 = simp (length-append, length-replicate) (omega arith) in
    let short-all : length all ≤ e - 8 + length bits = simp (length-append, length-replicate) (omega arith) in
    ap (λ t. overwritten (rest ++ t) (e - 8) bits) behind
    ∙ ap (λ t. take (e - 8) all ++ (bits ++ t)) (drop_all (e - 8 + length bits) all short-all)
    ∙ ap (λ t. take (e - 8) all ++ t) (append-nil bits)
    ∙ ap (λ t. take (e - 8) t ++ bits) parts
    ∙ ap (λ t. t ++ bits) (take_at some (z 8) (e - 8) long-some)
    ∙ simp append_assoc
