use Rattle.std.proofs.Common.{◌≡◌, ℕ, List, ◌+◌, ◌-◌, ◌/◌, ◌%◌, ◌++◌, length, take, drop, ap, ◌∙◌, arith}
use Rattle.std.proofs.lemmas.List.{take_rest, length-drop}
use Rattle.sha256.specs.Sha256.{final_hash, hash_value, padding}
use Rattle.sha256.proofs.Blocks.{length_padding, hash_value_padded}
use Rattle.sha256.proofs.final_hash.Goals as goal

-- how much the whole blocks leave over
length_rest : (m : List ℕ) → length (take (length m - (length m - length m % 64)) (drop (length m - length m % 64) m)) ≡ length m % 64
length_rest m =
    let k = length m - length m % 64 in
    let left : length m - k ≡ length m % 64 = omega arith in
    ap length (take_rest m k) ∙ length-drop k m ∙ left

pub last_blocks-requires : goal.last_blocks-requires
last_blocks-requires c =
    let n = length c.args.message.now in
    let e : 64 ≡ length (take (n - (n - n % 64)) (drop (n - n % 64) c.args.message.now)) + length (padding n) =
    omega (arith, length_rest c.args.message.now, length_padding n) in
    (omega arith, e)

pub last_blocks-requires-else-rest-lt56 : goal.last_blocks-requires-else-rest-lt56
last_blocks-requires-else-rest-lt56 c =
    let n = length c.args.message.now in
    let e : 128 ≡ length (take (n - (n - n % 64)) (drop (n - n % 64) c.args.message.now)) + length (padding n) =
    omega (arith, length_rest c.args.message.now, length_padding n) in
    (omega arith, e)

pub returns-then-rest-lt56 : goal.returns-then-rest-lt56
unfolding final_hash
returns-then-rest-lt56 c =
    let m = c.args.message.now in
    let n = length m in
    let tail = c.last_blocks.result in
    let is = c.last_blocks.ensures ∙ ap (λ r. r ++ padding n) (take_rest m (n - n % 64)) in
    c.compress_blocks.ensures
    ∙ ap (λ x. hash_value x tail (length tail / 64)) c.compress_blocks-whole.ensures
    ∙ hash_value_padded m tail is

pub returns-else-rest-lt56 : goal.returns-else-rest-lt56
unfolding final_hash
returns-else-rest-lt56 c =
    let m = c.args.message.now in
    let n = length m in
    let tail = c.last_blocks-else-rest-lt56.result in
    let is = c.last_blocks-else-rest-lt56.ensures ∙ ap (λ r. r ++ padding n) (take_rest m (n - n % 64)) in
    c.compress_blocks-else-rest-lt56.ensures
    ∙ ap (λ x. hash_value x tail (length tail / 64)) c.compress_blocks-whole.ensures
    ∙ hash_value_padded m tail is
