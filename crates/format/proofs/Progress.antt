-- What is read moves the offset on.
use Rattle.std.proofs.Common.{ℕ, zero, suc, ◌+◌, ◌-◌, ◌*◌, ◌^◌, ◌≤◌, Bool, true, false, cond, ◌&&◌, eqb, ltb, leb, List, length, take, Some, None, Option, le_refl, arith}
use Rattle.std.proofs.lemmas.Bool.{cond_both, eqb-true}
use Rattle.format.specs.declared.Kind.{Kind}
use Rattle.format.specs.declared.Kind.TheVariants.{Sha256, Append, Prepend, Reverse, Hexlify}
use Rattle.format.specs.Outcome.{Outcome, got, fault, then}
use Rattle.format.specs.Numbers.{byte_at, bytes_at, number_from, number_at, length_at, block_at}
use Rattle.format.specs.Operations.{kind_of, result_size, message_limit, path_limit, argument_at}
use Rattle.format.specs.Attestations.{pending_tag, bitcoin_tag, payload_limit, address_limit, same, address_bytes, whole, height_at, address_at, content_at}
use Rattle.format.specs.Items.{operation, operation_at, attestation_at, item_at}

-- where there is a value, the next offset is at least m
abbrev pub From : {A : Type 0} → ℕ → Outcome A → Type 0
From m (got x n) = m ≤ n
From m (fault c o) = Unit {0}

pub from_weaker : {A : Type 0} (m l : ℕ) (o : Outcome A) → l ≤ m → From m o → From l o
from_weaker m l (got x n) h p = omega arith
from_weaker m l (fault c o) h p = tt

pub from_then : {A B : Type 0} (l m : ℕ) (o : Outcome A) (k : A → ℕ → Outcome B) → From l o
    → ((x : A) (n : ℕ) → l ≤ n → From m (k x n)) → From m (then o k)
from_then l m (got x n) k p h = h x n p
from_then l m (fault c o) k p h = tt

pub from_cond : {A : Type 0} (m : ℕ) (b : Bool) (o p : Outcome A) → From m o → From m p → From m (cond b o p)
from_cond m true o p h g = h
from_cond m false o p h g = g

-- bytes, numbers and lengths
pub byte_from : (file : List ℕ) (at : ℕ) → From (at + 1) (byte_at file at)
byte_from file at = from_cond (at + 1) (ltb at (length file)) _ _ (le_refl (at + 1)) tt

pub bytes_from : (n : ℕ) (file : List ℕ) (at : ℕ) → From at (bytes_at n file at)
bytes_from n file at = from_cond at (ltb (length file) (at + n)) _ _ tt (let h : at ≤ at + n = omega arith in h)

groups_from : (k : ℕ) (file : List ℕ) (first w v at : ℕ) → From at (number_from k file first w v at)
unfolding number_from
groups_from zero file first w v at = tt
groups_from (suc k) file first w v at =
    from_then (at + 1) at (byte_at file at) _ (byte_from file at) (λ b next h.
    from_cond at (ltb b 128) _ _
    (from_cond at (ltb (v + b * w) (2 ^ 32)) (got (v + b * w) next) (fault 7 first) (let g : at ≤ next = omega arith in g) tt)
    (from_weaker next at _ (omega arith) (groups_from k file first (w * 128) (v + (b - 128) * w) next)))

pub number_from_lem : (file : List ℕ) (at : ℕ) → From at (number_at file at)
unfolding number_at
number_from_lem file at = groups_from 5 file at 1 0 at

pub length_from : (lo hi : ℕ) (file : List ℕ) (at : ℕ) → From at (length_at lo hi file at)
length_from lo hi file at = from_then at at (number_at file at) _ (number_from_lem file at) (λ n next h.
    from_cond at (leb lo n && leb n hi) (got n next) (fault 8 at) h tt)

pub block_from : (lo hi : ℕ) (file : List ℕ) (at : ℕ) → From at (block_at lo hi file at)
block_from lo hi file at = from_then at at (length_at lo hi file at) _ (length_from lo hi file at) (λ n next h.
    from_weaker next at _ h (bytes_from n file next))

-- operations
pub argument_from : (kind : Kind) (file : List ℕ) (at : ℕ) → From at (argument_at kind file at)
argument_from Sha256 file at = le_refl at
argument_from Append file at = block_from 1 message_limit file at
argument_from Prepend file at = block_from 1 message_limit file at
argument_from Reverse file at = le_refl at
argument_from Hexlify file at = le_refl at

pub operation_from : (k : Option Kind) (offset depth size : ℕ) (file : List ℕ) (at : ℕ) → From at (operation_at k offset depth size file at)
operation_from None offset depth size file at = tt
operation_from (Some kind) offset depth size file at =
    from_cond at (leb path_limit depth) _ _ tt
    (from_then at at (argument_at kind file at) _ (argument_from kind file at) (λ a end h.
    from_cond at (leb (result_size kind size (length a)) message_limit) (got (operation kind a offset (end - length a)) end) (fault 9 offset) h tt))

-- attestations: content that is read whole ends at the payload's end
whole_from : {A : Type 0} (first end : ℕ) (o : Outcome A) → From end (whole first end o)
whole_from first end (got x n) = cond_both (eqb n end) (got x n) (fault 10 first) (λ o. From end o)
    (λ e. let h = eqb-true n end e in let q : end ≤ n = omega arith in q) (λ e. tt)
whole_from first end (fault c o) = from_cond end (eqb c 2) (fault 10 first) (fault c o) tt tt

pub content_from : (tag payload file : List ℕ) (first end : ℕ) → From end (content_at tag payload file first end)
content_from tag payload file first end =
    from_cond end (same tag bitcoin_tag) _ _
    (from_then end end (height_at file first end) _ (whole_from first end (number_at (take end file) first)) (λ h n q. q))
    (from_cond end (same tag pending_tag) _ _
    (from_then end end (address_at file first end) _
    (whole_from first end (then (block_at 0 address_limit (take end file) first) (λ a n. cond (address_bytes a) (got a n) (fault 10 first)))) (λ a n q. q))
    (le_refl end))

pub attestation_from : (file : List ℕ) (at : ℕ) → From at (attestation_at file at)
attestation_from file at =
    from_then at at (bytes_at 8 file at) _ (bytes_from 8 file at) (λ tag next h.
    from_then next at (block_at 0 payload_limit file next) _ (block_from 0 payload_limit file next) (λ p end g.
    from_then end at (content_at tag p file (end - length p) end) _ (content_from tag p file (end - length p) end)
    (λ a last l. let q : at ≤ last = omega arith in q)))

-- an item takes a byte at least
pub item_from : (depth size : ℕ) (file : List ℕ) (at : ℕ) → From (at + 1) (item_at depth size file at)
item_from depth size file at =
    from_then (at + 1) (at + 1) (byte_at file at) _ (byte_from file at) (λ tag next h.
    from_cond (at + 1) (eqb tag 0) _ _
    (from_weaker next (at + 1) _ h (attestation_from file next))
    (from_weaker next (at + 1) _ h (operation_from (kind_of tag) at depth size file next)))
