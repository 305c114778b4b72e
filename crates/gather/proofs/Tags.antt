-- The tag of an attestation that was read has eight bytes.
use Rattle.std.proofs.Common.{◌≡◌, ℕ, ◌+◌, ◌-◌, ◌≤◌, Bool, true, false, cond, eqb, ltb, leb, List, length, take, drop, Some, None, Option, sym, subst, arith, length-drop}
use Rattle.std.proofs.lemmas.List.{length-take-le}
use Rattle.std.proofs.lemmas.Bool.{cond_both, ltb-false}
use Rattle.format.specs.declared.Kind.{Kind}
use Rattle.format.specs.Outcome.{Outcome, got, fault, then}
use Rattle.format.specs.Numbers.{byte_at, bytes_at, block_at}
use Rattle.format.specs.Operations.{kind_of, result_size, argument_at, message_limit, path_limit}
use Rattle.format.specs.Attestations.{Att, pending, bitcoin, unknown, bitcoin_tag, pending_tag, payload_limit, same, height_at, address_at, content_at}
use Rattle.format.specs.Items.{Piece, operation, attestation, operation_at, attestation_at, item_at}
use Rattle.proof.specs.declared.item.Item.{Item}
use Rattle.proof.specs.declared.item.Item.TheVariants.{Operation, Attestation}
use Rattle.proof.specs.declared.item.Content.TheVariants.{Pending, Bitcoin, Unknown}
use Rattle.proof.specs.Pieces.{piece}
use Rattle.gather.specs.Readings.{TaggedItem}

-- P of the value, where there is one
abbrev Got : {A : Type 0} → (A → Type 0) → Outcome A → Type 0
Got P (got x n) = P x
Got P (fault c o) = Unit {0}

got_any : {A : Type 0} (o : Outcome A) → Got (λ _. Unit {0}) o
got_any (got x n) = tt
got_any (fault c o) = tt

got_then : {A B : Type 0} (P : A → Type 0) (Q : B → Type 0) (o : Outcome A) (k : A → ℕ → Outcome B) → Got P o
    → ((x : A) (n : ℕ) → P x → Got Q (k x n)) → Got Q (then o k)
got_then P Q (got x n) k p h = h x n p
got_then P Q (fault c o) k p h = tt

got_cond : {A : Type 0} (P : A → Type 0) (b : Bool) (o p : Outcome A) → Got P o → Got P p → Got P (cond b o p)
got_cond P true o p h g = h
got_cond P false o p h g = g

abbrev Eight : Att → Type 0
Eight (pending address) = Unit {0}
Eight (bitcoin height) = Unit {0}
Eight (unknown tag payload) = length tag ≡ 8

abbrev EightPiece : Piece → Type 0
EightPiece (operation kind argument offset first) = Unit {0}
EightPiece (attestation a payload offset first) = Eight a

bytes_eight : (file : List ℕ) (at : ℕ) → Got (λ bs. length bs ≡ 8) (bytes_at 8 file at)
bytes_eight file at = cond_both (ltb (length file) (at + 8)) (fault 2 (length file)) (got (take 8 (drop at file)) (at + 8)) (Got (λ bs. length bs ≡ 8))
    (λ e. tt)
    (λ e. let h = ltb-false (length file) (at + 8) e in let k = length-drop at file in let g : 8 ≤ length (drop at file) = omega arith in
    length-take-le 8 (drop at file) g)

content_eight : (tag payload file : List ℕ) (first end : ℕ) → length tag ≡ 8 → Got Eight (content_at tag payload file first end)
content_eight tag payload file first end h =
    got_cond Eight (same tag bitcoin_tag) _ _
    (got_then (λ _. Unit {0}) Eight (height_at file first end) _ (got_any (height_at file first end)) (λ x n p. tt))
    (got_cond Eight (same tag pending_tag) _ _
    (got_then (λ _. Unit {0}) Eight (address_at file first end) _ (got_any (address_at file first end)) (λ x n p. tt)) h)

attestation_eight : (file : List ℕ) (at : ℕ) → Got EightPiece (attestation_at file at)
attestation_eight file at =
    got_then (λ bs. length bs ≡ 8) EightPiece (bytes_at 8 file at) _ (bytes_eight file at) (λ tag next h.
    got_then (λ _. Unit {0}) EightPiece (block_at 0 payload_limit file next) _ (got_any (block_at 0 payload_limit file next)) (λ payload end u.
    got_then Eight EightPiece (content_at tag payload file (end - length payload) end) _ (content_eight tag payload file (end - length payload) end h) (λ a last p. p)))

operation_eight : (k : Option Kind) (offset depth size : ℕ) (file : List ℕ) (at : ℕ) → Got EightPiece (operation_at k offset depth size file at)
operation_eight None offset depth size file at = tt
operation_eight (Some kind) offset depth size file at =
    got_cond EightPiece (leb path_limit depth) _ _ tt
    (got_then (λ _. Unit {0}) EightPiece (argument_at kind file at) _ (got_any (argument_at kind file at)) (λ a end u.
    got_cond EightPiece (leb (result_size kind size (length a)) message_limit) (got (operation kind a offset (end - length a)) end) (fault 9 offset) tt tt))

item_eight : (depth size : ℕ) (file : List ℕ) (at : ℕ) → Got EightPiece (item_at depth size file at)
item_eight depth size file at =
    got_then (λ _. Unit {0}) EightPiece (byte_at file at) _ (got_any (byte_at file at)) (λ tag next u.
    got_cond EightPiece (eqb tag 0) _ _ (attestation_eight file next) (operation_eight (kind_of tag) at depth size file next))

pub tagged : (i : Item) (depth size : ℕ) (file : List ℕ) (at end : ℕ) → got (piece i) end ≡ item_at depth size file at → TaggedItem i
tagged (Operation kind argument offset first) depth size file at end e = tt
tagged (Attestation (Pending address) payload offset first) depth size file at end e = tt
tagged (Attestation (Bitcoin height) payload offset first) depth size file at end e = tt
tagged (Attestation (Unknown tag rest) payload offset first) depth size file at end e = subst (Got EightPiece) (sym e) (item_eight depth size file at)
