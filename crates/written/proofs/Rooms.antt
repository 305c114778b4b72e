-- Payloads that fit the room for them.
use Rattle.std.proofs.Common.{◌≡◌, ℕ, ◌^◌, ◌≤◌, true, List, length, ⊎_elim, arith}
use Rattle.std.proofs.lemmas.Bool.{and_parts, ltb-true, leb-true, cases_lt}
use Rattle.format.specs.Attestations.{Att, pending, bitcoin, unknown, address_limit}
use Rattle.claim_trees.specs.Lawful.{att_fits}
use Rattle.claim_trees.specs.Bytes.{shortest}
use Rattle.claim_trees.specs.Onto.{block_length}
use Rattle.claim_trees.proofs.Spelling.{short_number}
use Rattle.claims.proofs.Numbers.{one_byte, two_bytes}
use Rattle.written.specs.Payloads.{apart}

pub room_suffices : (a : Att) → att_fits a ≡ true → apart a ≤ 1002
room_suffices (bitcoin h) f = let s = short_number h (ltb-true h (2 ^ 32) f) in omega arith
room_suffices (pending a) f =
    let l = leb-true (length a) address_limit (and_parts _ _ f).0 in
    ⊎_elim
    (λ h. let s = one_byte (length a) h in omega arith)
    (λ h. let s = two_bytes (length a) h (omega arith) in omega arith)
    (cases_lt (length a) 128)
room_suffices (unknown tag p) f = omega arith

pub address_fits : (a : List ℕ) → att_fits (pending a) ≡ true → block_length a ≤ 1002
address_fits a f = room_suffices (pending a) f

pub height_fits : (h : ℕ) → att_fits (bitcoin h) ≡ true → length (shortest h) ≤ 1002
height_fits h f = room_suffices (bitcoin h) f
