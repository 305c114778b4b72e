-- The items of a walk, one after another, without the bound on their number.
use Rattle.std.proofs.Common.{◌≡◌, ℕ, zero, suc, ◌+◌, ◌-◌, ◌≤◌, List, [], ◌∷◌, length, sym, refl, ap, ◌∙◌, arith}
use Rattle.format.specs.declared.Level.{Level}
use Rattle.format.specs.Outcome.{Outcome, got, fault, then}
use Rattle.format.specs.Items.{item_at}
use Rattle.format.specs.Nodes.{more_at}
use Rattle.format.specs.Files.{end_at}
use Rattle.format.specs.Walks.{Place, inside, behind, Step, step_at, steps_from, steps_at}
use Rattle.format.proofs.Progress.{From, from_then, item_from}
use Rattle.format.proofs.NodeLaw.{item_past, more_past, more_from, then_cong}

-- the next item takes a byte at least
pub step_from : (levels : List Level) (size : ℕ) (file : List ℕ) (at : ℕ) → From (at + 1) (step_at levels size file at)
step_from levels size file at =
    from_then at (at + 1) (more_at file at) _ (more_from file at) (λ more next h.
    from_then (next + 1) (at + 1) (item_at (length levels) size file next) _ (item_from (length levels) size file next)
    (λ p end g. let z : at + 1 ≤ end = omega arith in z))

pub step_past : (levels : List Level) (size : ℕ) (file : List ℕ) (at : ℕ) → length file ≤ at → step_at levels size file at ≡ fault 2 (length file)
step_past levels size file at h = rw (more_past file at h, item_past (length levels) size file at h)

-- how the items from a place on are read
abbrev pub Stepping : Type 0
Stepping = Place → List ℕ → ℕ → Outcome (List Step)

abbrev pub steps_by : Stepping → Stepping
steps_by f (inside levels size) file at =
    then (step_at levels size file at) (λ h next. then (f h.place file next) (λ ss last. got (h.step ∷ ss) last))
steps_by f behind file at = end_at file [] at

by_cong : (f g : Stepping) (levels : List Level) (size : ℕ) (file : List ℕ) (at : ℕ)
    → ((p : Place) (a : ℕ) → at + 1 ≤ a → f p file a ≡ g p file a) → steps_by f (inside levels size) file at ≡ steps_by g (inside levels size) file at
by_cong f g levels size file at e =
    then_cong (at + 1) (step_at levels size file at) _ _ (step_from levels size file at)
    (λ h next l. ap (λ z. then z (λ ss last. got (h.step ∷ ss) last)) (e h.place next l))

-- a bound of at least the bytes left changes nothing
steps_same : (k j : ℕ) (place : Place) (file : List ℕ) (at : ℕ) → length file - at ≤ k → length file - at ≤ j
    → steps_from place k file at ≡ steps_from place j file at
unfolding steps_from
steps_same k j behind file at h g = refl
steps_same zero zero (inside levels size) file at h g = refl
steps_same zero (suc j) (inside levels size) file at h g =
    sym (ap (λ z. then z (λ h next. then (steps_from h.place j file next) (λ ss last. got (h.step ∷ ss) last))) (step_past levels size file at (omega arith)))
steps_same (suc k) zero (inside levels size) file at h g =
    ap (λ z. then z (λ h next. then (steps_from h.place k file next) (λ ss last. got (h.step ∷ ss) last))) (step_past levels size file at (omega arith))
steps_same (suc k) (suc j) (inside levels size) file at h g =
    by_cong (λ p f a. steps_from p k f a) (λ p f a. steps_from p j f a) levels size file at (λ p a l. steps_same k j p file a (omega arith) (omega arith))

-- the items from a place on are the next one and those behind it
pub steps_law : (place : Place) (file : List ℕ) (at : ℕ) → steps_at place file at ≡ steps_by steps_at place file at
unfolding steps_at steps_from
steps_law behind file at = refl
steps_law (inside levels size) file at =
    steps_same (length file - at) (suc (length file)) (inside levels size) file at (omega arith) (omega arith)
    ∙ by_cong (λ p f a. steps_from p (length file) f a) steps_at levels size file at
    (λ p a l. steps_same (length file) (length file - a) p file a (omega arith) (omega arith))
