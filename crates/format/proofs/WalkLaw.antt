-- The items of a walk, with their depths, determine the claims of the node.
use Rattle.std.proofs.Common.{◌≡◌, ℕ, zero, suc, ◌+◌, ◌-◌, ◌≤◌, Bool, true, false, cond, eqb, leb, List, [], ◌∷◌, ◌++◌, map, length, take, sym, refl, ap, ◌∙◌, append_assoc, zero-le, le_refl, add-one, arith}
use Rattle.std.proofs.lemmas.List.{append-nil, map-append, length-take-le, length-append, take-take, take_all, take-append-le}
use Rattle.format.specs.declared.Level.{Level}
use Rattle.format.specs.Outcome.{Outcome, got, fault, then}
use Rattle.format.specs.Operations.{Op, op_of, result_size}
use Rattle.format.specs.Attestations.{Att}
use Rattle.format.specs.Items.{Piece, operation, attestation, item_at}
use Rattle.format.specs.Nodes.{Claim, claim, under, more_at, below_by, branch_by, node_at}
use Rattle.format.specs.Files.{Head, said, file_limit, head_at, top_at, end_at, file_at}
use Rattle.format.specs.Walks.{level, Place, inside, behind, risen, after, Step, step, step_at, steps_from, steps_at, top, walked, walk_at, path_after, claims_here, claims_of, ItemsDetermineClaims}
use Rattle.format.proofs.Progress.{item_from}
use Rattle.format.proofs.NodeLaw.{item_past, more_past, more_from, node_past, node_law, node_from_lem, then_cong}
use Rattle.format.proofs.Chains.{then_then, then_same}
use Rattle.format.proofs.StepsLaw.{steps_law}

-- the claims of the items read, below the operations on path
abbrev gives : List Op → Outcome (List Step) → Outcome (List Claim)
gives path o = then o (λ ss last. got (claims_of path ss) last)

-- claims that come before those read
abbrev ahead : List Claim → Outcome (List Claim) → Outcome (List Claim)
ahead cs o = then o (λ ds last. got (cs ++ ds) last)

-- the claims from a place on
abbrev from : List Op → Place → List ℕ → ℕ → Outcome (List Claim)
from path place file at = gives path (steps_at place file at)

-- a claim below the operations on a path
abbrev beneath : List Op → Claim → Claim
beneath path c = claim (path ++ c.path) c.attestation

ahead_none : (o : Outcome (List Claim)) → ahead [] o ≡ o
ahead_none (got cs n) = refl
ahead_none (fault c o) = refl

ahead_ahead : (xs ys : List Claim) (o : Outcome (List Claim)) → ahead xs (ahead ys o) ≡ ahead (xs ++ ys) o
ahead_ahead xs ys (got cs n) = ap (λ z. got z n) (sym (append_assoc xs ys cs))
ahead_ahead xs ys (fault c o) = refl

-- one item, and the claims behind it
gives_step : (path : List Op) (depth : ℕ) (p : Piece) (o : Outcome (List Step))
    → gives path (then o (λ ss last. got (step depth p ∷ ss) last)) ≡ ahead (claims_here path depth p) (gives (path_after path depth p) o)
unfolding claims_of
gives_step path depth p (got ss n) = refl
gives_step path depth p (fault c o) = refl

-- the same over a whole step, by any reading of what lies behind
stepped : (path : List Op) (levels : List Level) (size : ℕ) (file : List ℕ) (at : ℕ) (f : Place → ℕ → Outcome (List Step))
    → gives path (then (step_at levels size file at) (λ h next. then (f h.place next) (λ ss last. got (h.step ∷ ss) last)))
    ≡ then (more_at file at) (λ more next. then (item_at (length levels) size file next) (λ p end.
    ahead (claims_here path (length levels) p) (gives (path_after path (length levels) p) (f (after more p levels size) end))))
stepped path levels size file at f =
    then_then (step_at levels size file at) _ _
    ∙ (then_then (more_at file at) _ _
    ∙ then_same (more_at file at) _ _ (λ more next.
    then_then (item_at (length levels) size file next) _ _
    ∙ then_same (item_at (length levels) size file next) _ _ (λ p end. gives_step path (length levels) p (f (after more p levels size) end))))

-- ---- only the operations above a place matter there
abbrev deep : Place → ℕ
deep (inside levels size) = length levels
deep behind = 0

risen_by : (b : Bool) (ls : List Level) (size : ℕ) → deep (risen ls) ≤ length ls → deep (cond b (inside ls size) (risen ls)) ≤ suc (length ls)
risen_by true ls size h = omega arith
risen_by false ls size h = omega arith

rises : (levels : List Level) → deep (risen levels) ≤ length levels
rises [] = zero-le
rises (l ∷ ls) = risen_by l.more ls l.size (rises ls)

fewer : (m n : ℕ) (xs ys : List Op) → m ≤ n → take n xs ≡ take n ys → take m xs ≡ take m ys
fewer m n xs ys l e = sym (take-take m n xs l) ∙ (ap (λ z. take m z) e ∙ take-take m n ys l)

ended_by : (path other : List Op) (at : ℕ) (b : Bool) → gives path (cond b (got [] at) (fault 12 at)) ≡ gives other (cond b (got [] at) (fault 12 at))
unfolding claims_of
ended_by path other at true = refl
ended_by path other at false = refl

-- behind one item: an operation is put on top of what lies above it, an attestation leaves the path
passed : (path other : List Op) (levels : List Level) (size : ℕ) (more : Bool) (p : Piece) (f : Place → Outcome (List Step))
    → take (length levels) path ≡ take (length levels) other
    → ((place : Place) (xs ys : List Op) → take (deep place) xs ≡ take (deep place) ys → gives xs (f place) ≡ gives ys (f place))
    → ahead (claims_here path (length levels) p) (gives (path_after path (length levels) p) (f (after more p levels size)))
    ≡ ahead (claims_here other (length levels) p) (gives (path_after other (length levels) p) (f (after more p levels size)))
passed path other levels size more (operation kind argument offset first) f e h =
    ap (λ z. ahead [] (gives (z ++ (op_of kind argument ∷ [])) (f (inside (level more size ∷ levels) (result_size kind size (length argument)))))) e
passed path other levels size true (attestation a payload offset first) f e h =
    ap (λ z. ahead (claim z a ∷ []) (gives path (f (inside levels size)))) e
    ∙ ap (λ z. ahead (claim (take (length levels) other) a ∷ []) z) (h (inside levels size) path other e)
passed path other levels size false (attestation a payload offset first) f e h =
    ap (λ z. ahead (claim z a ∷ []) (gives path (f (risen levels)))) e
    ∙ ap (λ z. ahead (claim (take (length levels) other) a ∷ []) z)
    (h (risen levels) path other (fewer (deep (risen levels)) (length levels) path other (rises levels) e))

only_above' : (k : ℕ) (place : Place) (path other : List Op) (file : List ℕ) (at : ℕ) → take (deep place) path ≡ take (deep place) other
    → gives path (steps_from place k file at) ≡ gives other (steps_from place k file at)
unfolding steps_from
only_above' k behind path other file at e = ended_by path other at (eqb at (length file))
only_above' zero (inside levels size) path other file at e = refl
only_above' (suc k) (inside levels size) path other file at e =
    stepped path levels size file at (λ p a. steps_from p k file a)
    ∙ (then_same (more_at file at) _ _ (λ more next.
    then_same (item_at (length levels) size file next) _ _ (λ p end.
    passed path other levels size more p (λ q. steps_from q k file end) e (λ q xs ys d. only_above' k q xs ys file end d)))
    ∙ sym (stepped other levels size file at (λ p a. steps_from p k file a)))

only_above : (place : Place) (path other : List Op) (file : List ℕ) (at : ℕ) → take (deep place) path ≡ take (deep place) other
    → from path place file at ≡ from other place file at
unfolding steps_at
only_above place path other file at e = only_above' (length file - at) place path other file at e

-- ---- a walk through a node gives its claims, and goes on behind it
-- the claims of a node below path, and those behind it
abbrev onward : List Op → List Level → List ℕ → List Claim → ℕ → Outcome (List Claim)
onward path levels file cs mid = ahead (map (beneath (take (length levels) path)) cs) (from path (risen levels) file mid)

abbrev Through : List ℕ → List Level → ℕ → ℕ → List Op → Type 0
Through file levels size at path = from path (inside levels size) file at ≡ then (node_at (length levels) size file at) (onward path levels file)

walk_inside : (path : List Op) (levels : List Level) (size : ℕ) (file : List ℕ) (at : ℕ)
    → from path (inside levels size) file at
    ≡ then (more_at file at) (λ more next. then (item_at (length levels) size file next) (λ p end.
    ahead (claims_here path (length levels) p) (from (path_after path (length levels) p) (after more p levels size) file end)))
walk_inside path levels size file at =
    ap (gives path) (steps_law (inside levels size) file at) ∙ stepped path levels size file at (λ p a. steps_at p file a)

-- the rest of a node behind a branch with these claims
abbrev rest_of : Bool → ℕ → ℕ → List ℕ → List Claim → ℕ → Outcome (List Claim)
rest_of more depth size file cs next = cond more (ahead cs (node_at depth size file next)) (got cs next)

node_inside : (path : List Op) (levels : List Level) (size : ℕ) (file : List ℕ) (at : ℕ)
    → then (node_at (length levels) size file at) (onward path levels file)
    ≡ then (more_at file at) (λ more next. then (item_at (length levels) size file next) (λ p end.
    then (below_by node_at p (length levels) size file end) (λ cs n. then (rest_of more (length levels) size file cs n) (onward path levels file))))
node_inside path levels size file at =
    ap (λ z. then z (onward path levels file)) (node_law (length levels) size file at)
    ∙ (then_then (more_at file at) _ _
    ∙ then_same (more_at file at) _ _ (λ more next.
    then_then (branch_by node_at (length levels) size file next) _ _
    ∙ then_then (item_at (length levels) size file next) _ _))

-- claims before those of a node
ahead_onward : (path : List Op) (levels : List Level) (file : List ℕ) (xs cs ds : List Claim)
    → map (beneath (take (length levels) path)) cs ≡ xs ++ map (beneath (take (length levels) path)) ds → (mid : ℕ)
    → ahead xs (onward path levels file ds mid) ≡ onward path levels file cs mid
ahead_onward path levels file xs cs ds e mid =
    ahead_ahead xs (map (beneath (take (length levels) path)) ds) (from path (risen levels) file mid)
    ∙ ap (λ z. ahead z (from path (risen levels) file mid)) (sym e)

-- more of the node follows a branch with claims cs, which the walk has given as xs
more_follows : (path : List Op) (levels : List Level) (size : ℕ) (file : List ℕ) (next : ℕ) (xs cs : List Claim)
    → ((ds : List Claim) → map (beneath (take (length levels) path)) (cs ++ ds) ≡ xs ++ map (beneath (take (length levels) path)) ds)
    → Through file levels size next path
    → ahead xs (from path (inside levels size) file next) ≡ then (rest_of true (length levels) size file cs next) (onward path levels file)
more_follows path levels size file next xs cs e h =
    ap (ahead xs) h
    ∙ (then_then (node_at (length levels) size file next) (onward path levels file) (λ ds last. got (xs ++ ds) last)
    ∙ (then_same (node_at (length levels) size file next) _ _ (λ ds mid. ahead_onward path levels file xs (cs ++ ds) ds (e ds) mid)
    ∙ sym (then_then (node_at (length levels) size file next) (λ ds last. got (cs ++ ds) last) (onward path levels file))))

bare : (path : List Op) (a : Att) → beneath path (claim [] a) ≡ claim path a
bare path a = ap (λ z. claim z a) (append-nil path)

through_under : (path : List Op) (o : Op) (cs : List Claim) → map (beneath path) (map (under o) cs) ≡ map (beneath (path ++ (o ∷ []))) cs
through_under path o [] = refl
through_under path o (c ∷ cs) =
    ap (λ z. claim z c.attestation ∷ map (beneath path) (map (under o) cs)) (sym (append_assoc path (o ∷ []) c.path))
    ∙ ap (λ z. beneath (path ++ (o ∷ [])) c ∷ z) (through_under path o cs)

attestation_passed : (path : List Op) (levels : List Level) (size : ℕ) (file : List ℕ) (more : Bool) (a : Att) (end : ℕ)
    → Through file levels size end path
    → ahead (claim (take (length levels) path) a ∷ []) (from path (cond more (inside levels size) (risen levels)) file end)
    ≡ then (rest_of more (length levels) size file (claim [] a ∷ []) end) (onward path levels file)
attestation_passed path levels size file true a end h =
    more_follows path levels size file end (claim (take (length levels) path) a ∷ []) (claim [] a ∷ [])
    (λ ds. ap (λ z. z ∷ map (beneath (take (length levels) path)) ds) (bare (take (length levels) path) a)) h
attestation_passed path levels size file false a end h =
    ap (λ z. ahead (z ∷ []) (from path (risen levels) file end)) (sym (bare (take (length levels) path) a))

-- behind the node below an operation: the levels above are those of before
operation_passed : (path : List Op) (levels : List Level) (size : ℕ) (file : List ℕ) (more : Bool) (o : Op) (cs : List Claim) (mid : ℕ)
    → length levels ≤ length path → Through file levels size mid path
    → ahead (map (beneath (take (length levels) path ++ (o ∷ []))) cs) (from (take (length levels) path ++ (o ∷ [])) (cond more (inside levels size) (risen levels)) file mid)
    ≡ then (rest_of more (length levels) size file (map (under o) cs) mid) (onward path levels file)
operation_passed path levels size file more o cs mid l h = by_more more
  where
    above : List Op
    above = take (length levels) path

    kept : (m : ℕ) → m ≤ length levels → take m (above ++ (o ∷ [])) ≡ take m path
    kept m d = let n : length above ≡ length levels = length-take-le (length levels) path l in
        take-append-le m above (o ∷ []) (omega arith) ∙ take-take m (length levels) path d

    by_more : (b : Bool) → ahead (map (beneath (above ++ (o ∷ []))) cs) (from (above ++ (o ∷ [])) (cond b (inside levels size) (risen levels)) file mid)
        ≡ then (rest_of b (length levels) size file (map (under o) cs) mid) (onward path levels file)
    by_more true =
        ap (ahead (map (beneath (above ++ (o ∷ []))) cs)) (only_above (inside levels size) (above ++ (o ∷ [])) path file mid (kept (length levels) (le_refl (length levels))))
        ∙ more_follows path levels size file mid (map (beneath (above ++ (o ∷ []))) cs) (map (under o) cs)
        (λ ds. map-append (beneath above) (map (under o) cs) ds ∙ ap (λ z. z ++ map (beneath above) ds) (through_under above o cs)) h
    by_more false =
        ap (ahead (map (beneath (above ++ (o ∷ []))) cs)) (only_above (risen levels) (above ++ (o ∷ [])) path file mid (kept (deep (risen levels)) (rises levels)))
        ∙ ap (λ z. ahead z (from path (risen levels) file mid)) (sym (through_under above o cs))

-- one item and what lies behind it, where the nodes further on are walked through as they should be
item_passed : (path : List Op) (levels : List Level) (size : ℕ) (file : List ℕ) (more : Bool) (p : Piece) (end : ℕ) → length levels ≤ length path
    → ((ls : List Level) (s a : ℕ) (ops : List Op) → length ls ≤ length ops → end ≤ a → Through file ls s a ops)
    → ahead (claims_here path (length levels) p) (from (path_after path (length levels) p) (after more p levels size) file end)
    ≡ then (below_by node_at p (length levels) size file end) (λ cs n. then (rest_of more (length levels) size file cs n) (onward path levels file))
item_passed path levels size file true (attestation a payload offset first) end l h =
    attestation_passed path levels size file true a end (h levels size end path l (le_refl end))
item_passed path levels size file false (attestation a payload offset first) end l h =
    attestation_passed path levels size file false a end (h levels size end path l (le_refl end))
item_passed path levels size file more (operation kind argument offset first) end l h =
    let o : Op = op_of kind argument in
    let below : ℕ = result_size kind size (length argument) in
    let above : List Op = take (length levels) path ++ (op_of kind argument ∷ []) in
    let n : length (take (length levels) path) ≡ length levels = length-take-le (length levels) path l in
    let m : length (take (length levels) path ++ (op_of kind argument ∷ [])) ≡ length (take (length levels) path) + 1 = length-append (take (length levels) path) (op_of kind argument ∷ []) in
    let e : take (suc (length levels)) (take (length levels) path ++ (op_of kind argument ∷ [])) ≡ take (length levels) path ++ (op_of kind argument ∷ [])
    = take_all (suc (length levels)) (take (length levels) path ++ (op_of kind argument ∷ [])) (omega arith) in
    ahead_none (from above (inside (level more size ∷ levels) below) file end)
    ∙ (h (level more size ∷ levels) below end above (omega arith) (le_refl end)
    ∙ (ap (λ d. then (node_at d below file end) (onward above (level more size ∷ levels) file)) (sym (add-one (length levels)))
    ∙ (then_cong (end + 1) (node_at (length levels + 1) below file end) _ _ (node_from_lem (length levels + 1) below file end) (λ cs mid g.
    ap (λ z. ahead (map (beneath z) cs) (from above (cond more (inside levels size) (risen levels)) file mid)) e
    ∙ operation_passed path levels size file more o cs mid l (h levels size mid path l (omega arith)))
    ∙ sym (then_then (node_at (length levels + 1) below file end) _ _))))

through : (k : ℕ) (levels : List Level) (size : ℕ) (file : List ℕ) (at : ℕ) (path : List Op)
    → length levels ≤ length path → length file - at ≤ k → Through file levels size at path
through zero levels size file at path l b =
    let past : length file ≤ at = omega arith in
    walk_inside path levels size file at
    ∙ (ap (λ z. then z (λ more next. then (item_at (length levels) size file next) (λ p end.
    ahead (claims_here path (length levels) p) (from (path_after path (length levels) p) (after more p levels size) file end)))) (more_past file at past)
    ∙ (ap (λ z. then z (λ p end. ahead (claims_here path (length levels) p) (from (path_after path (length levels) p) (after false p levels size) file end)))
    (item_past (length levels) size file at past)
    ∙ sym (ap (λ z. then z (onward path levels file)) (node_law (length levels) size file at ∙ node_past node_at (length levels) size file at past))))
through (suc k) levels size file at path l b =
    walk_inside path levels size file at
    ∙ (then_cong at (more_at file at) _ _ (more_from file at) (λ more next g.
    then_cong (next + 1) (item_at (length levels) size file next) _ _ (item_from (length levels) size file next) (λ p end f.
    item_passed path levels size file more p end l (λ ls s a ops m u. through k ls s file a ops m (omega arith))))
    ∙ sym (node_inside path levels size file at))

-- ---- the whole file
same_claims : (cs : List Claim) → map (beneath []) cs ≡ cs
same_claims [] = refl
same_claims (c ∷ cs) = ap (λ z. c ∷ z) (same_claims cs)

end_by : (h : Head) (cs : List Claim) (mid : ℕ) (b : Bool)
    → then (ahead cs (gives [] (cond b (got [] mid) (fault 12 mid)))) (λ ds last. got (said h ds) last) ≡ cond b (got (said h cs) mid) (fault 12 mid)
unfolding claims_of
end_by h cs mid true = ap (λ z. got (said h z) mid) (append-nil cs)
end_by h cs mid false = refl

-- behind the top node nothing follows
at_the_end : (h : Head) (file : List ℕ) (cs : List Claim) (mid : ℕ)
    → then (onward [] [] file cs mid) (λ ds last. got (said h ds) last) ≡ end_at file (said h cs) mid
at_the_end h file cs mid =
    ap (λ z. then (ahead z (from [] behind file mid)) (λ ds last. got (said h ds) last)) (same_claims cs)
    ∙ (ap (λ z. then (ahead cs (gives [] z)) (λ ds last. got (said h ds) last)) (steps_law behind file mid)
    ∙ end_by h cs mid (eqb mid (length file)))

-- head, top node and end
topped : (h : Head) (file : List ℕ) (at : ℕ)
    → then (then (node_at 0 32 file at) (λ cs last. got (said h cs) last)) (end_at file)
    ≡ then (then (steps_at top file at) (λ ss last. got (walked h ss) last)) (λ w last. got (said w.head (claims_of [] w.steps)) last)
topped h file at =
    then_then (node_at 0 32 file at) _ _
    ∙ (then_same (node_at 0 32 file at) _ _ (λ cs mid. sym (at_the_end h file cs mid))
    ∙ (sym (then_then (node_at 0 32 file at) (onward [] [] file) (λ ds last. got (said h ds) last))
    ∙ (ap (λ z. then z (λ ds last. got (said h ds) last)) (sym (through (length file) [] 32 file at [] zero-le (omega arith)))
    ∙ (then_then (steps_at top file at) (λ ss last. got (claims_of [] ss) last) (λ ds last. got (said h ds) last)
    ∙ sym (then_then (steps_at top file at) _ _)))))

whole_by : (file : List ℕ) (b : Bool)
    → cond b (then (top_at file) (end_at file)) (fault 1 file_limit)
    ≡ then (cond b (then (head_at file) (λ h at. then (steps_at top file at) (λ ss last. got (walked h ss) last))) (fault 1 file_limit))
    (λ w last. got (said w.head (claims_of [] w.steps)) last)
unfolding top_at
whole_by file true =
    then_then (head_at file) _ _
    ∙ (then_same (head_at file) _ _ (λ h at. topped h file at)
    ∙ sym (then_then (head_at file) _ _))
whole_by file false = refl

pub items_determine_claims : ItemsDetermineClaims
unfolding file_at walk_at
items_determine_claims file = whole_by file (leb (length file) file_limit)
