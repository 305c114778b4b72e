-- One step along a list of words.
use Rattle.std.proofs.Common.{◌≡◌, ℕ, suc, ◌<◌, ◌≤◌, true, false, Bool, cond, List, [], ◌∷◌, ◌++◌, length, get_or, drop, Ok, Err, Some, None, Result, sym, refl, ap, ◌∙◌, append_assoc, append-nil, arith}
use Rattle.std.specs.Borrow.{Bor}
use Rattle.std.specs.List.{slice_get}
use Rattle.std.proofs.lemmas.List.{length-drop}
use Rattle.std.proofs.lemmas.Bool.{cond-true, cond-false}
use Rattle.report.specs.declared.options.Request.{Request}
use Rattle.report.specs.declared.options.Wrong.{Wrong}
use Rattle.report.specs.Options.{named_by, is_paired, is_piece, stepped}
use Rattle.report.specs.Requests.{behind, after, request_from, piece_before, pieces_of}

-- the word in front of a list, and what is left behind it and its value
abbrev pub no_word : Bor (List ℕ)
no_word = record { ref_ptr = (0, 0); now = [] }

abbrev pub front : List (Bor (List ℕ)) → Bor (List ℕ)
front left = get_or left 0 no_word

abbrev pub onto : List (Bor (List ℕ)) → List (Bor (List ℕ))
onto left = behind (front left).now (drop 1 left)

pub shorter : (left next : List (Bor (List ℕ))) → 0 < length left → next ≡ onto left → length next < length left
shorter left next l e = omega (arith, ap length e, fewer (front left).now (drop 1 left), length-drop 1 left)
  where
    of : (b : Bool) (v : Bor (List ℕ)) (ws : List (Bor (List ℕ))) → length (cond b ws (v ∷ ws)) ≤ suc (length ws)
    of true v ws = omega arith
    of false v ws = omega arith

    fewer : (w : List ℕ) (ws : List (Bor (List ℕ))) → length (behind w ws) ≤ length ws
    fewer w [] = omega arith
    fewer w (v ∷ ws) = of (is_paired (named_by w)) v ws

-- a function of one of two lists
of_either : {A B : Type 0} (f : A → B) (b : Bool) (x y : A) → cond b (f x) (f y) ≡ f (cond b x y)
of_either f true x y = refl
of_either f false x y = refl

pieces_more : (left : List (Bor (List ℕ))) → 0 < length left
    → pieces_of left ≡ piece_before (front left) (pieces_of (onto left))
unfolding pieces_of
pieces_more [] l = absurd (omega arith)
pieces_more (w ∷ []) l = refl
pieces_more (w ∷ v ∷ ws) l = ap (piece_before w) (of_either pieces_of (is_paired (named_by w.now)) ws (v ∷ ws))

-- a proof is kept, and any other word is passed over
pub kept : (left next sum acc more : List (Bor (List ℕ))) → 0 < length left → is_piece (named_by (front left).now) ≡ true
    → next ≡ onto left → more ≡ acc ++ (front left ∷ [])
    → sum ≡ acc ++ pieces_of left → sum ≡ more ++ pieces_of next
kept left next sum acc more l b e p h =
    h
    ∙ ap (λ z. acc ++ z) (pieces_more left l ∙ cond-true _ _ _ b)
    ∙ sym (append_assoc acc (front left ∷ []) (pieces_of (onto left)))
    ∙ ap (λ z. (acc ++ (front left ∷ [])) ++ pieces_of z) (sym e)
    ∙ ap (λ z. z ++ pieces_of next) (sym p)

pub left_out : (left next sum acc more : List (Bor (List ℕ))) → 0 < length left → is_piece (named_by (front left).now) ≡ false
    → next ≡ onto left → more ≡ acc
    → sum ≡ acc ++ pieces_of left → sum ≡ more ++ pieces_of next
left_out left next sum acc more l b e p h =
    h
    ∙ ap (λ z. acc ++ z) (pieces_more left l ∙ cond-false _ _ _ b)
    ∙ ap (λ z. acc ++ pieces_of z) (sym e)
    ∙ ap (λ z. z ++ pieces_of next) (sym p)

pub all_kept : (left sum acc : List (Bor (List ℕ))) → length left ≤ 0 → sum ≡ acc ++ pieces_of left → acc ≡ sum
unfolding pieces_of
all_kept [] sum acc l h = sym (h ∙ append-nil acc)
all_kept (w ∷ left) sum acc l h = absurd (omega arith)

-- the same for what is asked
after_none : (r : Result Request Wrong) → r ≡ after r (λ t. Ok t)
after_none (Ok t) = refl
after_none (Err w) = refl

asked_more : (s : Request) (left : List (Bor (List ℕ))) → 0 < length left
    → request_from s left ≡ after (stepped s (front left) (slice_get (drop 1 left) 0)) (λ t. request_from t (onto left))
unfolding request_from
asked_more s [] l = absurd (omega arith)
asked_more s (w ∷ []) l = after_none (stepped s w None)
asked_more s (w ∷ v ∷ ws) l = by (stepped s w (Some v))
  where
    by : (r : Result Request Wrong)
        → after r (λ t. cond (is_paired (named_by w.now)) (request_from t ws) (request_from t (v ∷ ws))) ≡ after r (λ t. request_from t (behind w.now (v ∷ ws)))
    by (Ok t) = of_either (request_from t) (is_paired (named_by w.now)) ws (v ∷ ws)
    by (Err e) = refl

pub onward : (s t : Request) (left next : List (Bor (List ℕ))) → 0 < length left
    → stepped s (front left) (slice_get (drop 1 left) 0) ≡ Ok t → next ≡ onto left
    → request_from s left ≡ request_from t next
onward s t left next l e n =
    asked_more s left l
    ∙ ap (λ r. after r (λ t. request_from t (onto left))) e
    ∙ ap (request_from t) (sym n)

pub stopped : (s : Request) (w : Wrong) (left : List (Bor (List ℕ))) → 0 < length left
    → stepped s (front left) (slice_get (drop 1 left) 0) ≡ Err w → request_from s left ≡ Err w
stopped s w left l e =
    asked_more s left l
    ∙ ap (λ r. after r (λ t. request_from t (onto left))) e

pub all_asked : (s : Request) (left : List (Bor (List ℕ))) → length left ≤ 0 → request_from s left ≡ Ok s
unfolding request_from
all_asked s [] l = refl
all_asked s (w ∷ left) l = absurd (omega arith)
