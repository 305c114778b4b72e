-- What a list of words asks for.
use Rattle.std.specs.Prelude.{ℕ, cond, List, [], ◌∷◌, Some, None, Ok, Err, Result}
use Rattle.std.specs.Borrow.{Bor}
use Rattle.report.specs.declared.options.Request.{Request}
use Rattle.report.specs.declared.options.Wrong.{Wrong}
use Rattle.report.specs.Options.{named_by, is_paired, is_piece, stepped, no_request}

-- the words behind a word, without its value if it takes one
abbrev pub behind : List ℕ → List (Bor (List ℕ)) → List (Bor (List ℕ))
behind word [] = []
behind word (v ∷ ws) = cond (is_paired (named_by word)) ws (v ∷ ws)

abbrev pub after : Result Request Wrong → (Request → Result Request Wrong) → Result Request Wrong
after (Ok s) f = f s
after (Err e) f = Err e

-- the request after some words: an option takes its value with it
unfoldable pub request_from : Request → List (Bor (List ℕ)) → Result Request Wrong
request_from s [] = Ok s
request_from s (w ∷ []) = stepped s w None
request_from s (w ∷ v ∷ ws) =
    after (stepped s w (Some v)) (λ t. cond (is_paired (named_by w.now)) (request_from t ws) (request_from t (v ∷ ws)))

abbrev pub request_of : List (Bor (List ℕ)) → Result Request Wrong
request_of ws = request_from no_request ws

abbrev pub piece_before : Bor (List ℕ) → List (Bor (List ℕ)) → List (Bor (List ℕ))
piece_before w rest = cond (is_piece (named_by w.now)) (w ∷ rest) rest

-- the proofs among the words
unfoldable pub pieces_of : List (Bor (List ℕ)) → List (Bor (List ℕ))
pieces_of [] = []
pieces_of (w ∷ []) = piece_before w []
pieces_of (w ∷ v ∷ ws) = piece_before w (cond (is_paired (named_by w.now)) (pieces_of ws) (pieces_of (v ∷ ws)))
