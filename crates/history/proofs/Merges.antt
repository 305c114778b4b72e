-- What a merge rests on: the law of runs, at the run that the merge makes.
use Rattle.std.proofs.Common.{◌≡◌, ℕ, ◌+◌, ◌<◌, ◌≤◌, ◌⊎◌, List, [], ◌∷◌, ◌++◌, length, get_or, take, Some, sym, refl, ap, ◌∙◌, subst, inl, inr, ⊎_elim, arith, take_all}
use Rattle.std.specs.List.{slice_get}
use Rattle.std.proofs.lemmas.List.{take_more, get_or-map, length-map}
use Rattle.std.proofs.lemmas.Option.{slice_get-get_or}
use Rattle.format.specs.Nodes.{Claim}
use Rattle.claim_trees.specs.Tree.{In}
use Rattle.replay.specs.Areas.{left}
use Rattle.judge.specs.Meaning.{Meaning}
use Rattle.runs.specs.declared.report.Tally.{Tally}
use Rattle.runs.specs.Contents.{Content, Dossier, settled}
use Rattle.runs.specs.Answers.{granted}
use Rattle.runs.specs.Runs.{Event, add, settle, write, tally, Step, Run, then}
use Rattle.runs.specs.Law.{Granted, Union}
use Rattle.runs.proofs.Stepping.{differ}
use Rattle.runs.proofs.Laws.{law}
use Rattle.history.specs.declared.merged.Piece.{Piece}
use Rattle.history.specs.Merging.{files_of, grants_onto, grants, SomePiece, Merges}

-- ---- one file more

grants_more : (es : List Event) (fs : List (List ℕ)) (f : List ℕ) → grants_onto es (fs ++ f ∷ []) ≡ add f (granted tt) ∷ grants_onto es fs
unfolding grants_onto
grants_more es [] f = refl
grants_more es (g ∷ fs) f = grants_more (add g (granted tt) ∷ es) fs f

module _ (pieces : List Piece) (i : ℕ) (d : Piece) (h : i < length pieces) where
  within : i < length (files_of pieces)
  within = let l = length-map pieces (λ p. p.file.now) in omega arith

  is_file : get_or (files_of pieces) i [] ≡ (get_or pieces i d).file.now
  is_file = get_or-map (λ p. p.file.now) pieces i d [] h

  pub piece_at_lem : slice_get (files_of pieces) i ≡ Some (get_or pieces i d).file.now
  piece_at_lem = slice_get-get_or (files_of pieces) i [] within ∙ ap (λ (f : List ℕ). Some f) is_file

  pub next_piece : (s t : Dossier) → Run (grants (take i (files_of pieces))) s → Step s (add (get_or pieces i d).file.now (granted tt)) t
      → Run (grants (take (i + 1) (files_of pieces))) t
  next_piece s t r k =
      let f = (get_or pieces i d).file.now in
      let e : take (i + 1) (files_of pieces) ≡ take i (files_of pieces) ++ f ∷ []
      = take_more (files_of pieces) i [] within ∙ ap (λ (y : List ℕ). take i (files_of pieces) ++ y ∷ []) is_file in
      subst (λ (es : List Event). Run es t) (sym (ap grants e ∙ grants_more [] (take i (files_of pieces)) f)) (then r k)

pub all_pieces : (pieces : List Piece) (i : ℕ) (s : Dossier) → length pieces ≤ i → Run (grants (take i (files_of pieces))) s → Run (grants (files_of pieces)) s
all_pieces pieces i s h r =
    let l = length-map pieces (λ p. p.file.now) in
    subst (λ (fs : List (List ℕ)). Run (grants fs) s) (take_all i (files_of pieces) (omega arith)) r

-- ---- what was granted is a piece

kept_in : (e : Event) (es : List Event) (fs : List (List ℕ)) → In e es → In e (grants_onto es fs)
unfolding grants_onto
kept_in e es [] i = i
kept_in e es (f ∷ fs) i = kept_in e (add f (granted tt) ∷ es) fs (inr i)

granted_in : (file : List ℕ) (es : List Event) (fs : List (List ℕ)) → In file fs → In (add file (granted tt)) (grants_onto es fs)
unfolding grants_onto
granted_in file es [] i = absurd i
granted_in file es (f ∷ fs) (inl q) = kept_in (add file (granted tt)) (add f (granted tt) ∷ es) fs (inl (ap (λ (z : List ℕ). add z (granted tt)) q))
granted_in file es (f ∷ fs) (inr i) = granted_in file (add f (granted tt) ∷ es) fs i

same_file : (f g : List ℕ) → ◌≡◌ {A = Event} (add f (granted tt)) (add g (granted tt)) → f ≡ g
same_file f g e = cc

in_granted : (file : List ℕ) (es : List Event) (fs : List (List ℕ)) → In (add file (granted tt)) (grants_onto es fs) → In (add file (granted tt)) es ⊎ In file fs
unfolding grants_onto
in_granted file es [] i = inl i
in_granted file es (f ∷ fs) i = ⊎_elim
    (λ j. ⊎_elim (λ q. inr (inl (same_file file f q))) (λ k. inl k) j)
    (λ j. inr (inr j))
    (in_granted file (add f (granted tt) ∷ es) fs i)

-- ---- the merge

module _ (files : List (List ℕ)) (m : Meaning) (out work : List ℕ) (s : Content) (n : ℕ) (t : Tally) (after : List ℕ) where
  abbrev events : List Event
  events = write out (granted n) after ∷ tally m work (granted t) (left work) ∷ settle ∷ grants files

  is_granted : (file : List ℕ) → In file files → Granted events file
  is_granted file i = inr (inr (inr (granted_in file [] files i)))

  is_piece_lem : (file : List ℕ) → Granted events file → In file files
  is_piece_lem file (inl q) = differ (cc)
  is_piece_lem file (inr (inl q)) = differ (cc)
  is_piece_lem file (inr (inr (inl q))) = differ (cc)
  is_piece_lem file (inr (inr (inr i))) = ⊎_elim (λ j. absurd j) (λ j. j) (in_granted file [] files i)

  some_piece : (c : Claim) → Union events c → SomePiece files c
  some_piece c u = record { file = u.file; says = u.says; end = u.end; piece = is_piece_lem u.file u.grant; reads = u.reads; has = u.has }

  piece_union : (c : Claim) → SomePiece files c → Union events c
  piece_union c p = record { file = p.file; says = p.says; end = p.end; grant = is_granted p.file p.piece; reads = p.reads; has = p.has }

  pub merges : Run (tally m work (granted t) (left work) ∷ settle ∷ grants files) (settled s) → Step (settled s) (write out (granted n) after) (settled s)
      → Merges files m out work s n t after
  merges r k =
      let run : Run events (settled s) = then r k in
      let g = law.gathers events (settled s) run in
      record {
        run = run;
        reads = λ file i. g.reads file (is_granted file i);
        digest = λ file f end i e. g.digest.theirs file f end (is_granted file i) e;
        union = λ c. ((λ i. some_piece c ((g.claims c).0 i)), (λ p. (g.claims c).1 (piece_union c p)));
        written = law.writes (tally m work (granted t) (left work) ∷ settle ∷ grants files) (settled s) out after n run;
        tally_true = law.tallies (settle ∷ grants files) (settled s) m work (left work) t r;
      }
