-- Hexadecimal digits, put byte by byte.
use Rattle.std.proofs.Common.{◌≡◌, ℕ, ◌+◌, ◌/◌, ◌%◌, ◌<◌, List, [], ◌∷◌, ◌++◌, length, get_or, take, sym, refl, ap, ◌∙◌, append_assoc}
use Rattle.std.proofs.lemmas.List.{append-nil, take_more}
use Rattle.replay.specs.Messages.{digit, digits}

digits_push : (bs : List ℕ) (b : ℕ) → digits (bs ++ (b ∷ [])) ≡ (digits bs ++ (digit (b / 16) ∷ [])) ++ (digit (b % 16) ∷ [])
unfolding digits
digits_push [] b = refl
digits_push (c ∷ bs) b = ap (λ ds. digit (c / 16) ∷ (digit (c % 16) ∷ ds)) (digits_push bs b)

together : (a b c d : List ℕ) → ((a ++ b) ++ c) ++ d ≡ a ++ ((b ++ c) ++ d)
together a b c d = simp append_assoc

pub none_put : (acc : List ℕ) → acc ≡ acc ++ digits []
unfolding digits
none_put acc = sym (append-nil acc)

pub more_put : (acc bs : List ℕ) (i : ℕ) → i < length bs
    → ((acc ++ digits (take i bs)) ++ (digit (get_or bs i 0 / 16) ∷ [])) ++ (digit (get_or bs i 0 % 16) ∷ []) ≡ acc ++ digits (take (i + 1) bs)
more_put acc bs i l =
    together acc (digits (take i bs)) (digit (get_or bs i 0 / 16) ∷ []) (digit (get_or bs i 0 % 16) ∷ [])
    ∙ ap (λ ds. acc ++ ds) (sym (ap digits (take_more bs i 0 l) ∙ digits_push (take i bs) (get_or bs i 0)))
