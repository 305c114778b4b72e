-- Text that grows by one byte's characters at a time.
use Rattle.std.proofs.Common.{◌≡◌, ℕ, ◌+◌, ◌/◌, ◌%◌, ◌<◌, ◌≤◌, List, [], ◌∷◌, ◌++◌, length, get_or, drop, sym, ap, ◌∙◌, append_assoc}
use Rattle.std.specs.Char.{digit_char}
use Rattle.std.proofs.lemmas.List.{at_drop_more, at_drop_all, append-nil}
use Rattle.account.specs.Words.{hex_of}

pub hex_more : (bs : List ℕ) (i : ℕ) → i < length bs
    → hex_of (drop i bs) ≡ digit_char (get_or bs i 0 / 16) ∷ digit_char (get_or bs i 0 % 16) ∷ hex_of (drop (i + 1) bs)
unfolding hex_of
hex_more bs i l = at_drop_more hex_of bs i 0 l

pub hex_all : (bs : List ℕ) (i : ℕ) → length bs ≤ i → hex_of (drop i bs) ≡ []
unfolding hex_of
hex_all bs i l = at_drop_all hex_of bs i l

-- what was written, then x, then the rest
pub onward : (start whole out rest next x : List ℕ) → start ++ whole ≡ out ++ rest → rest ≡ x ++ next → start ++ whole ≡ (out ++ x) ++ next
onward start whole out rest next x e d = e ∙ (ap (λ z. out ++ z) d ∙ sym (append_assoc out x next))

pub finally : (start whole out rest : List ℕ) → start ++ whole ≡ out ++ rest → rest ≡ [] → out ≡ start ++ whole
finally start whole out rest e d = sym (e ∙ (ap (λ z. out ++ z) d ∙ append-nil out))

-- a text t grew from out by the character c, which is the byte b
pub grown : (t out enc : List ℕ) (c b : ℕ) → t ≡ out ++ enc → enc ≡ c ∷ [] → c ≡ b → t ≡ out ++ (b ∷ [])
grown t out enc c b e a v = e ∙ (ap (λ z. out ++ z) a ∙ ap (λ z. out ++ (z ∷ [])) v)

-- and then by another
pub grown_twice : (u t out : List ℕ) (b d : ℕ) → t ≡ out ++ (b ∷ []) → u ≡ t ++ (d ∷ []) → u ≡ out ++ (b ∷ d ∷ [])
grown_twice u t out b d e f = f ∙ (ap (λ z. z ++ (d ∷ [])) e ∙ append_assoc out (b ∷ []) (d ∷ []))

pub onward_at : (start whole out rest next x t : List ℕ) → start ++ whole ≡ out ++ rest → rest ≡ x ++ next → t ≡ out ++ x → start ++ whole ≡ t ++ next
onward_at start whole out rest next x t e d g = onward start whole out rest next x e d ∙ ap (λ z. z ++ next) (sym g)
