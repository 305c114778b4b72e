-- Byte strings that are compared byte by byte.
use Rattle.std.proofs.Common.{◌≡◌, ℕ, true, List}
use Rattle.std.proofs.lemmas.Slice.Eq.{bytes_eq-Decides}
use Rattle.format.specs.Attestations.{same}

pub same_tells : (xs ys : List ℕ) → same xs ys ≡ true → xs ≡ ys
same_tells xs ys = (bytes_eq-Decides xs ys).0

pub same_from : (xs ys : List ℕ) → xs ≡ ys → same xs ys ≡ true
same_from xs ys = (bytes_eq-Decides xs ys).1
