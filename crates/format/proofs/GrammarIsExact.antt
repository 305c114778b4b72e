-- The reading accepts exactly the files of the grammar.
use Rattle.std.proofs.Common.{◌≡◌, length, subst}
use Rattle.format.specs.Outcome.{Outcome}
use Rattle.format.specs.Files.{Said}
use Rattle.format.specs.Grammar.{File}
use Rattle.format.specs.Exact.{Exact}
use Rattle.format.proofs.Sound.{Reads, sound_file}
use Rattle.format.proofs.Complete.{full_file}

pub exact : Exact
exact file s =
    let P : Outcome Said → Type 0 = λ o. Reads (λ s n. (n ≡ length file) × File file s) o in (
      (λ e. let r : (length file ≡ length file) × File file s = subst P e (sound_file file) in r.1),
      full_file file s,
    )
