-- What a dossier of the program stands for.
use Rattle.std.specs.Prelude.{◌≡◌, true, Some, None, Option, refl}
use Rattle.runs.specs.Contents.{Content, blank}
use Rattle.runs.specs.Invariants.{keeps}
use Rattle.rows.specs.declared.held.About.{About}
use Rattle.rows.specs.Models.{content_about}

abbrev pub content_of : Option About → Content
content_of None = blank
content_of (Some a) = content_about a

-- whatever it is, it is kept: its tree is lawful and within the limits, in order, nothing in it twice, every claim one that
-- a file can hold
pub kept : (held : Option About) → keeps (content_of held) ≡ true
kept None = refl
kept (Some a) = a.kept
