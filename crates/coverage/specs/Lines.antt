-- The lines of a coverage.
use Rattle.std.specs.Prelude.{ℕ, Bool, true, false, cond, List, ◌++◌, codes, decimal, encode_utf8_all}
use Rattle.headers.specs.declared.ending.Ending.{Ending}
use Rattle.headers.specs.declared.ending.Ending.TheVariants.{Ceiling, Complete, Count, Height, Cut, Link, Bits, Target, Work}
use Rattle.dates.specs.Utc.{utc_of}
use Rattle.dates.specs.Text.{text_of}
use Rattle.coverage.specs.declared.spans.Span.{Span}

abbrev pub headers_line : ℕ → List ℕ
headers_line covered = codes "headers " ++ decimal covered

abbrev pub heights_line : Span → List ℕ
heights_line s = codes "heights " ++ (decimal s.from ++ (codes " to " ++ decimal s.to))

-- 2009-01-03 18:15:05 UTC
unfoldable pub date_text : ℕ → List ℕ
date_text time = encode_utf8_all (text_of (utc_of time))

abbrev pub in_brackets : ℕ → List ℕ
in_brackets time = codes "(" ++ (date_text time ++ codes ")")

-- 1231006505 (2009-01-03 18:15:05 UTC)
abbrev pub time_text : ℕ → List ℕ
time_text time = decimal time ++ (codes " " ++ in_brackets time)

abbrev pub times_line : Span → List ℕ
times_line s = codes "times " ++ (time_text s.early ++ (codes " to " ++ time_text s.late))

abbrev pub ending_words : Ending → List ℕ
ending_words Ceiling = codes "ceiling unlawful"
ending_words Complete = codes "end of file"
ending_words Count = codes "limit of headers"
ending_words Height = codes "limit of height"
ending_words Cut = codes "cut short"
ending_words Link = codes "link broken"
ending_words Bits = codes "bits unlawful"
ending_words Target = codes "target above ceiling"
ending_words Work = codes "hash above target"

-- the endings that are about the first header behind the run
abbrev pub at_header : Ending → Bool
at_header Ceiling = false
at_header Complete = false
at_header Count = true
at_header Height = true
at_header Cut = true
at_header Link = true
at_header Bits = true
at_header Target = true
at_header Work = true

abbrev pub ending_line : Ending → ℕ → List ℕ
ending_line e place =
    cond (at_header e)
    (codes "ended: " ++ (ending_words e ++ (codes " at header " ++ decimal place)))
    (codes "ended: " ++ ending_words e)
