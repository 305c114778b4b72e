-- One option: what a word and the word behind it ask for.
use Rattle.std.specs.Prelude.{ℕ, Bool, true, false, cond, ◌&&◌, List, length, Some, None, Ok, Err, codes, Option, Result, ◌==◌, nat_le, slice_index, bytes_eq}
use Rattle.std.specs.Borrow.{Bor}
use Rattle.headers.specs.declared.chain.Chain.{Chain as Options}
use Rattle.coverage.specs.declared.options.ChainOption.{ChainOption}
use Rattle.coverage.specs.Options.{main_chain, chain_option, with_chain}
use Rattle.report.specs.declared.options.FileOption.{FileOption}
use Rattle.report.specs.declared.options.FileOption.TheVariants.{Out, Sheet, Headers, Calendars}
use Rattle.report.specs.declared.options.Named.{Named}
use Rattle.report.specs.declared.options.Named.TheVariants.{Piece, Force, File, Chain, Unknown as NotKnown}
use Rattle.report.specs.declared.options.Request.{Request}
use Rattle.report.specs.declared.options.Wrong.{Wrong}
use Rattle.report.specs.declared.options.Wrong.TheVariants.{Unknown, NoValue, Unreadable}

-- nothing is asked for, and headers are those of the main chain
abbrev pub no_request : Request
no_request = record { out = None; sheet = None; headers = None; calendars = None; force = false; chain = main_chain }

-- a word that begins with two hyphens
abbrev pub dashed : List ℕ → Bool
dashed w = nat_le 2 (length w) && (slice_index w 0 == 0x2d && slice_index w 1 == 0x2d)

-- an option of the chain, another word with two hyphens, or a proof
abbrev pub chain_or_piece : Option ChainOption → List ℕ → Named
chain_or_piece (Some o) w = Chain o
chain_or_piece None w = cond (dashed w) NotKnown Piece

abbrev pub named_by : List ℕ → Named
named_by w =
    cond (bytes_eq w (codes "--out")) (File Out)
    (cond (bytes_eq w (codes "--sheet")) (File Sheet)
    (cond (bytes_eq w (codes "--headers")) (File Headers)
    (cond (bytes_eq w (codes "--calendars")) (File Calendars)
    (cond (bytes_eq w (codes "--force")) Force
    (chain_or_piece (chain_option w) w)))))

-- a value stands behind it
abbrev pub is_paired : Named → Bool
is_paired Piece = false
is_paired Force = false
is_paired (File o) = true
is_paired (Chain o) = true
is_paired NotKnown = false

abbrev pub is_piece : Named → Bool
is_piece Piece = true
is_piece Force = false
is_piece (File o) = false
is_piece (Chain o) = false
is_piece NotKnown = false

abbrev pub forced : Request → Request
forced s = record { out = s.out; sheet = s.sheet; headers = s.headers; calendars = s.calendars; force = true; chain = s.chain }

-- the path of a file; the later one counts
abbrev pub with_file : FileOption → Bor (List ℕ) → Request → Request
with_file Out path s = record { out = Some path; sheet = s.sheet; headers = s.headers; calendars = s.calendars; force = s.force; chain = s.chain }
with_file Sheet path s = record { out = s.out; sheet = Some path; headers = s.headers; calendars = s.calendars; force = s.force; chain = s.chain }
with_file Headers path s = record { out = s.out; sheet = s.sheet; headers = Some path; calendars = s.calendars; force = s.force; chain = s.chain }
with_file Calendars path s = record { out = s.out; sheet = s.sheet; headers = s.headers; calendars = Some path; force = s.force; chain = s.chain }

abbrev pub read_as : Request → Bor (List ℕ) → Bor (List ℕ) → Option Options → Result Request Wrong
read_as s word value (Some o) = Ok (record { out = s.out; sheet = s.sheet; headers = s.headers; calendars = s.calendars; force = s.force; chain = o })
read_as s word value None = Err (Unreadable word value)

-- the request after a word, and the word behind it if there is one
abbrev pub step_by : Named → Request → Bor (List ℕ) → Option (Bor (List ℕ)) → Result Request Wrong
step_by Piece s word value = Ok s
step_by Force s word value = Ok (forced s)
step_by (File o) s word (Some path) = Ok (with_file o path s)
step_by (File o) s word None = Err (NoValue word)
step_by (Chain o) s word (Some value) = read_as s word value (with_chain o value.now s.chain)
step_by (Chain o) s word None = Err (NoValue word)
step_by NotKnown s word value = Err (Unknown word)

abbrev pub stepped : Request → Bor (List ℕ) → Option (Bor (List ℕ)) → Result Request Wrong
stepped s word value = step_by (named_by word.now) s word value
