-- The options of a file of headers: what its chain is held to be.
use Rattle.std.specs.Prelude.{ℕ, ◌%◌, cond, List, [], ◌∷◌, length, replicate, Some, None, Ok, Err, codes, Option, option_map, Result, ◌==◌, nat_lt, bytes_eq}
use Rattle.std.specs.Borrow.{Bor}
use Rattle.headers.specs.declared.chain.Chain.{Chain}
use Rattle.coverage.specs.Reading.{hash_read, bits_read, number_read}
use Rattle.coverage.specs.declared.options.ChainOption.{ChainOption}
use Rattle.coverage.specs.declared.options.ChainOption.TheVariants.{Base, Previous, Ceiling}
use Rattle.coverage.specs.declared.options.Wrong.{Wrong}
use Rattle.coverage.specs.declared.options.Wrong.TheVariants.{Odd, Many, Unknown, Unreadable}

-- the main chain from its first block on
abbrev pub main_chain : Chain
main_chain = record { base = 0; previous = replicate 32 0; ceiling = 0x1d00ffff }

-- the option that a word names
abbrev pub chain_option : List ℕ → Option ChainOption
chain_option w =
    cond (bytes_eq w (codes "--base")) (Some Base)
    (cond (bytes_eq w (codes "--previous")) (Some Previous)
    (cond (bytes_eq w (codes "--ceiling")) (Some Ceiling) None))

-- the chain after an option, where its value can be read
abbrev pub with_chain : ChainOption → List ℕ → Chain → Option Chain
with_chain Base value o = option_map (λ n. record { base = n; previous = o.previous; ceiling = o.ceiling }) (number_read value)
with_chain Previous value o = option_map (λ h. record { base = o.base; previous = h; ceiling = o.ceiling }) (hash_read value)
with_chain Ceiling value o = option_map (λ n. record { base = o.base; previous = o.previous; ceiling = n }) (bits_read value)

abbrev pub read_as : Bor (List ℕ) → Bor (List ℕ) → Option Chain → Result Chain Wrong
read_as option value (Some o) = Ok o
read_as option value None = Err (Unreadable option value)

abbrev pub with_named : Option ChainOption → Bor (List ℕ) → Bor (List ℕ) → Chain → Result Chain Wrong
with_named (Some named) option value o = read_as option value (with_chain named value.now o)
with_named None option value o = Err (Unknown option)

-- the chain after a pair of words
abbrev pub with_pair : Bor (List ℕ) → Bor (List ℕ) → Chain → Result Chain Wrong
with_pair option value o = with_named (chain_option option.now) option value o

abbrev pub next : Result Chain Wrong → (Chain → Result Chain Wrong) → Result Chain Wrong
next (Ok o) f = f o
next (Err e) f = Err e

-- the chain after these words
unfoldable pub parsed_from : Chain → List (Bor (List ℕ)) → Result Chain Wrong
parsed_from o [] = Ok o
parsed_from o (option ∷ []) = Err Odd
parsed_from o (option ∷ value ∷ rest) = next (with_pair option value o) (λ p. parsed_from p rest)

-- up to three pairs of words
abbrev pub parsed : List (Bor (List ℕ)) → Result Chain Wrong
parsed words =
    cond (nat_lt 6 (length words)) (Err Many)
    (cond (length words % 2 == 1) (Err Odd) (parsed_from main_chain words))
