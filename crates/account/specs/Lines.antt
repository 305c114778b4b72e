-- The lines of an account.
use Rattle.std.specs.Prelude.{ℕ, ◌*◌, cond, List, ◌++◌, reverse, length, replicate, codes, decimal, ◌==◌, encode_utf8_all}
use Rattle.format.specs.declared.Kind.{Kind}
use Rattle.format.specs.declared.Kind.TheVariants.{Sha256, Append, Prepend, Reverse, Hexlify}
use Rattle.format.specs.Attestations.{Att, pending, bitcoin, unknown}
use Rattle.format.specs.Items.{Piece, operation, attestation}
use Rattle.format.specs.Counts.{Counts}
use Rattle.format.specs.Files.{Head}
use Rattle.account.specs.Words.{hex_of}

abbrev pub kind_word : Kind → List ℕ
kind_word Sha256 = codes "sha256"
kind_word Append = codes "append"
kind_word Prepend = codes "prepend"
kind_word Reverse = codes "reverse"
kind_word Hexlify = codes "hexlify"

-- two spaces for each operation above an item
abbrev pub indent : ℕ → List ℕ
indent depth = replicate (2 * depth) 32

-- how long a part of the file is, and where it begins
abbrev pub part : ℕ → ℕ → List ℕ
part size first = codes " (" ++ (decimal size ++ (codes " at " ++ (decimal first ++ codes ")")))

-- an argument is shown where there is one
abbrev pub operation_text : Kind → List ℕ → ℕ → List ℕ
operation_text kind argument first =
    cond (length argument == 0) (kind_word kind)
    (kind_word kind ++ (codes " [" ++ (hex_of argument ++ (codes "]" ++ part (length argument) first))))

-- a calendar's address, a block's height, or a tag and what stands under it
abbrev pub content_text : Att → List ℕ
content_text (pending address) = codes "pending [" ++ (encode_utf8_all address ++ codes "]")
content_text (bitcoin height) = codes "bitcoin " ++ decimal height
content_text (unknown tag payload) = codes "unknown " ++ (hex_of tag ++ (codes " [" ++ (hex_of payload ++ codes "]")))

abbrev pub item_line : ℕ → Piece → List ℕ
item_line depth (operation kind argument offset first) =
    indent depth ++ (decimal offset ++ (codes " " ++ operation_text kind argument first))
item_line depth (attestation a payload offset first) =
    indent depth ++ (decimal offset ++ (codes " " ++ (content_text a ++ part (length payload) first)))

abbrev pub digest_line : Head → List ℕ
digest_line h = codes "digest " ++ (hex_of h.digest ++ (codes " (tag at " ++ (decimal h.hash ++ codes ")")))

-- bytes under an attestation, behind a word
abbrev pub under_line : ℕ → List ℕ → List ℕ → List ℕ
under_line depth word bytes = indent depth ++ (codes "  " ++ (word ++ (codes " " ++ hex_of bytes)))

-- a message under an attestation
abbrev pub message_line : ℕ → List ℕ → List ℕ
message_line depth message = under_line depth (codes "message") message

-- the same from its last byte to its first, as block explorers print roots
abbrev pub root_line : ℕ → List ℕ → List ℕ
root_line depth message = under_line depth (codes "root") (reverse message)

-- a count beside its limit
abbrev pub of_limit : ℕ → ℕ → List ℕ
of_limit count limit = decimal count ++ (codes " of " ++ decimal limit)

-- the size of a set of claims: operations, attestations and bytes
abbrev pub size_line : ℕ → ℕ → ℕ → List ℕ
size_line operations attestations bytes =
    codes "size: ops " ++ (of_limit operations 1024 ++ (codes ", atts " ++ (of_limit attestations 128 ++ (codes ", bytes " ++ of_limit bytes 32768))))

-- the length of the canonical file
abbrev pub canonical_line : ℕ → List ℕ
canonical_line n = codes "canonical " ++ (decimal n ++ codes " bytes")

abbrev pub counts_line : Counts → List ℕ
counts_line c =
    codes "claims: pending " ++ (decimal c.pending ++ (codes ", bitcoin " ++ (decimal c.bitcoin ++ (codes ", unknown " ++ decimal c.unknown))))
