-- What is said of a refused file.
use Rattle.std.specs.Prelude.{ℕ, ◌+◌, ◌-◌, min, List, ◌++◌, length, take, drop, codes, decimal}
use Rattle.proof.specs.declared.fault.Fault.{Fault}
use Rattle.proof.specs.declared.fault.Fault.TheVariants.{Long, Ends, Mark, Version, FileHash, Operation, Number, Length, Result, Content, Path, Follows}
use Rattle.account.specs.Words.{hex_of}

abbrev pub meaning : Fault → List ℕ
meaning Long = codes "file too long"
meaning (Ends length) = codes "file ends early"
meaning (Mark at) = codes "mark differs"
meaning (Version at) = codes "version is not 1"
meaning (FileHash at) = codes "file hash unknown"
meaning (Operation at) = codes "operation unknown"
meaning (Number at) = codes "number too large"
meaning (Length at) = codes "length out of range"
meaning (Result at) = codes "result too long"
meaning (Content at) = codes "payload malformed"
meaning (Path at) = codes "path too long"
meaning (Follows at) = codes "bytes follow"

-- the last line, the same in every implementation
abbrev pub refused_line : ℕ → ℕ → List ℕ
refused_line number offset = codes "refused " ++ (decimal number ++ (codes " at " ++ decimal offset))

abbrev pub fault_line : ℕ → List ℕ → List ℕ
fault_line number words = codes "fault " ++ (decimal number ++ (codes ": " ++ words))

-- up to eight bytes before an offset, and up to eight from it on
abbrev pub around_line : List ℕ → ℕ → List ℕ
around_line file offset =
    let at : ℕ = min offset (length file) in
    let from : ℕ = at - 8 in
    let end : ℕ = min (at + 8) (length file) in
    codes "bytes from " ++ (decimal from ++ (codes ": " ++ (hex_of (take (at - from) (drop from file)) ++ (codes " | " ++ hex_of (take (end - at) (drop at file))))))
