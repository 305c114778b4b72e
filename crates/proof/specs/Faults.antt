-- The number and the offset of each fault.
use Rattle.std.specs.Prelude.{ℕ}
use Rattle.proof.specs.declared.fault.Fault.{Fault}
use Rattle.proof.specs.declared.fault.Fault.TheVariants.{Long, Ends, Mark, Version, FileHash, Operation, Number, Length, Result, Content, Path, Follows}

abbrev pub numbered : Fault → ℕ × ℕ
numbered Long = (1, 65536)
numbered (Ends length) = (2, length)
numbered (Mark at) = (3, at)
numbered (Version at) = (4, at)
numbered (FileHash at) = (5, at)
numbered (Operation at) = (6, at)
numbered (Number at) = (7, at)
numbered (Length at) = (8, at)
numbered (Result at) = (9, at)
numbered (Content at) = (10, at)
numbered (Path at) = (11, at)
numbered (Follows at) = (12, at)
