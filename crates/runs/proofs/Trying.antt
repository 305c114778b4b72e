-- The sheet to try is what it should be.
use Rattle.std.proofs.Common.{refl}
use Rattle.std.specs.Fmt.{digits as in_base}
use Rattle.replay.specs.Messages.{digits}
use Rattle.runs.specs.Sheets.{lines_from}
use Rattle.runs.specs.Examples.{FirstSheet}

pub first_sheet : FirstSheet
unfolding lines_from digits in_base
first_sheet = refl
