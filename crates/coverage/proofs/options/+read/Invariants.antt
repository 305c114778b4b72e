use Rattle.std.proofs.Common.{length}
use Rattle.coverage.proofs.options.+read.Given as goal

abbrev pub decreases-read : goal.decreases-read
decreases-read l = length l.words.now
