use Rattle.std.proofs.Common.{arith}
use Rattle.sheets.proofs.Decimals.{more_long, at_most}
use Rattle.sheets.proofs.numbers.+number_length.Goals as goal

pub returns-else-n-lt10-clause-bound : goal.returns-else-n-lt10-clause-bound
returns-else-n-lt10-clause-bound t c =
    let l = more_long c.args.n (omega arith) (omega arith) in let m = at_most c.args.n (omega arith) in
    omega arith
