use Rattle.std.proofs.Common.{◌+◌, ◌-◌, sym, ◌∙◌, arith, rules}
use Rattle.proof.proofs.Weights.{weight_more}
use Rattle.format.proofs.NumberSteps.{number_none, number_more}
use Rattle.format.specs.Numbers.{number_at}
use Rattle.proof.proofs.reader.Reader.number.Goals as goal

pub loop-init : goal.loop-init
unfolding number_at
loop-init c = search rules

pub returns-in_err-b-clause-reads : goal.returns-in_err-b-clause-reads
returns-in_err-b-clause-reads c = let s = number_more (5 - c.loop.counter) (4 - c.loop.counter) c.args.self.now.file.now c.args.self.now.at c.loop.weight c.loop.value c.loop.self.at (omega arith) in search rules

pub returns-then-group-lt128-clause-reads : goal.returns-then-group-lt128-clause-reads
returns-then-group-lt128-clause-reads c = let s = number_more (5 - c.loop.counter) (4 - c.loop.counter) c.args.self.now.file.now c.args.self.now.at c.loop.weight c.loop.value c.loop.self.at (omega arith) in search rules

pub loop-preserved : goal.loop-preserved
loop-preserved c = let s = number_more (5 - c.loop.counter) (4 - c.loop.counter) c.args.self.now.file.now c.args.self.now.at c.loop.weight c.loop.value c.loop.self.at (omega arith) in (
  search rules,
  weight_more _ _ (5 - (c.loop.counter + 1)) _ (omega arith) c.loop.invariant.1,
  grind arith,
  search rules,
)

pub returns-clause-reads : goal.returns-clause-reads
returns-clause-reads c = sym (number_none (5 - c.loop.counter) c.args.self.now.file.now c.args.self.now.at c.loop.weight c.loop.value c.loop.self.at (omega arith)) ∙ c.loop.invariant.3
