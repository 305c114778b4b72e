use Rattle.std.proofs.Common.{◌≡◌, ◌-◌, ◌*◌, ◌^◌, ◌<◌}
use Rattle.format.specs.Numbers.{number_from, number_at}
use Rattle.proof.proofs.reader.Reader.number.Given as goal

-- what is left to read of the number is what the definition has left to read
abbrev pub invariant-loop : goal.invariant-loop
invariant-loop l =
    (l.self.file.now ≡ l.initial.self.file.now)
    × (l.weight * 128 ^ (5 - l.counter) ≡ 2 ^ 35)
    × (l.value < l.weight)
    × (number_from (5 - l.counter) l.initial.self.file.now l.first l.weight l.value l.self.at ≡ number_at l.initial.self.file.now l.first)
