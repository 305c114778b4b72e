use Rattle.std.proofs.Common.{◌≡◌, ◌*◌, take, drop}
use Rattle.coverage.specs.Reading.{hex_digits, unhex}
use Rattle.coverage.proofs.reading.fill.Given as goal

abbrev pub invariant-loop-k : goal.invariant-loop-k
invariant-loop-k l = record {
  digits : hex_digits (drop (2 * l.k) l.text) ≡ hex_digits l.text;
  bytes : take l.k l.out ≡ take l.k (unhex l.text);
}
