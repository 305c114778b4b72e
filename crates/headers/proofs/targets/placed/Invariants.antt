use Rattle.std.proofs.Common.{◌≡◌, ℕ, ◌+◌, ◌*◌, ◌^◌, ◌<◌, ◌≤◌, max, length, get_or, take}
use Rattle.headers.specs.Targets.{little}
use Rattle.headers.proofs.targets.placed.Given as goal

abbrev pub invariant-loop-k : goal.invariant-loop-k
invariant-loop-k l = record {
  long : length l.byte-items ≡ 32;
  sum : little (take l.k l.byte-items) + 256 ^ max l.k l.at * l.left ≡ l.m * 256 ^ l.at;
  below : little (take l.k l.byte-items) < 256 ^ l.k;
  zeros : (i : ℕ) → l.k ≤ i → get_or l.byte-items i 0 ≡ 0;
}
