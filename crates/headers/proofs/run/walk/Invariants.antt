use Rattle.std.proofs.Common.{◌≡◌, ◌+◌, ◌-◌, ◌^◌, ◌<◌, ◌≤◌}
use Rattle.headers.specs.Targets.{little}
use Rattle.headers.specs.Headers.{hash_before}
use Rattle.headers.specs.Following.{first_failing, passes, covers}
use Rattle.headers.proofs.run.walk.Given as goal

abbrev pub invariant-loop-k : goal.invariant-loop-k
invariant-loop-k l =
    (l.k ≤ 65536)
    × (0 < l.k → l.chain.base + l.k ≤ 2 ^ 32)
    × (l.before ≡ hash_before l.chain.previous l.bytes l.k)
    × (first_failing (passes l.chain.base l.chain.previous (little l.most) l.bytes) l.k (65536 - l.k)
    ≡ covers l.chain.base l.chain.previous (little l.most) l.bytes)
