use Rattle.std.proofs.Common.{◌≡◌, ◌-◌, length}
use Rattle.tiphvanh.proofs.show.items.Given as goal

-- the walk stays in its file
abbrev pub invariant-loop-trail : goal.invariant-loop-trail
invariant-loop-trail l = l.walk.reader.file.now ≡ l.initial.walk.reader.file.now

-- every step goes on in it
abbrev pub decreases-loop-trail : goal.decreases-loop-trail
decreases-loop-trail l = length l.initial.walk.reader.file.now - l.walk.reader.at
