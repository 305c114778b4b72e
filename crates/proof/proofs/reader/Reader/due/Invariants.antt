use Rattle.std.proofs.Common.{◌≡◌, drop}
use Rattle.format.specs.Files.{mark_at}
use Rattle.proof.proofs.reader.Reader.due.Given as goal

abbrev pub invariant-loop-m : goal.invariant-loop-m
invariant-loop-m l =
    (l.self.file.now ≡ l.initial.self.file.now)
    × (mark_at (drop l.m-index l.due) l.initial.self.file.now l.self.at ≡ mark_at l.due l.initial.self.file.now l.initial.self.at)
