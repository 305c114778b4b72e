use Rattle.std.proofs.Common.{◌≡◌, ◌+◌, ◌*◌, ◌≤◌, length}
use Rattle.rows.specs.Models.{content_lent}
use Rattle.listing.specs.Left.{lines_left}
use Rattle.listing.proofs.lines.lines_length.Given as goal

abbrev pub invariant-loop-k : goal.invariant-loop-k
invariant-loop-k g l =
    let m = g.J.Judge.meaning l.judge in
    let s = content_lent l.about in
    (l.done ≤ 128 * l.k)
    × (l.done + length (lines_left m s l.k) ≡ length (lines_left m s 0))
