use Rattle.std.proofs.Common.{◌≡◌, ◌+◌, ◌++◌, length}
use Rattle.rows.specs.Models.{content_lent}
use Rattle.listing.specs.Left.{lines_left}
use Rattle.written.specs.Writers.{written}
use Rattle.listing.proofs.lines.put_lines.Given as goal

abbrev pub invariant-loop-k : goal.invariant-loop-k
invariant-loop-k g l =
    let m = g.J.Judge.meaning l.judge in
    let s = content_lent l.about in
    (l.w.out.ghost_name ≡ l.fn.w.out.ghost_name)
    × (length l.w.out.now ≡ length l.fn.w.out.now)
    × (l.w.at + length (lines_left m s l.k) ≡ l.fn.w.at + length (lines_left m s 0))
    × (written l.w ++ lines_left m s l.k ≡ written l.fn.w ++ lines_left m s 0)
