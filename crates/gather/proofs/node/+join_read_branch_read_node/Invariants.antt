use Rattle.std.proofs.Common.{◌≡◌, ◌+◌, ◌-◌, ◌*◌, ◌≤◌, List, length}
use Rattle.format.specs.Nodes.{Claim, node_at}
use Rattle.claim_trees.specs.Gathered.{gathered}
use Rattle.claims.specs.Models.{node}
use Rattle.gather.proofs.Steps.{behind}
use Rattle.gather.proofs.node.+join_read_branch_read_node.Given as goal

abbrev pub decreases-join : goal.decreases-join
decreases-join l = 3 * (256 - l.above.depth) + 1

abbrev pub decreases-read_branch : goal.decreases-read_branch
decreases-read_branch l = 3 * (256 - l.above.depth)

abbrev pub decreases-read_node : goal.decreases-read_node
decreases-read_node l = 3 * (256 - l.above.depth) + 2

-- the node is the tree of the claims so far; those behind it make up the claims of the whole node
abbrev pub invariant-read_node-measured : goal.invariant-read_node-measured
invariant-read_node-measured l =
    (l.reader.file.now ≡ l.initial.reader.file.now)
    × (ds : List Claim) × ((node l.node ≡ gathered ds)
    × (behind ds (node_at l.above.depth l.above.size l.initial.reader.file.now l.reader.at)
    ≡ node_at l.above.depth l.above.size l.initial.reader.file.now l.initial.reader.at))

abbrev pub decreases-read_node-measured : goal.decreases-read_node-measured
decreases-read_node-measured l = length l.initial.reader.file.now - l.reader.at

-- each item takes a byte at least, and begins within the file
abbrev pub invariant-read_node-items : goal.invariant-read_node-items
invariant-read_node-items l =
    (l.reader.file.now ≡ l.fn.reader.file.now)
    × (l.initial.reader.at + l.counter ≤ l.reader.at)
    × (l.counter ≤ length l.fn.reader.file.now - l.initial.reader.at)
    × (ds : List Claim) × ((node l.node ≡ gathered ds)
    × (behind ds (node_at l.above.depth l.above.size l.fn.reader.file.now l.reader.at)
    ≡ node_at l.above.depth l.above.size l.fn.reader.file.now l.fn.reader.at))
