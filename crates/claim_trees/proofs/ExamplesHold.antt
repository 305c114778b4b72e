-- The files to try, computed.
use Rattle.std.proofs.Common.{refl}
use Rattle.format.specs.Numbers.{number_from, number_at}
use Rattle.format.specs.Nodes.{node_from, node_at}
use Rattle.format.specs.Files.{mark, mark_at, top_at, file_at}
use Rattle.claim_trees.specs.Bytes.{groups, shortest, marks_bytes, branches_bytes}
use Rattle.claim_trees.specs.Gathered.{line, gathered}
use Rattle.claim_trees.specs.Examples.{Examples}

pub examples : Examples
unfolding number_from number_at node_from node_at mark mark_at top_at file_at groups shortest marks_bytes branches_bytes line gathered
examples = record {
  two = refl;
  turned = refl;
  repeated = refl;
  padded = refl;
  heights = refl;
  numbers = refl;
  payloads = refl;
  twice = refl;
  nothing = refl;
  longest = refl;
  longer = refl;
  drawing = refl;
  measured = refl;
}
