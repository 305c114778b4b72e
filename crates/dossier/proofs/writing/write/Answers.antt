use Rattle.std.proofs.Common.{ap}
use Rattle.claim_trees.specs.Bytes.{file_bytes}
use Rattle.claims.specs.Models.{node}
use Rattle.dossier.specs.Models.{content_of}
use Rattle.dossier.proofs.Writes.{put, short}
use Rattle.dossier.proofs.writing.write.Goals as goal

pub returns : goal.returns
returns c =
    let a = c.in-Some.about in
    let p = put (file_bytes a.digest (node a.top).marks (node a.top).branches) c.args.out.now c.write_file.new.out _ (short a) c.write_file.ensures in
    rw (ap content_of c.in-Some.is, c.ok_or.ensures.value) (record { answer = p.0; out = p.1 })
