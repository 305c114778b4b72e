use Rattle.std.proofs.Common.{length, take, drop, ap, ◌∙◌}
use Rattle.std.proofs.lemmas.List.{take_at}
use Rattle.replay.proofs.Sizes.{digest_length}
use Rattle.replay.proofs.operations.hash.Goals as goal

pub returns-clause-message : goal.returns-clause-message
returns-clause-message c =
    let w = c.args.work.now in
    let d = c.sha256-digest.result in
    ap (take 32) c.put.ensures ∙ take_at d (drop (length d) w) 32 (ap length c.sha256-digest.ensures ∙ digest_length (take c.args.size w)) ∙ c.sha256-digest.ensures
