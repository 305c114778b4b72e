use Rattle.dossier.specs.Models.{content_of}
use Rattle.dossier.specs.Phases.{open_dossier}
use Rattle.history.specs.Merging.{grants_onto}
use Rattle.history.proofs.Scripting.{add_refused}
use Rattle.history.proofs.Merges.{piece_at_lem, next_piece, all_pieces}
use Rattle.history.proofs.merging.gather_pieces.Goals as goal

pub loop-place-init : goal.loop-place-init
unfolding grants_onto
loop-place-init c = c.new-dossier.ensures.begins

pub returns-in-Err : goal.returns-in-Err
returns-in-Err c = record {
  content = content_of c.loop-place.dossier.held;
  file = _;
  run = c.loop-place.invariant;
  is = piece_at_lem c.args.pieces.now c.loop-place.place _ c.loop-place-test.true;
  refused = add_refused (content_of c.loop-place.dossier.held) (content_of c.add.new.self.held) _ c.in-Err.refusal c.in-Err.ensures;
}

pub loop-place-preserved : goal.loop-place-preserved
loop-place-preserved c =
    next_piece c.args.pieces.now c.loop-place.place _ c.loop-place-test.true (open_dossier c.loop-place.dossier) (open_dossier c.add.new.self) c.loop-place.invariant c.in_default.ensures

pub returns : goal.returns
returns c = all_pieces c.args.pieces.now c.loop-place.place (open_dossier c.loop-place.dossier) c.loop-place-test.false c.loop-place.invariant
