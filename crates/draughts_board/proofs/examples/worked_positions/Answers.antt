use Rattle.std.proofs.Common.{refl}
use Rattle.draughts_board.specs.Geometry.{squares}
use Rattle.draughts_board.specs.Play.{grown, captures, steps, legal_paths, successors_of}
use Rattle.draughts_board.proofs.examples.worked_positions.Goals as goal

pub returns : goal.returns
unfolding squares grown captures steps legal_paths successors_of
returns c = record {
  after_round = refl;
  after_round_back = refl;
  round_successors = refl;
  after_left = refl;
  after_right = refl;
  forward_successors = refl;
  after_crowning = refl;
  after_seventh = refl;
}
