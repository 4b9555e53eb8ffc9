use Rattle.std.proofs.Common.{refl}
use Rattle.draughts_board.specs.Geometry.{squares}
use Rattle.draughts_board.specs.Play.{grown, captures, steps, legal_paths, successors_of}
use Rattle.proof_numbers.proofs.examples.worked_leaves.Goals as goal

pub returns : goal.returns
unfolding squares grown captures steps legal_paths successors_of
returns c = record {
  seven_moves = refl;
  blocked = refl;
  sixty_five = refl;
  goal_moves = refl;
  other_moves = refl;
  won = refl;
  lost = refl;
  held = refl;
  own_hold = refl;
  repeated = refl;
}
