use Rattle.std.proofs.Common.{refl}
use Rattle.draughts_board.specs.Geometry.{squares}
use Rattle.draughts_board.specs.Play.{grown, captures, steps, legal_paths, successors_of}
use Rattle.proof_tree.proofs.examples.worked_trees.Goals as goal

pub returns : goal.returns
unfolding squares grown captures steps legal_paths successors_of
returns c = record {
  many = refl;
  black = refl;
  white = refl;
  first = refl;
  more = refl;
  black_there = refl;
  black_after = refl;
  second = refl;
}
