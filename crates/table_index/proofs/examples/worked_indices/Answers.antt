use Rattle.std.proofs.Common.{refl}
use Rattle.draughts_board.specs.Geometry.{squares}
use Rattle.table_index.specs.Order.{choices, first_index, index_of, position_at}
use Rattle.table_index.proofs.examples.worked_indices.Goals as goal

pub returns : goal.returns
unfolding squares choices first_index index_of position_at
returns c = record {
  choices_of_two = refl;
  bare_black = refl;
  bare_white = refl;
  man_on_1 = refl;
  king_on_1 = refl;
  kings_on_1_and_32 = refl;
  at_1232 = refl;
  kings_on_1_and_27 = refl;
  at_1073 = refl;
  last_of_all = refl;
  at_last = refl;
  past_last = refl;
  at_226 = refl;
}
