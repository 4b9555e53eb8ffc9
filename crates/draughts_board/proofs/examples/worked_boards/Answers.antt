use Rattle.std.proofs.Common.{refl}
use Rattle.draughts_board.proofs.examples.worked_boards.Goals as goal

pub returns : goal.returns
returns c = record {
  start_black = refl;
  start_white = refl;
  start_position = refl;
  start_turned = refl;
  man_turned = refl;
  black_man_on_29 = refl;
  white_man_on_4 = refl;
  black_king_on_29 = refl;
  white_man_on_29 = refl;
  thirteen_men = refl;
}
