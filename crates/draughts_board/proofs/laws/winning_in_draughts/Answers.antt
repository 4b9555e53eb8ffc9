use Rattle.draughts_board.specs.Draughts.{draughts}
use Rattle.draughts_board.proofs.Truth.{laws_of_winning}
use Rattle.draughts_board.proofs.Decided.{positions_have_one_value}
use Rattle.draughts_board.proofs.Successors.{lost_without_move}
use Rattle.draughts_board.proofs.laws.winning_in_draughts.Goals as goal

pub returns : goal.returns
returns c = record { laws = laws_of_winning draughts; lost = lost_without_move; value = positions_have_one_value }
