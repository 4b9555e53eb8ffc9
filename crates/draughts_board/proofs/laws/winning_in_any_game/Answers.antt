use Rattle.draughts_board.proofs.Truth.{laws_of_winning}
use Rattle.draughts_board.proofs.laws.winning_in_any_game.Goals as goal

pub returns : goal.returns
returns g t game = laws_of_winning game
