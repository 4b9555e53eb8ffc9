-- English draughts as a game of two players.
use Rattle.draughts_board.specs.Board.{Board, piece_count, is_lawful}
use Rattle.draughts_board.specs.Play.{successors_of}
use Rattle.draughts_board.specs.Game.{Game}

-- the positions are the lawful boards, and a move leads to a successor
abbrev pub draughts : Game Board
draughts = record {
  mover = λ p. p.to_move;
  next = successors_of;
  pieces = piece_count;
  is_position = is_lawful;
}
