use Rattle.std.proofs.Common.{subst}
use Rattle.std.specs.Prelude.{Contains}
use Rattle.draughts_board.specs.Board.{turned}
use Rattle.draughts_board.specs.Play.{successors_of}
use Rattle.draughts_board.proofs.Turned.{turned_is_lawful}
use Rattle.draughts_board.proofs.TurnedMoves.{legal-turned, legal-back, after-turned, turned-twice}
use Rattle.draughts_board.proofs.TurnedWins.{successor-turned, successor-back, WinsIn-turned, WinsIn-back, HasValue-turned, HasValue-back}
use Rattle.draughts_board.proofs.laws.turning.Goals as goal

pub returns : goal.returns
returns c = record {
  twice = λ p lawful. (turned_is_lawful p lawful, turned-twice p lawful);
  paths = λ p path lawful. (legal-turned p lawful path, legal-back p lawful path);
  after = after-turned;
  successors = λ p q lawful lawful_q. (successor-turned p q lawful, λ h. subst (Contains (successors_of p)) (turned-twice q lawful_q) (successor-back p (turned q) lawful h));
  wins = λ s n p lawful. (WinsIn-turned s n p lawful, WinsIn-back s n p lawful);
  values = λ v p lawful. (HasValue-turned v p lawful, HasValue-back v p lawful);
}
