-- What is known of a position at sight.
use Rattle.std.specs.Prelude.{◌↔◌, ℕ, [], IsTrue}
use Rattle.draughts_board.specs.declared.pieces.Side.TheVariants.{Black, White}
use Rattle.draughts_board.specs.Board.{Board}
use Rattle.draughts_board.specs.Game.{ShowsWin, ShowsHold}
use Rattle.draughts_board.specs.Draughts.{draughts}
use Rattle.proof_numbers.specs.Known.{Known}

-- what looking no ply ahead shows, with tables of k pieces: the true facts where the position is
-- decided at sight, and nothing elsewhere
pub record AreFactsAtSight (k : ℕ) (p : Board) (facts : Known) : Type 0 where
  pub black_wins : IsTrue facts.black_wins ↔ ShowsWin draughts k Black 0 p
  pub white_wins : IsTrue facts.white_wins ↔ ShowsWin draughts k White 0 p
  pub black_holds : IsTrue facts.black_holds ↔ ShowsHold draughts k Black 0 [] p
  pub white_holds : IsTrue facts.white_holds ↔ ShowsHold draughts k White 0 [] p
