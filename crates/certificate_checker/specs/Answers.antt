-- What certificates answer a search.
use Rattle.std.specs.Prelude.{◌≡◌, ◌≤◌, ℕ, List, [], All, Any, length}
use Rattle.draughts_board.specs.declared.pieces.Side.{Side}
use Rattle.draughts_board.specs.Board.{Board}
use Rattle.draughts_board.specs.Game.{ShowsWin, ShowsHold}
use Rattle.draughts_board.specs.Draughts.{draughts}
use Rattle.strategy_certificate.specs.declared.certificates.Certificate.{Certificate}
use Rattle.strategy_certificate.specs.Claims.{TellsWin, TellsHold, IsOfOnePart, Settles, HasShortRanks}

-- a certificate about the position that claims a win or a hold, leans on the table of k pieces and
-- has short ranks
pub record IsFinding (k : ℕ) (p : Board) (c : Certificate) : Type 0 where
  pub position : c.position ≡ p
  pub pieces : c.pieces ≡ k
  pub claim : IsOfOnePart c.claim
  pub short : All HasShortRanks c.parts

-- One to four of them answer a search: one settles the goal, and all that looking so far ahead
-- shows is claimed or implied.
pub record IsAnswer (k : ℕ) (goal : Side) (depth : ℕ) (p : Board)
    (found : List Certificate) : Type 0 where
  pub some : 1 ≤ length found
  pub few : length found ≤ 4
  pub each : All (IsFinding k p) found
  pub settles : Any (λ c. Settles goal c.claim) found
  pub wins : (s : Side) → ShowsWin draughts k s depth p → Any (λ c. TellsWin s c.claim) found
  pub holds : (s : Side) → ShowsHold draughts k s depth [] p → Any (λ c. TellsHold s c.claim) found
