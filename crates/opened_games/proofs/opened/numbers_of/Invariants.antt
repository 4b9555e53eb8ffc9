use Rattle.std.proofs.Common.{◌≡◌, take}
use Rattle.draughts_board.specs.Board.{Board}
use Rattle.opened_games.specs.Numbers.{HaveLists, numbers_at}
use Rattle.opened_games.specs.Opened.{games_at}
use Rattle.opened_games.proofs.opened.numbers_of.Given as goal

abbrev pub invariant-loop-opening : goal.invariant-loop-opening
invariant-loop-opening l =
    HaveLists l.numbers.positions.entries l.numbers.lists.items
    × ((p : Board) → numbers_at l.numbers.positions.entries l.numbers.lists.items p ≡ games_at (take l.opening-index l.openings) p)
