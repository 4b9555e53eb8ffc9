use Rattle.std.proofs.Common.{◌≡◌, ◌++◌, take, drop, map}
use Rattle.draughts_board.specs.Board.{turned_cell}
use Rattle.draughts_board.proofs.cells.in_other_colours.Given as goal

abbrev pub invariant-loop-i : goal.invariant-loop-i
invariant-loop-i l = l.turned ≡ map turned_cell (take l.i l.cells) ++ drop l.i l.cells
