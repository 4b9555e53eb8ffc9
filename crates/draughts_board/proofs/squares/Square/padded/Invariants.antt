use Rattle.std.proofs.Common.{◌≡◌, ◌-◌, take, replicate, ◌++◌}
use Rattle.std.specs.Prelude.{All}
use Rattle.draughts_board.specs.Geometry.{IsSquare}
use Rattle.draughts_board.proofs.squares.Square.padded.Given as goal

abbrev pub invariant-loop-i : goal.invariant-loop-i
invariant-loop-i l = (l.squares ≡ take l.i l.path ++ replicate (13 - l.i) 1) × All IsSquare (take l.i l.path)
