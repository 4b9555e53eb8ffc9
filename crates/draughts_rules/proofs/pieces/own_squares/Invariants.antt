use Rattle.std.proofs.Common.{◌≡◌, take}
use Rattle.std.specs.Prelude.{filter}
use Rattle.draughts_board.specs.Rules.{is_own}
use Rattle.draughts_rules.proofs.pieces.own_squares.Given as goal

abbrev pub invariant-loop-square : goal.invariant-loop-square
invariant-loop-square l = l.own ≡ filter (is_own l.p) (take l.square-index l.square-items)
