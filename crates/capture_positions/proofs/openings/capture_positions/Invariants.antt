use Rattle.std.proofs.Common.{◌≡◌, ◌≤◌, ◌-◌, length}
use Rattle.std.specs.List.{IsDistinct}
use Rattle.draughts_board.specs.Board.{same_board}
use Rattle.draughts_board.specs.Rules.{first_places}
use Rattle.capture_positions.specs.Walk.{walk}
use Rattle.capture_positions.proofs.openings.capture_positions.Given as goal

abbrev pub invariant-loop-positions : goal.invariant-loop-positions
invariant-loop-positions l = record {
  met : l.positions.keys ≡ first_places (walk l.seed l.step);
  few : length l.positions.keys ≤ l.count;
  different : IsDistinct same_board l.positions.keys;
  steps : l.step ≤ 4176;
}

abbrev pub decreases-loop-positions : goal.decreases-loop-positions
decreases-loop-positions l = 4176 - l.step
