use Rattle.std.proofs.Common.{◌≡◌}
use Rattle.draughts_board.specs.Play.{steps_from}
use Rattle.swift_moves.proofs.Loops.{with_rest}
use Rattle.swift_moves.proofs.steps.add_steps.Given as goal

abbrev pub invariant-loop-left : goal.invariant-loop-left
invariant-loop-left l = with_rest (steps_from l.p) l.found.items l.left ≡ with_rest (steps_from l.p) l.initial.found.items l.initial.left

abbrev pub decreases-loop-left : goal.decreases-loop-left
decreases-loop-left l = l.left
