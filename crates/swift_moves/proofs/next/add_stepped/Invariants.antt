use Rattle.std.proofs.Common.{◌≡◌, map, true}
use Rattle.draughts_board.specs.Rules.{after}
use Rattle.draughts_board.specs.Play.{steps_from}
use Rattle.draughts_board.specs.Masks.{squares_of}
use Rattle.swift_moves.specs.Forces.{is_stepper}
use Rattle.swift_moves.proofs.Loops.{with_rest}
use Rattle.swift_moves.proofs.CaptureMasks.{Every}
use Rattle.swift_moves.proofs.next.add_stepped.Given as goal

abbrev pub invariant-loop-left : goal.invariant-loop-left
invariant-loop-left l =
    (with_rest (λ x. map (after l.p) (steps_from l.p x)) l.next.items l.left ≡ with_rest (λ x. map (after l.p) (steps_from l.p x)) l.initial.next.items l.initial.left)
    × Every (λ x. is_stepper l.p x ≡ true) (squares_of l.left)

abbrev pub decreases-loop-left : goal.decreases-loop-left
decreases-loop-left l = l.left
