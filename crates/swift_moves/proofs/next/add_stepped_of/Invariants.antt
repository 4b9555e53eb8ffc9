use Rattle.std.proofs.Common.{◌≡◌, ◌∷◌, [], true}
use Rattle.draughts_board.specs.Rules.{after, is_step}
use Rattle.draughts_board.specs.Masks.{squares_of}
use Rattle.swift_moves.proofs.Loops.{with_rest}
use Rattle.swift_moves.proofs.CaptureMasks.{Every}
use Rattle.swift_moves.proofs.next.add_stepped_of.Given as goal

abbrev pub invariant-loop-left : goal.invariant-loop-left
invariant-loop-left l =
    (with_rest (λ z. after l.p (l.«from» ∷ z ∷ []) ∷ []) l.next.items l.left ≡ with_rest (λ z. after l.p (l.«from» ∷ z ∷ []) ∷ []) l.initial.next.items l.initial.left)
    × Every (λ z. is_step l.p l.«from» z ≡ true) (squares_of l.left)

abbrev pub decreases-loop-left : goal.decreases-loop-left
decreases-loop-left l = l.left
