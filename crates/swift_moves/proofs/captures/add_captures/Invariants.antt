use Rattle.std.proofs.Common.{◌≡◌, ◌∷◌, [], true}
use Rattle.draughts_board.specs.Play.{grown}
use Rattle.draughts_board.specs.Masks.{squares_of}
use Rattle.swift_moves.specs.Forces.{is_jumper}
use Rattle.swift_moves.proofs.Loops.{with_rest}
use Rattle.swift_moves.proofs.CaptureMasks.{Every}
use Rattle.swift_moves.proofs.captures.add_captures.Given as goal

abbrev pub invariant-loop-left : goal.invariant-loop-left
invariant-loop-left l =
    (with_rest (λ x. grown 12 l.p (x ∷ [])) l.found.items l.left ≡ with_rest (λ x. grown 12 l.p (x ∷ [])) l.initial.found.items l.initial.left)
    × Every (λ x. is_jumper l.p x ≡ true) (squares_of l.left)

abbrev pub decreases-loop-left : goal.decreases-loop-left
decreases-loop-left l = l.left
