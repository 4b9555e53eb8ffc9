use Rattle.std.proofs.Common.{◌≡◌, ◌-◌, ◌++◌, ◌∷◌, [], length}
use Rattle.std.specs.Prelude.{Contains}
use Rattle.draughts_board.specs.Rules.{further_jumps}
use Rattle.draughts_board.specs.Play.{grown}
use Rattle.draughts_board.specs.Masks.{squares_of}
use Rattle.swift_moves.proofs.Loops.{with_rest}
use Rattle.swift_moves.proofs.CaptureMasks.{Every}
use Rattle.swift_moves.proofs.captures.+grow.Given as goal

abbrev pub decreases-grow : goal.decreases-grow
decreases-grow l = 13 - length l.trail.now

abbrev pub invariant-loop-left : goal.invariant-loop-left
invariant-loop-left l =
    (with_rest (λ z. grown (12 - length l.trail) l.p (l.trail ++ z ∷ [])) l.found.items l.left ≡ with_rest (λ z. grown (12 - length l.trail) l.p (l.trail ++ z ∷ [])) l.initial.found.items l.initial.left)
    × Every (Contains (further_jumps l.p l.trail)) (squares_of l.left)

abbrev pub decreases-loop-left : goal.decreases-loop-left
decreases-loop-left l = l.left
