use Rattle.std.proofs.Common.{◌≡◌, ◌∷◌, []}
use Rattle.std.specs.Prelude.{Contains}
use Rattle.draughts_board.specs.Rules.{further_jumps}
use Rattle.draughts_board.specs.Play.{grown}
use Rattle.draughts_board.specs.Masks.{squares_of}
use Rattle.swift_moves.proofs.Loops.{with_rest}
use Rattle.swift_moves.proofs.CaptureMasks.{Every}
use Rattle.swift_moves.proofs.captures.add_captures_of.Given as goal

abbrev pub invariant-loop-left : goal.invariant-loop-left
invariant-loop-left l =
    (with_rest (λ z. grown 11 l.p (l.«from» ∷ z ∷ [])) l.found.items l.left ≡ with_rest (λ z. grown 11 l.p (l.«from» ∷ z ∷ [])) l.initial.found.items l.initial.left)
    × Every (Contains (further_jumps l.p (l.«from» ∷ []))) (squares_of l.left)

abbrev pub decreases-loop-left : goal.decreases-loop-left
decreases-loop-left l = l.left
