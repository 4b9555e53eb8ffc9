use Rattle.std.proofs.Common.{◌≡◌, ◌∙◌, ◌++◌, ◌∷◌, ◌-◌, ℕ, map, true, ap, sym, subst, refl}
use Rattle.std.specs.Int.Bits.{bit_and}
use Rattle.std.specs.Cmp.{first_so}
use Rattle.draughts_board.specs.Geometry.{squares}
use Rattle.draughts_board.specs.Board.{Board}
use Rattle.draughts_board.specs.Rules.{after}
use Rattle.draughts_board.specs.Play.{steps_from}
use Rattle.draughts_board.specs.Masks.{squares_of}
use Rattle.draughts_board.proofs.OnSquares.{squares_of-test}
use Rattle.swift_moves.specs.Forces.{is_stepper}
use Rattle.swift_moves.proofs.Loops.{rest-turn, rest-end}
use Rattle.swift_moves.proofs.CaptureMasks.{Every, every_passes}
use Rattle.swift_moves.proofs.LegalLists.{steps_of-mask}
use Rattle.swift_moves.proofs.StepsApart.{map-flat_map}
use Rattle.swift_moves.proofs.next.add_stepped.Goals as goal

pub loop-left-init : goal.loop-left-init
loop-left-init c =
    let p : Board = c.args.p.now in
    (refl, subst (Every (λ x. is_stepper p x ≡ true)) (sym (squares_of-test (is_stepper p) c.steppers-left.result (c.steppers-left.ensures p c.requires.forces))) (every_passes (is_stepper p) squares))

pub add_stepped_of-requires-clause-own : goal.add_stepped_of-requires-clause-own
add_stepped_of-requires-clause-own c =
    let p : Board = c.args.p.now in
    let there : Every (λ x. is_stepper p x ≡ true) (c.lowest.result ∷ squares_of (bit_and c.loop-left.left (c.loop-left.left - 1))) = subst (Every (λ x. is_stepper p x ≡ true)) c.lowest.ensures.first c.loop-left.invariant.1 in
    first_so _ _ there.0

pub loop-left-preserved : goal.loop-left-preserved
loop-left-preserved c =
    let p : Board = c.args.p.now in
    let later : ℕ = bit_and c.loop-left.left (c.loop-left.left - 1) in
    let there : Every (λ x. is_stepper p x ≡ true) (c.lowest.result ∷ squares_of later) = subst (Every (λ x. is_stepper p x ≡ true)) c.lowest.ensures.first c.loop-left.invariant.1 in
    (rest-turn (λ x. map (after p) (steps_from p x)) c.loop-left.next.items c.add_stepped_of.new.next.items _ c.loop-left.left c.lowest.result later c.lowest.ensures.first c.loop-left.invariant.0 c.in_ok-add_stepped_of.ensures, there.1)

pub returns : goal.returns
returns c =
    let p : Board = c.args.p.now in
    rest-end (λ x. map (after p) (steps_from p x)) c.loop-left.next.items _ c.loop-left.left c.loop-left-test.false c.loop-left.invariant.0
    ∙ ap (λ l. c.args.next.now.items ++ l) (sym (map-flat_map (after p) (steps_from p) (squares_of c.steppers-left.result)) ∙ ap (map (after p)) (steps_of-mask p c.steppers-left.result (c.steppers-left.ensures p c.requires.forces)))
