use Rattle.std.proofs.Common.{◌∙◌, ◌++◌, ◌∷◌, [], ◌-◌, ℕ, ap, refl}
use Rattle.std.specs.Prelude.{flat_map}
use Rattle.std.specs.Int.Bits.{bit_and}
use Rattle.draughts_board.specs.Rules.{is_step}
use Rattle.draughts_board.proofs.OnSquares.{squares_of-test}
use Rattle.swift_moves.proofs.Loops.{rest-turn, rest-end}
use Rattle.swift_moves.proofs.steps.add_steps_of.Goals as goal

pub loop-left-init : goal.loop-left-init
loop-left-init c = refl

pub loop-left-preserved : goal.loop-left-preserved
loop-left-preserved c =
    let x : ℕ = c.args.«from» in
    let to : ℕ = c.lowest-to.result in
    rest-turn (λ z. (x ∷ z ∷ []) ∷ []) c.loop-left.found.items c.push.new.self.items _ c.loop-left.left to (bit_and c.loop-left.left (c.loop-left.left - 1)) c.lowest-to.ensures.first c.loop-left.invariant
    (c.in_ok-push.ensures.items ∙ ap (λ m. c.loop-left.found.items ++ m ∷ []) c.direct.ensures)

pub returns : goal.returns
returns c =
    let x : ℕ = c.args.«from» in
    rest-end (λ z. (x ∷ z ∷ []) ∷ []) c.loop-left.found.items _ c.loop-left.left c.loop-left-test.false c.loop-left.invariant
    ∙ ap (λ l. c.args.found.now.items ++ flat_map (λ z. (x ∷ z ∷ []) ∷ []) l) (squares_of-test (is_step c.args.p.now x) c.step_targets-left.result c.step_targets-left.ensures)
