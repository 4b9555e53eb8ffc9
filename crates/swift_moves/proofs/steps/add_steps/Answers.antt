use Rattle.std.proofs.Common.{◌∙◌, ◌++◌, ◌-◌, ap, refl}
use Rattle.std.specs.Int.Bits.{bit_and}
use Rattle.draughts_board.specs.Play.{steps_from}
use Rattle.swift_moves.proofs.LegalLists.{steps_of-mask}
use Rattle.swift_moves.proofs.Loops.{rest-turn, rest-end}
use Rattle.swift_moves.proofs.steps.add_steps.Goals as goal

pub loop-left-init : goal.loop-left-init
loop-left-init c = refl

pub loop-left-preserved : goal.loop-left-preserved
loop-left-preserved c =
    rest-turn (steps_from c.args.p.now) c.loop-left.found.items c.add_steps_of.new.found.items _ c.loop-left.left c.lowest.result (bit_and c.loop-left.left (c.loop-left.left - 1)) c.lowest.ensures.first c.loop-left.invariant c.in_ok-add_steps_of.ensures

pub returns : goal.returns
returns c =
    rest-end (steps_from c.args.p.now) c.loop-left.found.items _ c.loop-left.left c.loop-left-test.false c.loop-left.invariant
    ∙ ap (λ l. c.args.found.now.items ++ l) (steps_of-mask c.args.p.now c.steppers-left.result (c.steppers-left.ensures c.args.p.now c.requires))
