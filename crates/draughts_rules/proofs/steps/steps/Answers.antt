use Rattle.std.proofs.Common.{◌∙◌, ap}
use Rattle.std.specs.Prelude.{flat_map}
use Rattle.std.proofs.lemmas.List.{take_all}
use Rattle.draughts_board.specs.Play.{steps, steps_from}
use Rattle.draughts_rules.proofs.steps.steps.Goals as goal

pub returns : goal.returns
unfolding steps
returns c =
    c.loop-from.invariant ∙ ap (flat_map (steps_from c.args.p.now)) (take_all c.loop-from.from-index c.args.own.now c.loop-from-test.false ∙ c.requires)
