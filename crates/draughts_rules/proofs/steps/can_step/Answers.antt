use Rattle.std.proofs.Common.{◌∙◌, ap}
use Rattle.std.specs.List.{list_any}
use Rattle.draughts_rules.specs.Conditions.{is_open_step}
use Rattle.draughts_rules.proofs.NearSquareRules.{open_step}
use Rattle.draughts_rules.proofs.steps.can_step.Goals as goal

pub returns : goal.returns
returns c =
    c.can_step_to.ensures
    ∙ ap (λ l. list_any (is_open_step c.args.p.now c.args.«from») l) c.neighbours.ensures.row
    ∙ open_step c.args.p.now c.args.«from» c.neighbours.ensures.square
