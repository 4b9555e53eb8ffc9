use Rattle.std.proofs.Common.{◌∙◌, ap}
use Rattle.std.specs.List.{list_any}
use Rattle.draughts_rules.specs.Conditions.{is_open_jump}
use Rattle.draughts_rules.proofs.NearSquareRules.{open_jumps}
use Rattle.draughts_rules.proofs.jumps.can_jump.Goals as goal

pub returns : goal.returns
returns c =
    c.can_jump_to.ensures
    ∙ ap (λ l. list_any (is_open_jump c.args.p.now c.args.«from» c.args.«from») l) c.jump_targets.ensures.row
    ∙ open_jumps c.args.p.now c.args.«from» c.args.«from» c.jump_targets.ensures.square
