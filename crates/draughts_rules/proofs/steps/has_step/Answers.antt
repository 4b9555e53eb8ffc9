use Rattle.std.proofs.Common.{◌∙◌, ap}
use Rattle.std.specs.List.{list_any}
use Rattle.draughts_board.specs.Geometry.{squares}
use Rattle.draughts_board.specs.Rules.{is_own, is_step}
use Rattle.draughts_board.proofs.Filters.{any-filter}
use Rattle.draughts_rules.proofs.steps.has_step.Goals as goal

pub returns-clause-steps : goal.returns-clause-steps
returns-clause-steps c =
    let p = c.args.p.now in
    c.can_any_step.ensures
    ∙ ap (λ l. list_any (λ x. list_any (is_step p x) squares) l) (c.as_slice.ensures.value ∙ c.own_squares.ensures.squares)
    ∙ any-filter (λ x. list_any (is_step p x) squares) (is_own p) squares
