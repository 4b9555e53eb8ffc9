use Rattle.std.proofs.Common.{◌∙◌, ap}
use Rattle.std.specs.List.{list_any}
use Rattle.draughts_board.specs.Geometry.{squares}
use Rattle.draughts_board.specs.Rules.{is_own, is_jump}
use Rattle.draughts_board.proofs.Filters.{any-filter}
use Rattle.draughts_rules.proofs.jumps.has_jump.Goals as goal

pub returns-clause-jump : goal.returns-clause-jump
returns-clause-jump c =
    let p = c.args.p.now in
    c.can_any_jump.ensures
    ∙ ap (λ l. list_any (λ x. list_any (is_jump p x x) squares) l) (c.as_slice.ensures.value ∙ c.own_squares.ensures.squares)
    ∙ any-filter (λ x. list_any (is_jump p x x) squares) (is_own p) squares
