use Rattle.std.proofs.Common.{◌≡◌, ◌+◌, ◌-◌, ◌<◌, [], arith}
use Rattle.std.proofs.lemmas.List.FromFn.{get_or-map-range_with_len}
use Rattle.draughts_board.specs.Geometry.{squares}
use Rattle.draughts_rules.specs.NearSquares.{jump_row}
use Rattle.draughts_rules.proofs.near_squares.jump_targets.Goals as goal

-- The whole table is computed from the rule, and this square's row is read from it.
pub returns-clause-row : goal.returns-clause-row
unfolding jump_row squares
returns-clause-row c =
    let place : c.number.result - 1 < 32 = omega arith in
    let back : 1 + (c.number.result - 1) ≡ c.args.«from» = omega arith in
    get_or-map-range_with_len jump_row 1 32 (c.number.result - 1) c.args.«from» [] place back
