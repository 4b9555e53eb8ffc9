use Rattle.std.proofs.Common.{◌<◌, ◌∙◌, length, sym, ap, subst, List, ℕ, arith}
use Rattle.std.specs.Prelude.{filter}
use Rattle.std.proofs.lemmas.List.{take_all}
use Rattle.draughts_board.specs.Geometry.{IsSquare}
use Rattle.draughts_rules.specs.NearSquares.{jump_row}
use Rattle.draughts_rules.specs.Conditions.{is_open_further}
use Rattle.draughts_board.proofs.Filters.{filter-few}
use Rattle.draughts_rules.proofs.NearSquareRules.{open_further}
use Rattle.draughts_rules.proofs.jumps.further_jumps.Goals as goal

pub add_further-requires-clause-room : goal.add_further-requires-clause-room
add_further-requires-clause-room c =
    let few = filter-few (is_open_further c.args.p.now c.args.path.now) c.jump_targets-targets.result c.loop-number.number-index in
    subst (λ (l : List ℕ). length l < 13) (sym c.loop-number.invariant) (omega (arith, few))

pub returns : goal.returns
returns c =
    let p = c.args.p.now in
    let path : List ℕ = c.args.path.now in
    let row = c.jump_targets-targets.ensures.row ∙ ap jump_row c.last-here.ensures in
    c.loop-number.invariant
    ∙ ap (filter (is_open_further p path)) (take_all c.loop-number.number-index c.jump_targets-targets.result (omega arith) ∙ row)
    ∙ open_further p path (subst IsSquare c.last-here.ensures c.jump_targets-targets.ensures.square)
