use Rattle.std.proofs.Common.{◌≡◌, ℕ, sym, ap, ◌∙◌, ◌-◌, ◌%◌, arith}
use Rattle.table_index.specs.Order.{position_at, side_numbered}
use Rattle.table_index.proofs.Building.{found, first-least, made-is, is-held}
use Rattle.table_index.proofs.walking.PositionWalk.position_at.Goals as goal
use Rattle.table_index.proofs.walking.PositionWalk.position_at.Goals.{then-place-eq0, else-place-eq0}

pub overflow_sub-place : goal.overflow_sub-place
overflow_sub-place c = first-least c.args.index _ _ c.requires c.block_of-pieces.ensures c.first_index.ensures

pub place-requires-clause-choice : goal.place-requires-clause-choice
place-requires-clause-choice c = (found c.args.index _ _ _ c.requires c.block_of-pieces.ensures c.first_index.ensures c.kinds_of-weight.ensures).1.choice

-- what is handed out stands at the index
the_value : (c : goal.After-place) → c.place.result ≡ position_at c.args.index
the_value c =
    let is = found c.args.index _ _ _ c.requires c.block_of-pieces.ensures c.first_index.ensures c.kinds_of-weight.ensures in
    let side : ℕ = (c.args.index - c.first_index.result) % 2 in
    let mover : c.if-place-eq0.to_move ≡ side_numbered side =
    elim c.if-place-eq0.branch [
      | then-place-eq0 w ↦ w.to_move-is ∙ sym (ap side_numbered w.if-place-eq0.true)
      | else-place-eq0 w ↦ let one : side ≡ 1 = omega arith in w.to_move-is ∙ sym (ap side_numbered one)
    ] in
    made-is c.args.index _ _ _ is.0 c.if-place-eq0.to_move c.place.result is.1 mover (c.place.ensures is.0 is.1.there)

pub returns-clause-value : goal.returns-clause-value
returns-clause-value c = the_value c

pub returns-clause-lawful : goal.returns-clause-lawful
returns-clause-lawful c = (is-held c.args.index c.place.result c.requires (the_value c)).lawful

pub returns-clause-few : goal.returns-clause-few
returns-clause-few c = (is-held c.args.index c.place.result c.requires (the_value c)).few

pub returns-clause-index : goal.returns-clause-index
returns-clause-index c = (is-held c.args.index c.place.result c.requires (the_value c)).index
