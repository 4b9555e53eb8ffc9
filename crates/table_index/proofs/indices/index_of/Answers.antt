use Rattle.std.proofs.Common.{◌≡◌, sym, ap, ap₂, subst₂, ◌∙◌, ◌+◌, ◌-◌, ◌*◌, ◌^◌, arith}
use Rattle.std.specs.Int.Bits.{bit_and}
use Rattle.draughts_board.specs.Board.{Board, piece_count, cell_at}
use Rattle.table_index.specs.Counting.{choose}
use Rattle.table_index.specs.Order.{kind, first_index, side_number}
use Rattle.table_index.proofs.SquaresLeft.{IsLeft, left-start, left-turn, left-end, kind_by-masks}
use Rattle.table_index.proofs.indices.index_of.Goals as goal

pub loop-left-init : goal.loop-left-init
loop-left-init c =
    let count : c.from-pieces.result ≡ piece_count c.args.p.now = omega (arith, c.from-pieces.ensures, c.count.ensures.value, c.count-2.ensures.value) in
    left-start c.args.p.now c.occupied-left.result c.from-pieces.result c.occupied-left.ensures.lawful c.requires count c.occupied-left.ensures.squares

pub choices_of-later-requires-clause-pieces : goal.choices_of-later-requires-clause-pieces
choices_of-later-requires-clause-pieces c = c.loop-left.invariant.few

pub overflow_add-later : goal.overflow_add-later
overflow_add-later c =
    let turn = left-turn c.args.p.now _ _ _ _ _ _ c.occupied-left.ensures.lawful c.requires c.lowest-square.ensures.first c.loop-left.invariant in
    let later = c.choices_of-later.ensures ∙ ap (λ n. choose c.loop-left.behind (32 - n)) (c.from.ensures ∙ c.number.ensures.value) in
    omega (arith, turn.past_fits, later)

pub overflow_mul-kinds : goal.overflow_mul-kinds
overflow_mul-kinds c =
    let turn = left-turn c.args.p.now _ _ _ _ _ _ c.occupied-left.ensures.lawful c.requires c.lowest-square.ensures.first c.loop-left.invariant in
    omega (arith, turn.kinds_fit)

pub overflow_add-kinds : goal.overflow_add-kinds
overflow_add-kinds c =
    let turn = left-turn c.args.p.now _ _ _ _ _ _ c.occupied-left.ensures.lawful c.requires c.lowest-square.ensures.first c.loop-left.invariant in
    let digit = c.kind_in.ensures.value ∙ kind_by-masks c.args.p.now c.masks.result c.lowest-square.result c.masks.ensures.squares c.kind_in.ensures.square in
    omega (arith, turn.kinds_fit, digit)

pub overflow_sub-behind : goal.overflow_sub-behind
overflow_sub-behind c =
    let turn = left-turn c.args.p.now _ _ _ _ _ _ c.occupied-left.ensures.lawful c.requires c.lowest-square.ensures.first c.loop-left.invariant in
    turn.some

pub loop-left-preserved : goal.loop-left-preserved
loop-left-preserved c =
    let p : Board = c.args.p.now in
    let turn = left-turn p _ _ _ _ _ _ c.occupied-left.ensures.lawful c.requires c.lowest-square.ensures.first c.loop-left.invariant in
    let later = c.choices_of-later.ensures ∙ ap (λ n. choose c.loop-left.behind (32 - n)) (c.from.ensures ∙ c.number.ensures.value) in
    let digit : c.kind_in.result ≡ kind (cell_at p c.lowest-square.result) = c.kind_in.ensures.value ∙ kind_by-masks p c.masks.result c.lowest-square.result c.masks.ensures.squares c.kind_in.ensures.square in
    subst₂ (λ x k. IsLeft p (bit_and c.loop-left.left (c.loop-left.left - 1)) (c.loop-left.behind - 1) (c.loop-left.later + x) (c.loop-left.kinds * 4 + k)) (sym later) (sym digit) turn.left

pub overflow_sub-choice : goal.overflow_sub-choice
overflow_sub-choice c =
    let count : c.from-pieces.result ≡ piece_count c.args.p.now = omega (arith, c.from-pieces.ensures, c.count.ensures.value, c.count-2.ensures.value) in
    let w = left-end c.args.p.now c.loop-left.left c.loop-left.behind c.loop-left.later c.loop-left.kinds c.from-pieces.result c.occupied-left.ensures.lawful c.requires count c.loop-left-test.false c.loop-left.invariant in
    omega (arith, w.choice, c.choices_of.ensures)

pub overflow_sub-choice-2 : goal.overflow_sub-choice-2
overflow_sub-choice-2 c =
    let count : c.from-pieces.result ≡ piece_count c.args.p.now = omega (arith, c.from-pieces.ensures, c.count.ensures.value, c.count-2.ensures.value) in
    let w = left-end c.args.p.now c.loop-left.left c.loop-left.behind c.loop-left.later c.loop-left.kinds c.from-pieces.result c.occupied-left.ensures.lawful c.requires count c.loop-left-test.false c.loop-left.invariant in
    omega (arith, w.choice, c.choices_of.ensures)

pub index_at-requires-clause-choice : goal.index_at-requires-clause-choice
index_at-requires-clause-choice c =
    let count : c.from-pieces.result ≡ piece_count c.args.p.now = omega (arith, c.from-pieces.ensures, c.count.ensures.value, c.count-2.ensures.value) in
    let w = left-end c.args.p.now c.loop-left.left c.loop-left.behind c.loop-left.later c.loop-left.kinds c.from-pieces.result c.occupied-left.ensures.lawful c.requires count c.loop-left-test.false c.loop-left.invariant in
    omega (arith, w.choice, c.choices_of.ensures)

pub index_at-requires-clause-kinds : goal.index_at-requires-clause-kinds
index_at-requires-clause-kinds c =
    let count : c.from-pieces.result ≡ piece_count c.args.p.now = omega (arith, c.from-pieces.ensures, c.count.ensures.value, c.count-2.ensures.value) in
    let w = left-end c.args.p.now c.loop-left.left c.loop-left.behind c.loop-left.later c.loop-left.kinds c.from-pieces.result c.occupied-left.ensures.lawful c.requires count c.loop-left-test.false c.loop-left.invariant in
    w.kinds

pub returns-clause-value : goal.returns-clause-value
returns-clause-value c =
    let count : c.from-pieces.result ≡ piece_count c.args.p.now = omega (arith, c.from-pieces.ensures, c.count.ensures.value, c.count-2.ensures.value) in
    let w = left-end c.args.p.now c.loop-left.left c.loop-left.behind c.loop-left.later c.loop-left.kinds c.from-pieces.result c.occupied-left.ensures.lawful c.requires count c.loop-left-test.false c.loop-left.invariant in
    c.index_at.ensures.value
    ∙ ap₂ (λ x s. first_index c.from-pieces.result + ((x - 1 - c.loop-left.later) * 4 ^ c.from-pieces.result + c.loop-left.kinds) * 2 + side_number s) c.choices_of.ensures c.to_move.ensures.value
    ∙ w.index
