use Rattle.std.proofs.Common.{◌-◌, ◌%◌, sym, ap, subst, replicate, arith}
use Rattle.std.proofs.Math.Nat.{one-le-pow}
use Rattle.std.specs.Int.Bits.{bit_and}
use Rattle.draughts_board.specs.declared.pieces.Cell.TheVariants.{Empty}
use Rattle.draughts_board.specs.Board.{Board}
use Rattle.draughts_board.specs.Masks.{squares_of}
use Rattle.table_index.specs.Order.{with_pieces_on}
use Rattle.table_index.proofs.Building.{built-end}
use Rattle.table_index.proofs.PlacingPieces.{IsPlacing, placing-start, placing-next, placing-end, placing-digit, placing-lawful, placing-more, placing-refused}
use Rattle.table_index.proofs.walking.position_on.Goals as goal

pub loop-left-init : goal.loop-left-init
loop-left-init c = (
  subst (λ (p : Board). IsPlacing (with_pieces_on (replicate 32 Empty) (squares_of c.args.mask) c.args.kinds) c.args.mask c.args.pieces c.args.kinds p.cells) (sym c.bare-p.ensures)
      (placing-start c.args.pieces c.requires.mask.0 c.args.kinds c.args.mask c.requires.pieces c.requires.mask.1.0 c.requires.kinds c.requires.mask.1.1),
  ap (λ (p : Board). p.to_move) c.bare-p.ensures,
)

pub overflow_sub-pieces : goal.overflow_sub-pieces
overflow_sub-pieces c = (placing-next _ _ _ _ _ _ _ c.loop-left.invariant.0 c.lowest-square.ensures.first).some

pub kinds_of-weight-requires : goal.kinds_of-weight-requires
kinds_of-weight-requires c = let few = c.loop-left.invariant.0.built.few in omega (arith, few)

pub nonzero_div-kinds : goal.nonzero_div-kinds
nonzero_div-kinds c = omega (arith, one-le-pow (c.loop-left.pieces - 1) 4 (omega arith), c.kinds_of-weight.ensures)

pub piece_of-requires : goal.piece_of-requires
piece_of-requires c =
    placing-digit _ _ _ _ _ _ c.kinds_of-weight.result (c.from-place.result - 1) Empty (placing-next _ _ _ _ _ _ _ c.loop-left.invariant.0 c.lowest-square.ensures.first) c.kinds_of-weight.ensures
    (omega (arith, c.from-place.ensures, c.number.ensures.value))

pub with_piece-requires-clause-place : goal.with_piece-requires-clause-place
with_piece-requires-clause-place c =
    let high = (placing-next _ _ _ _ _ _ _ c.loop-left.invariant.0 c.lowest-square.ensures.first).high in
    omega (arith, high, c.from-place.ensures, c.number.ensures.value)

pub with_piece-requires-clause-lawful : goal.with_piece-requires-clause-lawful
with_piece-requires-clause-lawful c fine =
    placing-lawful _ _ _ _ _ _ c.kinds_of-weight.result (c.from-place.result - 1) c.piece_of.result (placing-next _ _ _ _ _ _ _ c.loop-left.invariant.0 c.lowest-square.ensures.first) c.kinds_of-weight.ensures
    (omega (arith, c.from-place.ensures, c.number.ensures.value)) c.piece_of.ensures c.args.to_move fine

pub returns-in_default : goal.returns-in_default
returns-in_default c =
    placing-refused _ _ _ _ _ _ c.kinds_of-weight.result (c.from-place.result - 1) c.piece_of.result (placing-next _ _ _ _ _ _ _ c.loop-left.invariant.0 c.lowest-square.ensures.first) c.kinds_of-weight.ensures
    (omega (arith, c.from-place.ensures, c.number.ensures.value)) c.piece_of.ensures c.in_default.ensures

pub nonzero_rem-kinds : goal.nonzero_rem-kinds
nonzero_rem-kinds c = omega (arith, one-le-pow (c.loop-left.pieces - 1) 4 (omega arith), c.kinds_of-weight.ensures)

pub loop-left-preserved : goal.loop-left-preserved
loop-left-preserved c =
    let more = c.in-Some.ensures in (
      subst (λ (p : Board). IsPlacing (with_pieces_on (replicate 32 Empty) (squares_of c.args.mask) c.args.kinds) (bit_and c.loop-left.left (c.loop-left.left - 1)) (c.loop-left.pieces - 1) (c.loop-left.kinds % c.kinds_of-weight.result) p.cells) (sym more.0)
          (placing-more _ _ _ _ _ _ c.kinds_of-weight.result (c.from-place.result - 1) c.piece_of.result (placing-next _ _ _ _ _ _ _ c.loop-left.invariant.0 c.lowest-square.ensures.first) c.kinds_of-weight.ensures
          (omega (arith, c.from-place.ensures, c.number.ensures.value)) c.piece_of.ensures more.1),
      ap (λ (p : Board). p.to_move) more.0,
    )

pub returns : goal.returns
returns c =
    let placing = c.loop-left.invariant.0 in
    let end = built-end _ _ _ _ _ _ placing.built placing.inside (placing-end _ _ _ _ _ placing c.loop-left-test.false) in
    let cells = end.0 in
    let mover = c.loop-left.invariant.1 in
    ((λ i. record { cells = cells i; to_move = mover i }), end.1)
