use Rattle.std.proofs.Common.{Bool, not, get_or, subst}
use Rattle.draughts_board.specs.Masks.{IsMaskOf}
use Rattle.swift_moves.specs.Moved.{stands_moved}
use Rattle.swift_moves.proofs.masks_moved.masks_moved.Goals as goal

pub returns : goal.returns
returns c = record {
  own_men = subst (λ (b : Bool). IsMaskOf (stands_moved (get_or c.args.masks 0 0) c.args.«from» c.args.to (not b)) c.moved.result) c.is_king_at_rest-king.ensures c.moved.ensures;
  own_kings = subst (λ (b : Bool). IsMaskOf (stands_moved (get_or c.args.masks 1 0) c.args.«from» c.args.to b) c.moved-2.result) c.is_king_at_rest-king.ensures c.moved-2.ensures;
  left_men = c.untaken.ensures;
  left_kings = c.untaken-2.ensures;
}
