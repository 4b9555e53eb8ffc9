-- The order of positions: by what stands on square 1, then on square 2, and so on, and last by the
-- side to move.
use Rattle.std.specs.Prelude.{◌≡◌, refl}
use Rattle.std.specs.declared.cmp.Ordering.{Ordering}
use Rattle.std.specs.Ordering.{is_eq, on, then_cmp, as_partial_cmp}
use Rattle.std.specs.Cmp.{IsTotalOrder, IsPartialOrder, then_total, on_total, both_tied, partial_order_from_agreeing_total}
use Rattle.std.specs.Cmp.Lexicographic.{pointwise, slice_cmp, lists_total, lists_ties}
use Rattle.draughts_board.specs.Board.{Board, same_side, same_cell, same_board}
use Rattle.draughts_board.specs.declared.pieces.Side.{Side}
use Rattle.draughts_board.specs.declared.pieces.Side.TheVariants.{Black, White}
use Rattle.draughts_board.specs.declared.pieces.Cell.{Cell}
use Rattle.draughts_board.specs.declared.pieces.Cell.TheVariants.{Empty, Man, King}
use Rattle.draughts_board.specs.contracts.pieces.SideOrd.TheImpl as side_order
use Rattle.draughts_board.specs.contracts.pieces.SideOrd.TheImpl.Laws as side_laws
use Rattle.draughts_board.specs.contracts.pieces.CellOrd.TheImpl as cell_order
use Rattle.draughts_board.specs.contracts.pieces.CellOrd.TheImpl.Laws as cell_laws

-- Black before White
abbrev pub side_cmp : Side → Side → Ordering
side_cmp = (side_order.ghosts).cmp

-- an empty square before men, men before kings, and Black's before White's
abbrev pub cell_cmp : Cell → Cell → Ordering
cell_cmp = (cell_order.ghosts).cmp

abbrev pub board_cmp : Board → Board → Ordering
board_cmp = then_cmp (on (λ (p : Board). p.cells) (slice_cmp cell_cmp))
    (on (λ (p : Board). p.to_move) side_cmp)

pub board_cmp-total : IsTotalOrder board_cmp
board_cmp-total = then_total (on_total (λ (p : Board). p.cells) (lists_total cell_laws.total-law))
    (on_total (λ (p : Board). p.to_move) side_laws.total-law)

side_ties : (s t : Side) → same_side s t ≡ is_eq (side_cmp s t)
side_ties Black Black = refl
side_ties White White = refl
side_ties Black White = refl
side_ties White Black = refl

cell_ties : (a b : Cell) → same_cell a b ≡ is_eq (cell_cmp a b)
cell_ties Empty Empty = refl
cell_ties Empty (Man t) = refl
cell_ties Empty (King t) = refl
cell_ties (Man s) Empty = refl
cell_ties (Man s) (Man t) = side_ties s t
cell_ties (Man s) (King t) = refl
cell_ties (King s) Empty = refl
cell_ties (King s) (Man t) = refl
cell_ties (King s) (King t) = side_ties s t

-- equal boards and no others are tied
pub board_cmp-ties : (p q : Board) → same_board p q ≡ is_eq (board_cmp p q)
board_cmp-ties p q =
    both_tied (pointwise same_cell p.cells q.cells) (same_side p.to_move q.to_move)
    (slice_cmp cell_cmp p.cells q.cells) (side_cmp p.to_move q.to_move)
    (lists_ties cell_cmp cell_ties p.cells q.cells) (side_ties p.to_move q.to_move)

pub board_cmp-partial : IsPartialOrder same_board (as_partial_cmp board_cmp)
board_cmp-partial =
    partial_order_from_agreeing_total board_cmp board_cmp-total (λ p q. refl) board_cmp-ties
