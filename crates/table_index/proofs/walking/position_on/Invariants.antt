-- The cells stand up to some place, and the squares behind it are those left.
use Rattle.std.proofs.Common.{◌≡◌, replicate}
use Rattle.draughts_board.specs.declared.pieces.Cell.TheVariants.{Empty}
use Rattle.draughts_board.specs.Masks.{squares_of}
use Rattle.table_index.specs.Order.{with_pieces_on}
use Rattle.table_index.proofs.PlacingPieces.{IsPlacing}
use Rattle.table_index.proofs.walking.position_on.Given as goal

abbrev pub invariant-loop-left : goal.invariant-loop-left
invariant-loop-left l =
    IsPlacing (with_pieces_on (replicate 32 Empty) (squares_of l.mask) l.fn.kinds) l.left l.pieces l.kinds l.p.cells × (l.p.to_move ≡ l.to_move)

abbrev pub decreases-loop-left : goal.decreases-loop-left
decreases-loop-left l = l.left
