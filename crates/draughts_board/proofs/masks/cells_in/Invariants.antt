use Rattle.std.proofs.Common.{◌≡◌, ℕ, ◌+◌, ◌<◌, length, get_or}
use Rattle.draughts_board.specs.declared.pieces.Cell.TheVariants.{Empty}
use Rattle.draughts_board.specs.Masks.{cell_in}
use Rattle.draughts_board.proofs.masks.cells_in.Given as goal

abbrev pub invariant-loop-i : goal.invariant-loop-i
invariant-loop-i l = (length l.cells ≡ 32) × ((k : ℕ) → k < l.i → get_or l.cells k Empty ≡ cell_in l.masks (k + 1))
