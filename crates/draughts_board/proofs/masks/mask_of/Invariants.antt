use Rattle.std.proofs.Common.{◌≡◌, ◌-◌, drop}
use Rattle.draughts_board.specs.Masks.{mask_of}
use Rattle.draughts_board.proofs.masks.mask_of.Given as goal

abbrev pub invariant-loop-i : goal.invariant-loop-i
invariant-loop-i l = l.mask ≡ mask_of l.piece (drop (32 - l.i) l.cells)
