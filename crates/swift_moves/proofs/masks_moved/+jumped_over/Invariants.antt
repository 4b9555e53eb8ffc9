use Rattle.std.proofs.Common.{length}
use Rattle.swift_moves.proofs.masks_moved.+jumped_over.Given as goal

abbrev pub decreases-jumped_over : goal.decreases-jumped_over
decreases-jumped_over l = length l.path.now
