use Rattle.std.proofs.Common.{take}
use Rattle.draughts_board.specs.Rules.{jumped, contains}
use Rattle.draughts_board.specs.Play.{IsCapturePrefix}
use Rattle.draughts_board.specs.Masks.{IsMaskOf}
use Rattle.swift_moves.proofs.legal_test.is_capture.Given as goal

abbrev pub invariant-loop-i : goal.invariant-loop-i
invariant-loop-i l = IsCapturePrefix l.p (take l.i l.path) × IsMaskOf (contains (jumped (take l.i l.path))) l.taken
