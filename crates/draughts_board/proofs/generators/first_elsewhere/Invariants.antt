use Rattle.std.proofs.Common.{◌≡◌, [], take}
use Rattle.draughts_board.specs.Resolution.{elsewhere}
use Rattle.draughts_board.proofs.generators.first_elsewhere.Given as goal

abbrev pub invariant-loop-m : goal.invariant-loop-m
invariant-loop-m g l = elsewhere l.p l.next (take l.m-index l.moves) ≡ []
