use Rattle.std.proofs.Common.{◌≡◌, drop}
use Rattle.draughts_board.specs.Play.{first_to}
use Rattle.draughts_rules.proofs.next.first_to.Given as goal

abbrev pub invariant-loop-m : goal.invariant-loop-m
invariant-loop-m l = first_to l.p l.next l.moves ≡ first_to l.p l.next (drop l.m-index l.moves)
