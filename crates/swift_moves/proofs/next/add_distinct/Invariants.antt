use Rattle.std.proofs.Common.{◌≡◌, map, take}
use Rattle.draughts_board.specs.Rules.{after, first_places}
use Rattle.swift_moves.proofs.next.add_distinct.Given as goal

abbrev pub invariant-loop-m : goal.invariant-loop-m
invariant-loop-m l = l.next.items ≡ first_places (map (after l.p) (take l.m-index l.moves))
