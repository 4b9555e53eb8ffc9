use Rattle.std.proofs.Common.{◌≡◌, ◌++◌, drop}
use Rattle.refusal_hints.specs.MoveLists.{further_moves}
use Rattle.refusal_hints.proofs.move_lists.push_further_moves.Given as goal

abbrev pub invariant-loop-m : goal.invariant-loop-m
invariant-loop-m l = l.text.items ++ further_moves (drop l.m-index l.moves) ≡ l.initial.text.items ++ further_moves l.moves
