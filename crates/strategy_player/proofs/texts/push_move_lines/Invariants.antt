use Rattle.std.proofs.Common.{◌≡◌, ◌++◌, drop}
use Rattle.strategy_player.specs.Texts.{move_lines}
use Rattle.strategy_player.proofs.texts.push_move_lines.Given as goal

abbrev pub invariant-loop-path : goal.invariant-loop-path
invariant-loop-path l = l.text.items ++ move_lines (drop l.path-index l.moves) ≡ l.initial.text.items ++ move_lines l.moves
