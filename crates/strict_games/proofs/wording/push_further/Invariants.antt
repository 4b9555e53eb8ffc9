use Rattle.std.proofs.Common.{◌≡◌, ◌++◌, drop}
use Rattle.strict_games.specs.Spelling.{squares_text}
use Rattle.strict_games.proofs.wording.push_further.Given as goal

abbrev pub invariant-loop-square : goal.invariant-loop-square
invariant-loop-square l = l.text.items ++ squares_text l.separator (drop l.square-index l.squares) ≡ l.initial.text.items ++ squares_text l.separator l.squares
