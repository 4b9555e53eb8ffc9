use Rattle.std.proofs.Common.{◌≡◌, ◌++◌, drop}
use Rattle.std.specs.List.{flat_map}
use Rattle.opened_games.specs.Opened.{game_line}
use Rattle.opened_games.proofs.texts.push_games.Given as goal

abbrev pub invariant-loop-number : goal.invariant-loop-number
invariant-loop-number l = l.text.items ++ flat_map (game_line l.games) (drop l.number-index l.numbers) ≡ l.initial.text.items ++ flat_map (game_line l.games) l.numbers
