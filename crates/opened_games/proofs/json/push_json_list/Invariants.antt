use Rattle.std.proofs.Common.{◌≡◌, ◌++◌, drop, true}
use Rattle.opened_games.specs.Json.{json_list}
use Rattle.opened_games.proofs.json.push_json_list.Given as goal

abbrev pub invariant-loop-number : goal.invariant-loop-number
invariant-loop-number l = l.text.items ++ json_list l.games l.is_first (drop l.number-index l.numbers) ≡ l.initial.text.items ++ json_list l.games true l.numbers
