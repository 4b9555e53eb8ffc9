use Rattle.std.proofs.Common.{◌≡◌, ◌++◌, drop}
use Rattle.std.specs.List.{flat_map}
use Rattle.opened_games.specs.Json.{json_byte}
use Rattle.opened_games.proofs.json.push_json_bytes.Given as goal

abbrev pub invariant-loop-b : goal.invariant-loop-b
invariant-loop-b l = l.text.items ++ flat_map json_byte (drop l.b-index l.bytes) ≡ l.initial.text.items ++ flat_map json_byte l.bytes
