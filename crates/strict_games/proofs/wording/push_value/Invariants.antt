use Rattle.std.proofs.Common.{◌≡◌, ◌++◌, drop}
use Rattle.std.specs.List.{flat_map}
use Rattle.strict_games.specs.Spelling.{escaped}
use Rattle.strict_games.proofs.wording.push_value.Given as goal

abbrev pub invariant-loop-byte : goal.invariant-loop-byte
invariant-loop-byte l = l.text.items ++ flat_map escaped (drop l.byte-index l.value) ≡ l.initial.text.items ++ flat_map escaped l.value
