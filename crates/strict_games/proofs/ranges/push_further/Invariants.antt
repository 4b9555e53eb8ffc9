use Rattle.std.proofs.Common.{◌≡◌, ◌++◌, drop}
use Rattle.strict_games.specs.Groups.{further_text}
use Rattle.strict_games.proofs.ranges.push_further.Given as goal

abbrev pub invariant-loop-range : goal.invariant-loop-range
invariant-loop-range l = l.text.items ++ further_text (drop l.range-index l.ranges) ≡ l.initial.text.items ++ further_text l.ranges
