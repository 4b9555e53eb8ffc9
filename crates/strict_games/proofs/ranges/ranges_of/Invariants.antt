use Rattle.std.proofs.Common.{◌≡◌, ◌++◌, drop}
use Rattle.std.specs.List.{flat_map}
use Rattle.strict_games.specs.Groups.{numbers_in}
use Rattle.strict_games.proofs.ranges.ranges_of.Given as goal

abbrev pub invariant-loop-number : goal.invariant-loop-number
invariant-loop-number l = flat_map numbers_in l.ranges.items ++ drop l.number-index l.numbers ≡ l.numbers
