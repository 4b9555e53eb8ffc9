use Rattle.std.proofs.Common.{◌≡◌, ◌++◌, ◌%◌, ◌<◌, ◌^◌, All, length}
use Rattle.std.specs.List.{flat_map}
use Rattle.endgame_table.specs.Bytes.{number_bytes}
use Rattle.table_checker.proofs.bytes.read_numbers.Given as goal

abbrev pub invariant-loop-number : goal.invariant-loop-number
invariant-loop-number l = record {
  read : l.bytes ≡ flat_map number_bytes l.numbers.items ++ l.rest;
  words : All (λ n. n < 2 ^ 32) l.numbers.items;
  whole : length l.rest % 4 ≡ 0;
}

abbrev pub decreases-loop-number : goal.decreases-loop-number
decreases-loop-number l = length l.rest
