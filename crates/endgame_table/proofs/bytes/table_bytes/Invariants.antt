use Rattle.std.proofs.Common.{◌≡◌, ◌++◌, take}
use Rattle.std.specs.List.{flat_map}
use Rattle.endgame_table.specs.Bytes.{table_head, number_bytes}
use Rattle.endgame_table.proofs.bytes.table_bytes.Given as goal

abbrev pub invariant-loop-number : goal.invariant-loop-number
invariant-loop-number l = l.bytes.items ≡ table_head l.t.pieces ++ flat_map number_bytes (take l.number-index l.number-items)
