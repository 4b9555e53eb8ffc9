use Rattle.std.proofs.Common.{◌≤◌, length, map, take}
use Rattle.table_index.specs.Order.{index_of}
use Rattle.endgame_table.specs.Origins.{AreOrigins, AddsOrigins}
use Rattle.endgame_table.proofs.moves.add_origins.Given as goal

abbrev pub invariant-loop-p : goal.invariant-loop-p
invariant-loop-p l =
    AddsOrigins l.index (map index_of (take l.p-index l.next)) l.initial.origins l.origins
    × (AreOrigins l.origins (length l.initial.origins.heads.items) × (length l.origins.links.items ≤ 4294967295))
