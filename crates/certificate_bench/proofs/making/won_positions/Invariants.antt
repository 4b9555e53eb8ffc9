use Rattle.std.proofs.Common.{All}
use Rattle.endgame_table.specs.Entries.{answers}
use Rattle.certificate_bench.specs.Wins.{IsWonByTable}
use Rattle.certificate_bench.proofs.making.won_positions.Given as goal

abbrev pub invariant-loop-index : goal.invariant-loop-index
invariant-loop-index l = All (IsWonByTable (answers l.table.pieces l.table.numbers)) l.won.items
