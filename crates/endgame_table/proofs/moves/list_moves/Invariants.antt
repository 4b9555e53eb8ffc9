use Rattle.std.proofs.Common.{◌≤◌, length}
use Rattle.endgame_table.proofs.ListedMoves.{Listed}
use Rattle.endgame_table.proofs.moves.list_moves.Given as goal

abbrev pub invariant-loop-index : goal.invariant-loop-index
invariant-loop-index l =
    Listed l.count l.index l.origins l.waiting.items l.numbers.items l.lost.items × (length l.origins.links.items ≤ 4294967295)
