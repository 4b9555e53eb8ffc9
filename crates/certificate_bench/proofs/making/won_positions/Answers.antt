use Rattle.std.proofs.lemmas.List.Elements.{All-take}
use Rattle.std.proofs.lemmas.List.Sorted.{All-permutation}
use Rattle.endgame_table.specs.Entries.{answers}
use Rattle.certificate_bench.specs.Wins.{IsWonByTable}
use Rattle.certificate_bench.proofs.making.won_positions.Goals as goal

pub returns-clause-won : goal.returns-clause-won
returns-clause-won c =
    let table = c.args.table.now in
    let P = IsWonByTable (answers table.pieces table.numbers) in
    rw c.truncate.ensures.items (All-take P _ _ (All-permutation P _ _ c.sort_by_key.ensures.permutation c.loop-index.invariant))
