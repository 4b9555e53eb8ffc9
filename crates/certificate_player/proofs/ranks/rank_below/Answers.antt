use Rattle.std.proofs.Common.{Some, refl, arith}
use Rattle.draughts_board.specs.Draughts.{draughts}
use Rattle.strategy_certificate.specs.Tables.{TableWins}
use Rattle.certificate_player.proofs.Finds.{none_below, rank_of_entry, rank_of_table}
use Rattle.certificate_player.proofs.ranks.rank_below.Goals as goal
use Rattle.certificate_player.proofs.ranks.rank_below.Goals.{in-Some+else-entry-bound, in_default}

pub returns-then-entry-bound : goal.returns-then-entry-bound
returns-then-entry-bound g c =
    rank_of_entry c.args.part.now c.args.p.now (Some c.in-Some.entry) c.in-Some.ensures.found c.args.bound
    (λ m. TableWins draughts (g.O.Oracle.answer_at c.args.oracle.now) c.args.part.now.side m c.args.p.now) c.in-Some.entry refl (omega arith)

pub returns : goal.returns
returns g c =
    rank_of_table c.args.part.now c.args.p.now c.args.bound (λ m. TableWins draughts (g.O.Oracle.answer_at c.args.oracle.now) c.args.part.now.side m c.args.p.now)
    c.table_rank.result (rw c.side.ensures.value at c.table_rank.ensures.rank)
    (elim c.match-find.branch [
      | in-Some+else-entry-bound w ↦ none_below c.args.part.now c.args.p.now (Some w.in-Some.entry) w.in-Some.ensures.found c.args.bound w.in-Some.entry refl (omega arith)
      | in_default w ↦ λ n has. w.in_default.ensures.none.0 refl (has.0.0, has.0.1.0)
    ])
