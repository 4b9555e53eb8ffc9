use Rattle.draughts_board.specs.Draughts.{draughts}
use Rattle.strategy_certificate.specs.Tables.{TableWins}
use Rattle.strategy_certificate.specs.Certificates.{HasRank}
use Rattle.certificate_checker.proofs.LeastLemmas.{IsLeast-either}
use Rattle.certificate_checker.proofs.shown.least_rank.Goals as goal

pub returns : goal.returns
returns g c =
    rw c.lesser.ensures
    (IsLeast-either (λ r. HasRank c.args.part.now r c.args.q.now) (λ r. TableWins draughts (g.O.Oracle.answer_at c.args.oracle.now) c.args.part.now.side r c.args.q.now)
    c.kept_rank.result c.table_rank.result c.kept_rank.ensures (rw c.side.ensures.value at c.table_rank.ensures.rank))
