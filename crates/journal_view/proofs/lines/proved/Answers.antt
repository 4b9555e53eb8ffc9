use Rattle.std.proofs.Common.{sym, subst}
use Rattle.draughts_board.specs.Draughts.{draughts}
use Rattle.strategy_certificate.specs.Tables.{IsSoundTable}
use Rattle.strategy_certificate.proofs.PartLemmas.{good_by_each_table}
use Rattle.journal_view.proofs.lines.proved.Goals as goal

pub prove-requires-clause-good : goal.prove-requires-clause-good
prove-requires-clause-good g c =
    let answer = g.O.Oracle.answer_at c.args.oracle.now in
    let sound : IsSoundTable draughts c.args.certificate.pieces answer = subst (λ n. IsSoundTable draughts n answer) (sym c.requires.pieces) c.pieces-pieces.ensures.sound in
    good_by_each_table c.args.certificate answer sound c.requires.good
