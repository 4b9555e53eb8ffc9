use Rattle.std.proofs.Common.{◌≡◌, ◌∙◌, refl, sym, subst}
use Rattle.std.proofs.lemmas.Result.{err_from_is_err_and}
use Rattle.bench_edges.specs.declared.words.Command.TheVariants.{Verify}
use Rattle.draughts_board.specs.Draughts.{draughts}
use Rattle.strategy_certificate.specs.Tables.{IsSoundTable}
use Rattle.strategy_certificate.specs.Certificates.{IsGood}
use Rattle.strategy_certificate.proofs.PartLemmas.{good_by_each_table}
use Rattle.endgame_table.specs.Entries.{answers}
use Rattle.bench_commands.specs.Steps.{IsAnswerFault}
use Rattle.bench_commands.proofs.VerifyingLemmas.{text_refused, text_only, same_certificate, check_only, check_refused}
use Rattle.bench_commands.proofs.commands.verify.checked.Goals as goal

pub returns-in_err-certificate-clause-refused : goal.returns-in_err-certificate-clause-refused
returns-in_err-certificate-clause-refused c =
    let p = err_from_is_err_and c.from_residual.result c.from_residual.ensures.1 in
    rw (p.1, p.2) (text_refused c.args.text.now c.in_err-certificate.field-0.0 c.in_err-certificate.ensures.fault)

pub returns-in_err-certificate-clause-accepted : goal.returns-in_err-certificate-clause-accepted
returns-in_err-certificate-clause-accepted c =
    let p = err_from_is_err_and c.from_residual.result c.from_residual.ensures.1 in
    rw (p.1, p.2) (λ good. text_only good.0 c.in_err-certificate.field-0.0 (c.in_err-certificate.ensures.only_good good.0 good.1.1))

pub returns-in-Err-clause-refused : goal.returns-in-Err-clause-refused
returns-in-Err-clause-refused c =
    let table = c.in_ok-table.table in
    let fault = c.in-Err.ensures.exact.fault in
    subst (IsAnswerFault Verify c.args.text.now) (sym c.from.ensures)
    (check_refused c.args.text.now c.in_ok-certificate.certificate c.in-Err.refused.0 table.pieces table.numbers c.in-Err.refused.1 c.in_ok-certificate.ensures.good c.in_ok-table.ensures.pieces c.in_ok-table.ensures.table fault)

pub returns-in-Err-clause-accepted : goal.returns-in-Err-clause-accepted
returns-in-Err-clause-accepted c good =
    let read = c.in_ok-certificate.certificate in
    let table = c.in_ok-table.table in
    let one : read ≡ good.0 = same_certificate read good.0 (c.in_ok-certificate.ensures.only_good good.0 good.1.1) in
    let sound = subst (λ k. IsSoundTable draughts k (answers table.pieces table.numbers)) c.in_ok-table.ensures.pieces c.in_ok-table.ensures.table.sound in
    let by = good_by_each_table read (answers table.pieces table.numbers) sound (subst IsGood (sym one) good.1.0) in
    c.from.ensures ∙ check_only read c.in-Err.refused.0 c.in-Err.refused.1 (c.in-Err.ensures.exact.only_good read (refl, by))
