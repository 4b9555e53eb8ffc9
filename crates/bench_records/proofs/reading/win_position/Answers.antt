use Rattle.std.proofs.Common.{◌∙◌, sym}
use Rattle.std.proofs.lemmas.Result.{err_from_is_err_and}
use Rattle.strategy_certificate.specs.Parts.{positions_of}
use Rattle.bench_records.proofs.Rows.{entry_stands, position_has_entry, is_taken, not_taken}
use Rattle.bench_records.proofs.reading.win_position.Goals as goal

pub returns-in_err-spelled-clause-err : goal.returns-in_err-spelled-clause-err
returns-in_err-spelled-clause-err c =
    let p = err_from_is_err_and c.from_residual.result c.from_residual.ensures.1 in
    rw (p.1, p.2) (c.in_err-spelled.ensures.err (positions_of c.args.part.now.entries))

pub returns-then-is_some-clause-err : goal.returns-then-is_some-clause-err
returns-then-is_some-clause-err c =
    let p = c.in_ok-spelled.spelled.0 in
    c.in_ok-spelled.ensures.taken (positions_of c.args.part.now.entries)
    (entry_stands c.args.part.now.entries p (is_taken c.find.result c.args.part.now.entries p c.find.ensures.found (sym c.is_some.ensures ∙ c.if-is_some.true)))

pub returns-clause-ok : goal.returns-clause-ok
returns-clause-ok c =
    let p = c.in_ok-spelled.spelled.0 in
    c.in_ok-spelled.ensures.read (positions_of c.args.part.now.entries)
    (λ there. not_taken c.find.result c.args.part.now.entries p c.find.ensures.none (sym c.is_some.ensures ∙ c.if-is_some.false) (position_has_entry c.args.part.now.entries p there))
