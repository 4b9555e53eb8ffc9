use Rattle.std.proofs.Common.{refl}
use Rattle.certificate_text.specs.Lines.{position}
use Rattle.certificate_text.proofs.due.after_position.Goals as goal

pub returns-in-Some-read_printed_fen-clause-ok : goal.returns-in-Some-read_printed_fen-clause-ok
returns-in-Some-read_printed_fen-clause-ok c =
    let fen = c.in-Some-read_printed_fen.ensures.some in
    (position c.in-Some.field.now, (c.in-Some.ensures.some.1, record { p = c.in-Some-read_printed_fen.p; lawful = fen.0; fen = fen.1; leads = refl }))

pub returns-in-None-clause-err : goal.returns-in-None-clause-err
returns-in-None-clause-err c =
    let line = c.in-Some.ensures.some in (
      refl,
      record {
        said = position c.in-Some.field.now;
        field = c.in-Some.field.now;
        may = line.0;
        spelled = line.1;
        has = refl;
        wrong = λ fen. c.in-None.ensures.none fen.0 fen.1.0 fen.1.1;
      },
    )
