use Rattle.std.proofs.Common.{refl, ap, Some}
use Rattle.certificate_text.specs.Lines.{hold_entry}
use Rattle.certificate_text.proofs.due.add_hold.Goals as goal

pub returns-in_default-read_printed_fen-clause-err : goal.returns-in_default-read_printed_fen-clause-err
returns-in_default-read_printed_fen-clause-err c after left =
    let line = c.in-Some.ensures.some in (
      refl,
      record {
        said = hold_entry c.in-Some.field.now c.in-Some.chosen;
        field = c.in-Some.field.now;
        may = (line.0, line.1.0);
        spelled = line.1.1;
        has = refl;
        wrong = λ fen. c.in_default-read_printed_fen.ensures.none fen.0 fen.1.0 fen.1.1;
      },
    )

pub returns-in-Ok-false-clause-err : goal.returns-in-Ok-false-clause-err
returns-in-Ok-false-clause-err c after left =
    let line = c.in-Some.ensures.some in
    let fen = c.in-Some-read_printed_fen.ensures.some in (
      refl,
      record {
        said = hold_entry c.in-Some.field.now c.in-Some.chosen;
        p = c.in-Some-read_printed_fen.p;
        may = (line.0, line.1.0);
        spelled = line.1.1;
        lawful = fen.0;
        has = ap Some fen.1;
        taken = rw c.in-Ok-false.field-0-test at c.in-Ok-false.ensures.tells;
      },
    )

pub returns-in-Ok-true-clause-ok : goal.returns-in-Ok-true-clause-ok
returns-in-Ok-true-clause-ok c =
    let line = c.in-Some.ensures.some in
    let fen = c.in-Some-read_printed_fen.ensures.some in (
      hold_entry c.in-Some.field.now c.in-Some.chosen,
      (
        line.1.1,
        record {
          p = c.in-Some-read_printed_fen.p;
          lawful = fen.0;
          fen = fen.1;
          absent = rw c.in-Ok-true.field-0-test at c.in-Ok-true.ensures.tells;
          path = line.1.0;
          behind = rw c.in-Ok-true.field-0-test at c.in-Ok-true.ensures.entries;
          valid = c.add_new.ensures.valid;
        },
      ),
    )
