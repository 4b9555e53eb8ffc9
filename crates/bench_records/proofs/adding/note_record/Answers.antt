use Rattle.std.proofs.Common.{◌≡◌, ◌∙◌, ◌∷◌, ap, sym, subst, length, List}
use Rattle.std.specs.Prelude.{OnOk}
use Rattle.std.specs.List.{flat_map}
use Rattle.draughts_board.specs.Board.{Board}
use Rattle.strategy_certificate.specs.declared.certificates.Certificate.{Certificate}
use Rattle.bench_records.specs.Positions.{long_text}
use Rattle.bench_records.specs.Names.{mark, name, named_by, with_name}
use Rattle.bench_records.specs.Texts.{certificate_sheet, record_sheet}
use Rattle.bench_records.specs.declared.records.BenchRecord.{BenchRecord}
use Rattle.bench_records.proofs.Growing.{only_marks}
use Rattle.bench_records.proofs.Sheets.{named_marks}
use Rattle.bench_records.proofs.adding.note_record.Goals as goal

pub returns-in-Solve-clause-names : goal.returns-in-Solve-clause-names
returns-in-Solve-clause-names c =
    let named : List Board = c.args.named.now in
    let p : Board = c.in-Solve.position in
    let shown : List Certificate = c.in-Solve.shown in
    let same : named_by (with_name named p) (flat_map certificate_sheet c.as_slice.result.now) ≡ named_by named (record_sheet c.args.r.now) =
    ap (λ (l : List Certificate). named_by (with_name named p) (flat_map certificate_sheet l)) c.as_slice.ensures
    ∙ (sym (named_marks named (long_text c.in-Solve.node) (name p ∷ mark (length shown) ∷ flat_map certificate_sheet shown))
    ∙ ap (λ (r : BenchRecord). named_by named (record_sheet r)) (sym c.in-Solve.is)) in
    subst (λ (l : List Board). OnOk c.note_solve.result (c.note_solve.new.named ≡ l)) same c.note_solve.ensures.names

pub returns-in-Expand-clause-names : goal.returns-in-Expand-clause-names
returns-in-Expand-clause-names c =
    let named : List Board = c.args.named.now in
    sym (only_marks named (long_text c.in-Expand.node)) ∙ ap (λ (r : BenchRecord). named_by named (record_sheet r)) (sym c.in-Expand.is)
