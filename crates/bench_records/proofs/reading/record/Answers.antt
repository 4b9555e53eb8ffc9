use Rattle.std.proofs.lemmas.Result.{err_from_is_err_and}
use Rattle.std.proofs.Common.{◌≡◌, ◌∙◌, ℕ, sym, ap, subst, length}
use Rattle.std.proofs.lemmas.Bool.{eqb-true, eqb-false}
use Rattle.bench_records.specs.Formats.{one, byte, Trails}
use Rattle.bench_records.specs.Orders.{is_between, record_order}
use Rattle.bench_records.specs.Reading.{Spot, ReadsValue, RefusesRecord}
use Rattle.bench_records.specs.declared.refusal.RecordRefusal.TheVariants.{BadField}
use Rattle.bench_records.proofs.Spots.{kind_fails, record_refused, record_trails, record_spelled}
use Rattle.bench_records.proofs.reading.record.Goals as goal

pub returns-in_default-clause-refused : goal.returns-in_default-clause-refused
returns-in_default-clause-refused c =
    let start = c.new-reader.ensures.value in
    kind_fails c.args.named.now c.args.pieces c.args.bytes.now c.in_default.field-0
    (subst (λ (s : Spot). RefusesRecord (one (byte (is_between 1 5))) s c.in_default.field-0) start c.in_default.ensures.err)
    (subst (λ (s : Spot). c.in_default.field-0 ≡ BadField s.at) start c.in_default.ensures.place)

pub behind_kind-requires-clause-full : goal.behind_kind-requires-clause-full
behind_kind-requires-clause-full c =
    c.in-Ok.ensures.ok.so ∙ ap (λ (s : Spot). s.by_number) c.new-reader.ensures.value

pub returns-in_err-record-clause-refused : goal.returns-in_err-record-clause-refused
returns-in_err-record-clause-refused c =
    let p = err_from_is_err_and c.from_residual.result c.from_residual.ensures.1 in
    let kind = subst (λ (s : Spot). ReadsValue (one (byte (is_between 1 5))) s c.in-Ok.kind c.byte.new.self) c.new-reader.ensures.value c.in-Ok.ensures.ok in
    rw (p.1, p.2)
    (record_refused c.args.named.now c.args.pieces c.args.bytes.now c.byte.new.self c.in-Ok.kind kind c.in_err-record.field-0.0 c.in_err-record.ensures.err)

pub returns-then-not-is_at_end-clause-refused : goal.returns-then-not-is_at_end-clause-refused
returns-then-not-is_at_end-clause-refused c =
    let kind = subst (λ (s : Spot). ReadsValue (one (byte (is_between 1 5))) s c.in-Ok.kind c.byte.new.self) c.new-reader.ensures.value c.in-Ok.ensures.ok in
    subst (λ (n : ℕ). Trails (record_order c.args.named.now c.args.pieces) c.args.bytes.now n) (sym c.place.ensures)
    (record_trails c.args.named.now c.args.pieces c.args.bytes.now c.byte.new.self c.in-Ok.kind kind c.behind_kind.new.reader c.in_ok-record.record c.in_ok-record.ensures.ok
    (eqb-false (length c.behind_kind.new.reader.left) 0 (sym c.if-not-is_at_end.ensures)))

pub returns-clause-spelled : goal.returns-clause-spelled
returns-clause-spelled c =
    let kind = subst (λ (s : Spot). ReadsValue (one (byte (is_between 1 5))) s c.in-Ok.kind c.byte.new.self) c.new-reader.ensures.value c.in-Ok.ensures.ok in
    record_spelled c.args.named.now c.args.pieces c.args.bytes.now c.byte.new.self c.in-Ok.kind kind c.behind_kind.new.reader c.in_ok-record.record c.in_ok-record.ensures.ok
    (eqb-true (length c.behind_kind.new.reader.left) 0 (sym c.if-not-is_at_end.ensures))
