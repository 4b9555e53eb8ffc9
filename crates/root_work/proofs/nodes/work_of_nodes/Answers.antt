use Rattle.std.proofs.Common.{rules, ◌≡◌, ◌<◌, ◌≤◌, ◌∙◌, List, refl, ap, length, arith}
use Rattle.std.proofs.lemmas.List.{take_all}
use Rattle.bench_records.specs.declared.records.BenchRecord.{BenchRecord}
use Rattle.record_reading.proofs.Readings.{as_many_records, known_more, read_at, record_at, text_at}
use Rattle.root_work.specs.Work.{work_on}
use Rattle.root_work.proofs.Sums.{counted_more}
use Rattle.root_work.proofs.nodes.work_of_nodes.Goals as goal

pub read_next-requires : goal.read_next-requires
read_next-requires c =
    let k = c.args.pieces in
    let records = c.args.bench.now.records in
    let within : c.loop-i.i < length c.args.payloads.now = search rules in
    let t = record_at k records c.args.payloads.now c.loop-i.i c.index-payloads-i.result c.deref.result.now c.requires within c.deref.ensures.value in
    (t.r, text_at k k records c.loop-i.i c.deref.result.now c.loop-i.known t refl c.loop-i.invariant.0)

pub loop-i-preserved : goal.loop-i-preserved
loop-i-preserved c =
    let k = c.args.pieces in
    let records = c.args.bench.now.records in
    let within : c.loop-i.i < length c.args.payloads.now = search rules in
    let t = record_at k records c.args.payloads.now c.loop-i.i c.index-payloads-i.result c.deref.result.now c.requires within c.deref.ensures.value in
    let at = read_at k k records c.loop-i.i c.deref.result.now c.loop-i.known t refl c.loop-i.invariant.0 c.in_ok-record.record c.in_ok-record.ensures.only in
    let long = c.count_record.ensures.length in (
      known_more records c.loop-i.i c.in_ok-record.record c.loop-i.known c.read_next.new.named at c.loop-i.invariant.0 c.in_ok-record.ensures.names,
      (
        long ∙ c.loop-i.invariant.1.0,
        λ n less.
            (let before : n < length c.loop-i.counts.items = omega (arith, less, long) in
            c.count_record.ensures.counted n before ∙ counted_more records c.loop-i.i c.in_ok-record.record n _ at (c.loop-i.invariant.1.1 n before)),
      ),
    )

pub returns-clause-counted : goal.returns-clause-counted
returns-clause-counted c n less =
    let records = c.args.bench.now.records in
    let many = as_many_records c.args.pieces records c.args.payloads.now c.requires in
    let past : length c.args.payloads.now ≤ c.loop-i.i = search rules in
    let all : length records ≤ c.loop-i.i = omega (arith, many, past) in
    c.loop-i.invariant.1.1 n less ∙ ap (λ (l : List BenchRecord). work_on l n) (take_all c.loop-i.i records all)
