use Rattle.std.proofs.Common.{rules, ◌<◌, ◌≤◌, ◌++◌, length, refl, sym, ap, ◌∙◌, arith}
use Rattle.record_reading.proofs.Readings.{as_many_records, known_more, read_at, record_at, text_at}
use Rattle.record_texts.proofs.ListLemmas.{end_here, lines_done, lines_on}
use Rattle.record_texts.specs.Lists.{count_text, record_lines}
use Rattle.record_texts.proofs.lists.records_text.Goals as goal

pub read_next-requires : goal.read_next-requires
read_next-requires c =
    let b = c.args.bench.now in
    let within : c.loop-i.i < length c.args.payloads.now = search rules in
    let t = record_at c.args.pieces b.records c.args.payloads.now c.loop-i.i c.index-payloads-i.result c.deref.result.now c.requires within c.deref.ensures.value in
    (t.r, text_at c.args.pieces c.args.pieces b.records c.loop-i.i c.deref.result.now c.loop-i.known t refl c.loop-i.invariant.0)

pub loop-i-preserved : goal.loop-i-preserved
loop-i-preserved c =
    let b = c.args.bench.now in
    let i = c.loop-i.i in
    let r = c.in_ok-record.record in
    let within : c.loop-i.i < length c.args.payloads.now = search rules in
    let t = record_at c.args.pieces b.records c.args.payloads.now i c.index-payloads-i.result c.deref.result.now c.requires within c.deref.ensures.value in
    let at = read_at c.args.pieces c.args.pieces b.records i c.deref.result.now c.loop-i.known t refl c.loop-i.invariant.0 r c.in_ok-record.ensures.only in
    let last = end_here b.records i (length c.args.payloads.now) (as_many_records c.args.pieces b.records c.args.payloads.now c.requires) within in
    let lines = lines_on c.args.json b.state.forest c.tree-tree.result.now.forest b.records i c.loop-i.begun c.begun_with-begun.result r _ c.loop-i.text.items c.push_record.new.text.items _ at last
    c.tree-tree.ensures.forest c.begun_with-begun.ensures.value c.in_ok-push_record.ensures c.loop-i.invariant.1.1 in (
      known_more b.records i r c.loop-i.known c.read_next.new.named at c.loop-i.invariant.0 c.in_ok-record.ensures.names,
      (omega (arith, c.begun_with-begun.ensures.most, c.loop-i.invariant.1.0), lines),
    )

pub returns : goal.returns
returns c =
    let b = c.args.bench.now in
    let all = as_many_records c.args.pieces b.records c.args.payloads.now c.requires in
    let past : length c.args.payloads.now ≤ c.loop-i.i = search rules in
    let done = lines_done c.args.json b.state.forest b.records c.loop-i.i c.loop-i.begun c.loop-i.text.items _ (omega (arith, all, past)) c.loop-i.invariant.1.1 in
    c.in_ok-push_end.ensures ∙ (ap (λ t. t ++ count_text c.args.json (length c.args.payloads.now)) done
    ∙ ap (λ n. record_lines c.args.json b.state.forest 1 0 b.records ++ count_text c.args.json n) (sym all))
