use Rattle.std.proofs.Common.{rules, ◌<◌, ◌∙◌, refl, ap, length}
use Rattle.std.proofs.lemmas.List.{take_all}
use Rattle.compaction_staging.proofs.ProgressLemmas.{staged_from, staged_all}
use Rattle.record_reading.proofs.Readings.{known_more, read_at, record_at, text_at}
use Rattle.compaction_staging.proofs.LoopLemmas.{all_done, rest_then, shows_at}
use Rattle.compaction_staging.proofs.staging.stage_compacted.Goals as goal

pub loop-i-init : goal.loop-i-init
loop-i-init g c =
    let b = c.args.bench.now in (
      staged_from b.state.settings.pieces b.state.forest b.records c.new.result.items c.new-2.result c.args.journal.now.staged c.new.ensures.items c.new-2.ensures c.requires.empty,
      (c.new-known.ensures, refl),
    )

pub read_next-requires : goal.read_next-requires
read_next-requires g c =
    let b = c.args.bench.now in
    let k = b.state.settings.pieces in
    let within : c.loop-i.i < length c.args.payloads.now = search rules in
    let t = record_at k b.records c.args.payloads.now c.loop-i.i c.index-payloads-i.result c.deref.result.now c.requires.spelled within c.deref.ensures.value in
    (t.r, text_at k c.pieces-pieces.result b.records c.loop-i.i c.deref.result.now c.loop-i.known t (c.pieces-pieces.ensures.value ∙ c.requires.tables) c.loop-i.invariant.1.0)

pub stage_record-requires-clause-at : goal.stage_record-requires-clause-at
stage_record-requires-clause-at g c =
    let b = c.args.bench.now in
    let k = b.state.settings.pieces in
    let within : c.loop-i.i < length c.args.payloads.now = search rules in
    let t = record_at k b.records c.args.payloads.now c.loop-i.i c.index-payloads-i.result c.deref.result.now c.requires.spelled within c.deref.ensures.value in
    read_at k c.pieces-pieces.result b.records c.loop-i.i c.deref.result.now c.loop-i.known t (c.pieces-pieces.ensures.value ∙ c.requires.tables) c.loop-i.invariant.1.0 c.in_ok-next.next c.in_ok-next.ensures.only

pub stage_record-requires-clause-enough : goal.stage_record-requires-clause-enough
stage_record-requires-clause-enough g c =
    let b = c.args.bench.now in
    let k = b.state.settings.pieces in
    let within : c.loop-i.i < length c.args.payloads.now = search rules in
    let t = record_at k b.records c.args.payloads.now c.loop-i.i c.index-payloads-i.result c.deref.result.now c.requires.spelled within c.deref.ensures.value in
    shows_at k c.pieces-pieces.result b.records c.loop-i.i c.deref.result.now c.loop-i.known t (c.pieces-pieces.ensures.value ∙ c.requires.tables) c.loop-i.invariant.1.0 c.in_ok-next.next c.in_ok-next.ensures.only

pub stage_record-requires-clause-unfailed : goal.stage_record-requires-clause-unfailed
stage_record-requires-clause-unfailed g c = ap (λ (j : _). j.failed) c.loop-i.invariant.1.1 ∙ c.requires.unfailed

pub loop-i-preserved : goal.loop-i-preserved
loop-i-preserved g c =
    let b = c.args.bench.now in
    let k = b.state.settings.pieces in
    let within : c.loop-i.i < length c.args.payloads.now = search rules in
    let t = record_at k b.records c.args.payloads.now c.loop-i.i c.index-payloads-i.result c.deref.result.now c.requires.spelled within c.deref.ensures.value in
    let at = read_at k c.pieces-pieces.result b.records c.loop-i.i c.deref.result.now c.loop-i.known t (c.pieces-pieces.ensures.value ∙ c.requires.tables) c.loop-i.invariant.1.0 c.in_ok-next.next c.in_ok-next.ensures.only in (
      c.in_ok-stage_record.ensures.staged,
      (
        known_more b.records c.loop-i.i c.in_ok-next.next c.loop-i.known c.read_next.new.named at c.loop-i.invariant.1.0 c.in_ok-next.ensures.names,
        rest_then c.args.journal.now c.loop-i.journal c.stage_record.new.journal c.loop-i.invariant.1.1 c.stage_record.ensures.rest,
      ),
    )

pub returns-clause-staged : goal.returns-clause-staged
returns-clause-staged g c =
    let b = c.args.bench.now in
    let k = b.state.settings.pieces in
    let all = all_done k b.records c.args.payloads.now c.loop-i.i c.requires.spelled (search rules) in
    staged_all k b.state.forest b.records c.loop-i.i c.loop-i.naming.names.items c.loop-i.naming.next c.loop-i.naming.begun c.loop-i.naming.named c.loop-i.journal.staged
    c.note_forest.ensures (take_all c.loop-i.i b.records all) c.loop-i.invariant.0
