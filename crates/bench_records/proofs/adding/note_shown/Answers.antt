use Rattle.bench_records.specs.Texts.{certificate_sheet}
use Rattle.bench_records.proofs.Growing.{noted_next}
use Rattle.bench_records.proofs.Numbering.{goes_on_then}
use Rattle.bench_records.proofs.adding.note_shown.Goals as goal

pub loop-c-preserved : goal.loop-c-preserved
loop-c-preserved c = record {
  names = noted_next certificate_sheet c.args.shown.now c.loop-c.c-index c.c-item.result c.loop-c.named c.note_certificate.new.named _ c.loop-c-test.true c.c-item.is
      c.in_ok-note_certificate.ensures.names c.loop-c.invariant.names;
  front = goes_on_then c.args.named.now c.loop-c.named c.note_certificate.new.named c.loop-c.invariant.front c.note_certificate.ensures.front;
}
