use Rattle.std.proofs.Common.{◌≡◌, ◌<◌, subst, length, get_or, List}
use Rattle.strategy_certificate.specs.declared.certificates.Part.{Part}
use Rattle.bench_records.specs.Texts.{part_sheet}
use Rattle.bench_records.proofs.Growing.{noted_next}
use Rattle.bench_records.proofs.Numbering.{goes_on_then}
use Rattle.bench_records.proofs.adding.note_certificate.Goals as goal

pub loop-part-preserved : goal.loop-part-preserved
loop-part-preserved c =
    let i = c.loop-part.part-index in
    let parts : List Part = c.args.c.now.parts in
    let part : Part = c.part-item.result in
    let same = c.as_slice-part-items.ensures in
    record {
      names = noted_next part_sheet parts i part c.loop-part.named c.note_part.new.named _ (subst (λ (l : List Part). i < length l) same c.loop-part-test.true)
          (subst (λ (l : List Part). part ≡ get_or l i part) same c.part-item.is) c.in_ok-note_part.ensures.names c.loop-part.invariant.names;
      front = goes_on_then c.args.named.now c.loop-part.named c.note_part.new.named c.loop-part.invariant.front c.note_part.ensures.front;
    }
