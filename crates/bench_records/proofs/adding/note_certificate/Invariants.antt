use Rattle.std.proofs.Common.{◌≡◌, drop}
use Rattle.std.specs.List.{flat_map}
use Rattle.bench_records.specs.Names.{named_by}
use Rattle.bench_records.specs.Texts.{part_sheet, certificate_sheet}
use Rattle.bench_records.specs.Woven.{GoesOn}
use Rattle.bench_records.proofs.adding.note_certificate.Given as goal

abbrev pub invariant-loop-part : goal.invariant-loop-part
invariant-loop-part l = record {
  names : named_by l.named (flat_map part_sheet (drop l.part-index l.c.parts)) ≡ named_by l.initial.named (certificate_sheet l.c);
  front : GoesOn l.initial.named l.named;
}
