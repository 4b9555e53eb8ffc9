use Rattle.std.proofs.Common.{◌≡◌, drop}
use Rattle.std.specs.List.{flat_map}
use Rattle.strategy_certificate.specs.declared.certificates.Part.TheVariants.{Hold}
use Rattle.bench_records.specs.Names.{named_by}
use Rattle.bench_records.specs.Texts.{hold_sheet, part_sheet}
use Rattle.bench_records.specs.Woven.{GoesOn}
use Rattle.bench_records.proofs.adding.note_holds.Given as goal

abbrev pub invariant-loop-i : goal.invariant-loop-i
invariant-loop-i l = record {
  names : named_by l.named (flat_map hold_sheet (drop l.i l.part.entries)) ≡ named_by l.initial.named (part_sheet (Hold l.part));
  front : GoesOn l.initial.named l.named;
}
