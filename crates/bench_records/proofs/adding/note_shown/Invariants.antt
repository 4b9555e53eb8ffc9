use Rattle.std.proofs.Common.{◌≡◌, drop}
use Rattle.std.specs.List.{flat_map}
use Rattle.bench_records.specs.Names.{named_by}
use Rattle.bench_records.specs.Texts.{certificate_sheet}
use Rattle.bench_records.specs.Woven.{GoesOn}
use Rattle.bench_records.proofs.adding.note_shown.Given as goal

abbrev pub invariant-loop-c : goal.invariant-loop-c
invariant-loop-c l = record {
  names : named_by l.named (flat_map certificate_sheet (drop l.c-index l.shown)) ≡ named_by l.initial.named (flat_map certificate_sheet l.shown);
  front : GoesOn l.initial.named l.named;
}
