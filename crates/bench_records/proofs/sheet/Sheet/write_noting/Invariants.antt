use Rattle.std.proofs.Common.{◌∷◌, drop}
use Rattle.bench_records.specs.Names.{short_sheet, named_by, IsNamed}
use Rattle.bench_records.specs.Woven.{GoesOn}
use Rattle.bench_records.proofs.Weaving.{Fills}
use Rattle.bench_records.proofs.sheet.Sheet.write_noting.Given as goal

abbrev pub invariant-loop-i : goal.invariant-loop-i
invariant-loop-i l = record {
  fills : Fills (l.fn.kind ∷ short_sheet l.initial.named l.fn.self) (named_by l.initial.named l.fn.self) l.self-inside.bytes.items l.text.items l.named l.from (drop l.i l.self-inside.names.items);
  named : IsNamed l.named;
  front : GoesOn l.initial.named l.named;
}
