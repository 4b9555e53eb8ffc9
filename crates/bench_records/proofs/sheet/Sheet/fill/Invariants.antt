use Rattle.std.proofs.Common.{◌∷◌, drop}
use Rattle.bench_records.specs.Names.{short_sheet, named_by, IsNamed}
use Rattle.bench_records.proofs.Weaving.{Fills}
use Rattle.bench_records.proofs.sheet.Sheet.fill.Given as goal

abbrev pub invariant-loop-i : goal.invariant-loop-i
invariant-loop-i l = record {
  fills : Fills (l.fn.kind ∷ short_sheet l.fn.named l.fn.self) (named_by l.fn.named l.fn.self) l.self-inside.bytes.items l.text.items l.names l.from (drop l.i l.self-inside.names.items);
  named : IsNamed l.names;
}
