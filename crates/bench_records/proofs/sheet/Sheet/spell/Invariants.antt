use Rattle.std.proofs.Common.{◌∷◌, drop}
use Rattle.bench_records.specs.Names.{full_text}
use Rattle.bench_records.proofs.Weaving.{Spells}
use Rattle.bench_records.proofs.sheet.Sheet.spell.Given as goal

abbrev pub invariant-loop-i : goal.invariant-loop-i
invariant-loop-i l = Spells (l.fn.kind ∷ full_text l.fn.self) l.self-inside.bytes.items l.text.items l.from (drop l.i l.self-inside.names.items)
