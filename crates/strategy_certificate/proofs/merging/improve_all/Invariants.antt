use Rattle.std.proofs.Common.{◌≡◌, ◌≤◌, drop, length}
use Rattle.strategy_certificate.specs.Parts.{HasDistinctPositions, merged_wins}
use Rattle.strategy_certificate.proofs.merging.improve_all.Given as goal

abbrev pub invariant-loop-p : goal.invariant-loop-p
invariant-loop-p l = record {
  merged : merged_wins l.into.entries (drop l.p-index l.p-items) ≡ merged_wins l.fn.into.entries l.p-items;
  distinct : HasDistinctPositions l.into.entries;
  rest : HasDistinctPositions (drop l.p-index l.p-items);
  room : length (drop l.p-index l.p-items) ≤ l.into.spare;
}
