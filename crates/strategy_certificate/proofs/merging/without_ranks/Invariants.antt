use Rattle.std.proofs.Common.{◌≡◌, ◌++◌, drop, map}
use Rattle.strategy_certificate.specs.Parts.{HasDistinctPositions, without_rank}
use Rattle.strategy_certificate.proofs.merging.without_ranks.Given as goal

abbrev pub invariant-loop-p : goal.invariant-loop-p
invariant-loop-p l = record {
  all : l.rows.entries ++ map without_rank (drop l.p-index l.p-items) ≡ map without_rank l.p-items;
  distinct : HasDistinctPositions (l.rows.entries ++ map without_rank (drop l.p-index l.p-items));
}
