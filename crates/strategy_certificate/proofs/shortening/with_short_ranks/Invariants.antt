use Rattle.std.proofs.Common.{◌≡◌, ◌++◌, drop, map}
use Rattle.std.specs.Prelude.{All, Contains}
use Rattle.strategy_certificate.specs.Parts.{HasDistinctPositions}
use Rattle.strategy_certificate.specs.ShortRanks.{short_row}
use Rattle.strategy_certificate.proofs.shortening.with_short_ranks.Given as goal

abbrev pub invariant-loop-p : goal.invariant-loop-p
invariant-loop-p l = record {
  all : l.short.entries ++ map (short_row l.ranks) (drop l.p-index l.p-items) ≡ map (short_row l.ranks) l.p-items;
  distinct : HasDistinctPositions (l.short.entries ++ map (short_row l.ranks) (drop l.p-index l.p-items));
  there : All (λ row. Contains l.ranks row.1.rank) (drop l.p-index l.p-items);
}
