-- What a shorter list of records keeps.
use Rattle.std.specs.Prelude.{◌≡◌, ℕ, List, map}
use Rattle.draughts_board.specs.declared.pieces.Side.{Side}
use Rattle.proof_tree.specs.Forest.{Forest, nodes, numbers, value_of}
use Rattle.proof_tree.specs.Sound.{root_positions}
use Rattle.bench_records.specs.declared.records.BenchRecord.{BenchRecord}
use Rattle.bench_core.specs.Growing.{IsForestOf}
use Rattle.journal_compaction.specs.Compactions.{IsCompaction}

-- The records that stand for others are lawful in turn.
abbrev pub CompactionsAreLawful : Type 0
CompactionsAreLawful = (k : ℕ) (old new : List BenchRecord) → IsCompaction k old new → (roots : Forest) × IsForestOf k new roots

-- the same roots in the same order, each with the same numbers for both goals, and so the same value
pub record HaveSameRoots (one another : Forest) : Type 0 where
  pub positions : root_positions another ≡ root_positions one
  pub numbers : (goal : Side) → numbers goal another ≡ numbers goal one
  pub values : map value_of (nodes another) ≡ map value_of (nodes one)

abbrev pub CompactionsKeepNumbers : Type 0
CompactionsKeepNumbers =
    (k : ℕ) (old new : List BenchRecord) (one another : Forest) → IsCompaction k old new → IsForestOf k old one
    → IsForestOf k new another → HaveSameRoots one another
