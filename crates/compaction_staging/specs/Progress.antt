-- How far a shorter list is staged.
use Rattle.std.specs.Prelude.{◌≡◌, ◌++◌, ◌∷◌, [], ℕ, List, take, Option}
use Rattle.draughts_board.specs.Board.{Board}
use Rattle.proof_tree.specs.Forest.{Forest}
use Rattle.bench_records.specs.declared.records.BenchRecord.{BenchRecord}
use Rattle.bench_records.specs.Texts.{named_in}
use Rattle.bench_core.specs.Cores.{Core}
use Rattle.tree_manager.specs.Receipts.{SpellsRecords}
use Rattle.journal_compaction.specs.Compactions.{IsCompaction}
use Rattle.journal_compaction.specs.Making.{IsMade}

-- a list that stands for the records is staged
pub record IsCompactStaged (k : ℕ) (records : List BenchRecord) (staged : List (List ℕ)) : Type 0 where
  pub made : List BenchRecord
  pub stands : IsCompaction k records made
  pub spelled : SpellsRecords k [] made staged

-- ---- on the way; nobody has to believe this

-- the texts spell the records, and these are the positions that the records name
pub record AreSpelled (k : ℕ) (made : List BenchRecord) (named : List Board) (staged : List (List ℕ)) : Type 0 where
  pub texts : SpellsRecords k [] made staged
  pub names : named ≡ named_in [] made

-- of the first i records a shorter list is made, and its texts are staged
pub record IsStaged (k : ℕ) (roots : Forest) (records : List BenchRecord) (i : ℕ) (names : List (Option ℕ))
    (next begun : ℕ) (named : List Board) (staged : List (List ℕ)) : Type 0 where
  pub made : List BenchRecord
  pub is : IsMade k roots (take i records) made names next begun
  pub spelled : AreSpelled k made named staged

-- .. of those of a bench
abbrev pub HasStaged : Core → ℕ → List (Option ℕ) → ℕ → ℕ → List Board → List (List ℕ) → Type 0
HasStaged b i names next begun named staged =
    IsStaged b.state.settings.pieces b.state.forest b.records i names next begun named staged
