-- What a record is about.
use Rattle.std.specs.Prelude.{ℕ, Bool, true, false, ◌==◌, List, [], ◌∷◌}
use Rattle.draughts_board.specs.Board.{Board}
use Rattle.bench_records.specs.declared.records.BenchRecord.{BenchRecord}
use Rattle.bench_records.specs.declared.records.BenchRecord.TheVariants.{Begin, Solve, Expand}
use Rattle.certificate_joiner.specs.Shelf.{Put}

-- a work record: one that a search gave
abbrev pub is_work : BenchRecord → Bool
is_work (Begin p) = false
is_work (Solve n p shown) = true
is_work (Expand n) = true

-- a work record of this node
abbrev pub is_work_on : ℕ → BenchRecord → Bool
is_work_on node (Begin p) = false
is_work_on node (Solve n p shown) = n == node
is_work_on node (Expand n) = n == node

-- the positions of the roots that the records begin, in order
abbrev pub begun : List BenchRecord → List Board
begun [] = []
begun (Begin p ∷ records) = p ∷ begun records
begun (Solve n p shown ∷ records) = begun records
begun (Expand n ∷ records) = begun records

-- what the records put on a shelf: the certificates of each node solved, in order
abbrev pub batches_shown : List BenchRecord → List Put
batches_shown [] = []
batches_shown (Begin p ∷ records) = batches_shown records
batches_shown (Solve n p shown ∷ records) = (n, shown) ∷ batches_shown records
batches_shown (Expand n ∷ records) = batches_shown records
