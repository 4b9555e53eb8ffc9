-- The numbers of a table, one for each index, and when they are a table.
use Rattle.std.specs.Prelude.{◌≡◌, ℕ, ◌<◌, ◌&&◌, nat_le, List, length, slice_index, Option, None, MatchOption, IsSomeAnd, if◌then◌else◌}
use Rattle.draughts_board.specs.Board.{Board, piece_count, is_lawful}
use Rattle.draughts_board.specs.Draughts.{draughts}
use Rattle.table_index.specs.Order.{entry_count, index_of, position_at}
use Rattle.strategy_certificate.specs.declared.oracle.Answer.{Answer}
use Rattle.strategy_certificate.specs.Tables.{IsRight, IsSoundTable, IsTableSize}
use Rattle.endgame_table.specs.Numbers.{no_position, answer_of}

-- what a caller knows of a table: for how many pieces it is, and the number at each index
pub record Entries : Type 0 where
  pub pieces : ℕ
  pub numbers : List ℕ

-- the answer that these numbers give at a position of at most k pieces; no other board has one
unfoldable pub answers : ℕ → List ℕ → Board → Option Answer
answers k numbers p =
    (if is_lawful p && nat_le (piece_count p) k then answer_of (slice_index numbers (index_of p))
    else None)

-- The rule at one index: one that is no position holds the number of no position, and a position's
-- holds the number of an answer that fits those at the next positions.
abbrev pub FitsAt : ℕ → List ℕ → ℕ → Type 0
FitsAt k numbers i =
    MatchOption (position_at i) (slice_index numbers i ≡ no_position)
    (λ p. IsSomeAnd (answer_of (slice_index numbers i)) (IsRight draughts (answers k numbers) p))

-- A table of k pieces: a number for each index, that of no position where there is none, and sound
-- answers.
pub record IsTable (k : ℕ) (numbers : List ℕ) : Type 0 where
  pub size : IsTableSize k
  pub entries : length numbers ≡ entry_count k
  pub no_position : (i : ℕ) → i < entry_count k → position_at i ≡ None
      → slice_index numbers i ≡ no_position
  pub sound : IsSoundTable draughts k (answers k numbers)
