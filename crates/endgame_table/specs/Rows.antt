-- Where the moves lead, by index.
use Rattle.std.specs.Prelude.{◌≡◌, ℕ, ◌<◌, ◌==◌, List, [], length, map, slice_index, slice_index_or, Option, Some, None, if◌then◌else◌}
use Rattle.std.specs.List.{range_with_len}
use Rattle.draughts_board.specs.Board.{Board}
use Rattle.draughts_board.specs.Play.{successors_of}
use Rattle.table_index.specs.Order.{index_of, position_at}
use Rattle.endgame_table.specs.Numbers.{no_position}

-- the indices that the moves at a position lead to, and no index where there is none
abbrev pub indices_after : Option Board → List ℕ
indices_after None = []
indices_after (Some p) = map index_of (successors_of p)

-- the number before the first round
abbrev pub first_number : Option Board → ℕ
first_number None = no_position
first_number (Some p) = 0

-- the number once the losses of rank 0 have been found: where there is no move, that of such a loss
abbrev pub begun_number : Option Board → ℕ
begun_number None = no_position
begun_number (Some p) = (if length (successors_of p) == 0 then 1 else 0)

-- for each index the indices that its moves lead to, and its number before the first round
pub record Listing : Type 0 where
  pub rows : List (List ℕ)
  pub first : List ℕ

-- those of the first `count` indices
unfoldable pub moves_of : ℕ → Listing
moves_of count = record {
  rows = map (λ i. indices_after (position_at i)) (range_with_len 0 count);
  first = map (λ i. first_number (position_at i)) (range_with_len 0 count);
}

-- the same at each index
pub record ListsMoves (count : ℕ) (rows : List (List ℕ)) (numbers : List ℕ) : Type 0 where
  pub rows_count : length rows ≡ count
  pub numbers_count : length numbers ≡ count
  pub rows_at : (i : ℕ) → i < count → slice_index_or rows i [] ≡ indices_after (position_at i)
  pub numbers_at : (i : ℕ) → i < count → slice_index numbers i ≡ first_number (position_at i)
