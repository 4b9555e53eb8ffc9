-- What a list of numbers, one for each index, keeps for a position.
use Rattle.std.specs.Prelude.{ℕ, ◌<◌, ◌≤◌, List, length, slice_index, Option}
use Rattle.draughts_board.specs.Board.{Board, piece_count}
use Rattle.table_index.specs.Order.{index_of}
use Rattle.strategy_certificate.specs.declared.oracle.Answer.{Answer}
use Rattle.endgame_table.specs.Numbers.{answer_of}

-- the position has an index, and the list a number there
pub record IsKept (numbers : List ℕ) (p : Board) : Type 0 where
  pub few : piece_count p ≤ 3
  pub index : index_of p < length numbers

-- the answer that the number at its index stands for
abbrev pub kept_answer : List ℕ → Board → Option Answer
kept_answer numbers p = answer_of (slice_index numbers (index_of p))
