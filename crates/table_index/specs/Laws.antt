-- The laws of the order, each proved as the contract of a function of `src/laws.rt`.
use Rattle.std.specs.Prelude.{◌≡◌, ◌≤◌, ◌<◌, ℕ, Some, List, length, All, AllPairs, Contains}
use Rattle.std.specs.List.Sorted.{IsStrictlyIncreasing}
use Rattle.draughts_board.specs.Geometry.{IsSquare, squares}
use Rattle.draughts_board.specs.Board.{Board, IsLawful, piece_count}
use Rattle.draughts_board.specs.Rules.{IsBefore}
use Rattle.table_index.specs.Order.{choices, first_index, entry_count, index_of, position_at}

-- a choice of n squares, written rising
pub record IsChoice (n : ℕ) (choice : List ℕ) : Type 0 where
  pub many : length choice ≡ n
  pub each : All IsSquare choice
  pub rising : IsStrictlyIncreasing choice

-- these are the choices of n squares, each once, in lexicographic order
pub record AreChoices (n : ℕ) (all : List (List ℕ)) : Type 0 where
  pub sound : (choice : List ℕ) → Contains all choice → IsChoice n choice
  pub complete : (choice : List ℕ) → IsChoice n choice → Contains all choice
  pub in_order : AllPairs IsBefore all

-- The list `choices n squares`, by whose places the indices go, has every choice of n squares in
-- lexicographic order.
abbrev pub ChoicesAreInOrder : Type 0
ChoicesAreInOrder = (n : ℕ) → AreChoices n (choices n squares)

-- How many indices there are: blocks of 2, 256, 15,872 and 634,880 places.
pub record BlockSizes : Type 0 where
  pub first_of_none : first_index 0 ≡ 0
  pub first_of_one : first_index 1 ≡ 2
  pub first_of_two : first_index 2 ≡ 258
  pub first_of_three : first_index 3 ≡ 16130
  pub count_of_two : entry_count 2 ≡ 16130
  pub count_of_three : entry_count 3 ≡ 651010

-- Each position with at most k pieces, k at most 3, has an index in the table of k pieces.
abbrev pub PositionsHaveIndices : Type 0
PositionsHaveIndices =
    (p : Board) (k : ℕ) → IsLawful p → piece_count p ≤ k → k ≤ 3 → index_of p < entry_count k

-- At the index of a position with at most three pieces stands that position.
abbrev pub PositionsStandAtTheirIndices : Type 0
PositionsStandAtTheirIndices =
    (p : Board) → IsLawful p → piece_count p ≤ 3 → position_at (index_of p) ≡ Some p

-- two positions with at most three pieces never share an index
abbrev pub NoIndexIsShared : Type 0
NoIndexIsShared =
    (p q : Board) → IsLawful p → IsLawful q → piece_count p ≤ 3 → piece_count q ≤ 3
    → index_of p ≡ index_of q → p ≡ q

-- what stands at an index below the count of k pieces
pub record IsPositionOf (k i : ℕ) (p : Board) : Type 0 where
  pub lawful : IsLawful p
  pub few : piece_count p ≤ k
  pub index : index_of p ≡ i

-- What stands at an index of the table of k pieces is a position with at most k pieces, and that
-- index is its index.
abbrev pub IndicesHoldPositions : Type 0
IndicesHoldPositions =
    (k i : ℕ) (p : Board) → k ≤ 3 → i < entry_count k → position_at i ≡ Some p → IsPositionOf k i p
