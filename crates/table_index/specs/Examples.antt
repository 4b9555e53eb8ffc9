-- Worked examples, one a field, each proved by computation. Positions are named beside their FEN.
use Rattle.std.specs.Prelude.{◌≡◌, ℕ, Some, None, [], ◌∷◌}
use Rattle.draughts_board.specs.declared.pieces.Side.{Side}
use Rattle.draughts_board.specs.declared.pieces.Side.TheVariants.{Black, White}
use Rattle.draughts_board.specs.declared.pieces.Cell.TheVariants.{Man, King}
use Rattle.draughts_board.specs.Board.{Board}
use Rattle.draughts_board.specs.Examples.{bare, with_pieces}
use Rattle.table_index.specs.Order.{choices, index_of, position_at}

-- a king of each side: the side to move, White's square and Black's
abbrev pub two_kings : Side → ℕ → ℕ → Board
two_kings s white black =
    record {
      cells = with_pieces (King White) (white
          ∷ []) (with_pieces (King Black) (black ∷ []) bare);
      to_move = s;
    }

-- W:WK30,K31,K32:B
abbrev pub three_kings : Board
three_kings = record { cells = with_pieces (King White) (30 ∷ 31 ∷ 32 ∷ []) bare; to_move = White }

pub record WorkedIndices : Type 0 where
  -- The choices of two of four squares, in order.
  pub choices_of_two : choices 2 (1 ∷ 2 ∷ 3 ∷ 4 ∷ [])
      ≡ (1 ∷ 2 ∷ []) ∷ (1 ∷ 3 ∷ []) ∷ (1 ∷ 4 ∷ []) ∷ (2 ∷ 3 ∷ []) ∷ (2 ∷ 4 ∷ []) ∷ (3 ∷ 4 ∷ []) ∷ []
  -- The bare board with Black and with White to move has the indices 0 and 1.
  pub bare_black : index_of (record { cells = bare; to_move = Black }) ≡ 0
  pub bare_white : index_of (record { cells = bare; to_move = White }) ≡ 1
  -- A Black man on 1 comes first of the boards with one piece; B:W:BK1 has the index 4.
  pub man_on_1 :
      index_of (record { cells = with_pieces (Man Black) (1 ∷ []) bare; to_move = Black }) ≡ 2
  pub king_on_1 :
      index_of (record { cells = with_pieces (King Black) (1 ∷ []) bare; to_move = Black }) ≡ 4
  -- B:WK32:BK1 stands on squares 1 and 32, the choice 30, with the kinds 1 and 3: (30 * 16 + 7) * 2
  -- = 974 behind 258.
  pub kings_on_1_and_32 : index_of (two_kings Black 32 1) ≡ 1232
  pub at_1232 : position_at 1232 ≡ Some (two_kings Black 32 1)
  -- W:WK27:BK1 has the index 1073.
  pub kings_on_1_and_27 : index_of (two_kings White 27 1) ≡ 1073
  pub at_1073 : position_at 1073 ≡ Some (two_kings White 27 1)
  -- The last index of all: W:WK30,K31,K32:B.
  pub last_of_all : index_of three_kings ≡ 651009
  pub at_last : position_at 651009 ≡ Some three_kings
  pub past_last : position_at 651010 ≡ None
  -- Index 226 would be a Black man on 29, which stands there as a king only.
  pub at_226 : position_at 226 ≡ None
