-- Worked examples, one a field, each proved by computation. Positions are named beside their FEN.
use Rattle.std.specs.Prelude.{◌≡◌, ℕ, true, false, List, [], ◌∷◌, replicate, filter}
use Rattle.draughts_board.specs.declared.pieces.Side.{Side}
use Rattle.draughts_board.specs.declared.pieces.Side.TheVariants.{Black, White}
use Rattle.draughts_board.specs.declared.pieces.Cell.{Cell}
use Rattle.draughts_board.specs.declared.pieces.Cell.TheVariants.{Empty, Man, King}
use Rattle.draughts_board.specs.declared.pieces.Value.TheVariants.{BlackWins, WhiteWins, Draw}
use Rattle.draughts_board.specs.Geometry.{squares, row, column, are_near, are_jump_apart, between}
use Rattle.draughts_board.specs.Board.{Board, other, pieces, is_lawful, start_board, turned}
use Rattle.draughts_board.specs.Masks.{squares_of, masks_of, are_apart, board_in}
use Rattle.draughts_board.specs.Rules.{IsLegal, after, put}
use Rattle.draughts_board.specs.Play.{legal_paths, successors_of}
use Rattle.draughts_board.specs.Game.{Game, WinsIn, HasValue, is_at_sight, ShowsWin, ShowsHold}
use Rattle.draughts_board.specs.Draughts.{draughts}

-- ---- positions

-- no piece on the board
abbrev pub bare : List Cell
bare = replicate 32 Empty

-- the cells with this piece put on each of the squares
abbrev pub with_pieces : Cell → List ℕ → List Cell → List Cell
with_pieces c [] cells = cells
with_pieces c (n ∷ ns) cells = put (with_pieces c ns cells) n c

-- a position with men alone: the side to move, White's squares and Black's
abbrev pub men : Side → List ℕ → List ℕ → Board
men s white black = record {
  cells = with_pieces (Man White) white (with_pieces (Man Black) black bare);
  to_move = s;
}

-- a position of White's men and Black's kings
abbrev pub men_and_kings : Side → List ℕ → List ℕ → Board
men_and_kings s white black = record {
  cells = with_pieces (Man White) white (with_pieces (King Black) black bare);
  to_move = s;
}

-- B:W6,7,14,15:BK2, a king before four men, which it can go round both ways
abbrev pub king_at_four : Board
king_at_four = men_and_kings Black (6 ∷ 7 ∷ 14 ∷ 15 ∷ []) (2 ∷ [])

-- B:W6,7,14,15:B2, the same with a man, which cannot come back
abbrev pub man_at_four : Board
man_at_four = men Black (6 ∷ 7 ∷ 14 ∷ 15 ∷ []) (2 ∷ [])

-- B:W26,27:B22, a man that can jump to its farthest row
abbrev pub man_at_two : Board
man_at_two = men Black (26 ∷ 27 ∷ []) (22 ∷ [])

-- B:W6:BK2, a king before one man
abbrev pub king_at_one : Board
king_at_one = men_and_kings Black (6 ∷ []) (2 ∷ [])

-- B:W6:B10, a man with an enemy behind it
abbrev pub man_past_one : Board
man_past_one = men Black (6 ∷ []) (10 ∷ [])

-- W:W19:B24, the same for White
abbrev pub white_man_past_one : Board
white_man_past_one = men White (19 ∷ []) (24 ∷ [])

-- B:W:BK18, a king alone
abbrev pub king_alone : Board
king_alone = men_and_kings Black [] (18 ∷ [])

-- B:W:B25, a man one step from its farthest row
abbrev pub man_at_seventh : Board
man_at_seventh = men Black [] (25 ∷ [])

-- the game that begins 11-15 22-18
abbrev pub third_ply : Board
third_ply = after (after start_board (11 ∷ 15 ∷ [])) (22 ∷ 18 ∷ [])

-- B:W16,19:B12, a man that cannot move
abbrev pub man_blocked : Board
man_blocked = men Black (16 ∷ 19 ∷ []) (12 ∷ [])

-- W:W16,23:B12, a step before that
abbrev pub man_to_block : Board
man_to_block = men White (16 ∷ 23 ∷ []) (12 ∷ [])

-- B:W28:B20, a man that has one step, into a capture
abbrev pub man_to_lose : Board
man_to_lose = men Black (28 ∷ []) (20 ∷ [])

-- ---- squares and boards

pub record WorkedSquares : Type 0 where
  -- Square 1 stands in row 0 and column 1, square 5 in row 1 and column 0, square 32 in row 7 and
  -- column 6.
  pub row_of_1 : row 1 ≡ 0
  pub column_of_1 : column 1 ≡ 1
  pub row_of_5 : row 5 ≡ 1
  pub column_of_5 : column 5 ≡ 0
  pub row_of_32 : row 32 ≡ 7
  pub column_of_32 : column 32 ≡ 6
  -- Square 18 has four near squares and four that are a jump away, 12 stands at the edge and 29 in
  -- a corner.
  pub near_18 : filter (are_near 18) squares ≡ 14 ∷ 15 ∷ 22 ∷ 23 ∷ []
  pub jumps_18 : filter (are_jump_apart 18) squares ≡ 9 ∷ 11 ∷ 25 ∷ 27 ∷ []
  pub near_12 : filter (are_near 12) squares ≡ 8 ∷ 16 ∷ []
  pub near_29 : filter (are_near 29) squares ≡ 25 ∷ []
  pub over_18_27 : between 18 27 ≡ 23
  pub over_18_9 : between 18 9 ≡ 14

pub record WorkedBoards : Type 0 where
  -- The start has 12 pieces a side, and turned it is the start with White to move.
  pub start_black : pieces Black start_board.cells ≡ 12
  pub start_white : pieces White start_board.cells ≡ 12
  pub start_position : is_lawful start_board ≡ true
  pub start_turned : turned start_board ≡ record { cells = start_board.cells; to_move = White }
  -- B:W6:B10 turned is W:W23:B27.
  pub man_turned : turned man_past_one ≡ men White (23 ∷ []) (27 ∷ [])
  -- A man on its farthest row is no position, for either side; a king there is.
  pub black_man_on_29 : is_lawful (men White [] (29 ∷ [])) ≡ false
  pub white_man_on_4 : is_lawful (men Black (4 ∷ []) []) ≡ false
  pub black_king_on_29 : is_lawful (men_and_kings White [] (29 ∷ [])) ≡ true
  pub white_man_on_29 : is_lawful (men Black (29 ∷ []) []) ≡ true
  -- Thirteen pieces of one side are no position.
  pub thirteen_men : is_lawful (men Black (20 ∷ 21 ∷ 22 ∷ 23 ∷ 24 ∷ 25 ∷ 26 ∷ 27 ∷ 28 ∷ 29 ∷ 30 ∷ 31
      ∷ 32 ∷ []) []) ≡ false

-- ---- masks

pub record WorkedMasks : Type 0 where
  -- Square 1 is the lowest bit and square 32 the highest: the mask 5 holds the squares 1 and 3.
  pub squares_of_5 : squares_of 5 ≡ 1 ∷ 3 ∷ []
  pub square_32 : squares_of 2147483648 ≡ 32 ∷ []
  -- The start: Black's men on 1 to 12, White's on 21 to 32, and no kings.
  pub start_masks : masks_of start_board ≡ 4095 ∷ 0 ∷ 4293918720 ∷ 0 ∷ []
  pub start_of_masks : board_in (4095 ∷ 0 ∷ 4293918720 ∷ 0 ∷ []) Black ≡ start_board
  -- B:W6,7,14,15:BK2 has a Black king on 2 and four White men.
  pub four_masks : masks_of king_at_four ≡ 0 ∷ 2 ∷ 24672 ∷ 0 ∷ []
  pub four_apart : are_apart (0 ∷ 2 ∷ 24672 ∷ 0 ∷ []) ≡ true
  -- A square in two masks, and a man on its farthest row, make no position.
  pub shared_square : are_apart (1 ∷ 1 ∷ 0 ∷ 0 ∷ []) ≡ false
  pub shared_by_sides : are_apart (0 ∷ 8 ∷ 8 ∷ 0 ∷ []) ≡ false
  pub misplaced : is_lawful (board_in (268435456 ∷ 0 ∷ 0 ∷ 0 ∷ []) White) ≡ false

-- ---- captures

pub record WorkedCaptures : Type 0 where
  -- The king may go round the four men either way. Its starting square counts as empty, so it ends
  -- there.
  pub round_one_way : IsLegal king_at_four (2 ∷ 9 ∷ 18 ∷ 11 ∷ 2 ∷ [])
  pub round_other_way : IsLegal king_at_four (2 ∷ 11 ∷ 18 ∷ 9 ∷ 2 ∷ [])
  pub round_all : legal_paths king_at_four ≡ (2 ∷ 9 ∷ 18 ∷ 11 ∷ 2 ∷ []) ∷ (2 ∷ 11 ∷ 18 ∷ 9 ∷ 2 ∷ [])
      ∷ []
  -- A capture is carried on: it may not stop midway, where a further jump exists.
  pub round_half : ¬ IsLegal king_at_four (2 ∷ 9 ∷ 18 ∷ [])
  pub round_most : ¬ IsLegal king_at_four (2 ∷ 9 ∷ 18 ∷ 11 ∷ [])
  -- A man goes forward only, so it stops on 18. The two paths end on the same square but jump
  -- different men.
  pub forward_left : IsLegal man_at_four (2 ∷ 9 ∷ 18 ∷ [])
  pub forward_right : IsLegal man_at_four (2 ∷ 11 ∷ 18 ∷ [])
  pub forward_all : legal_paths man_at_four ≡ (2 ∷ 9 ∷ 18 ∷ []) ∷ (2 ∷ 11 ∷ 18 ∷ []) ∷ []
  -- A man that jumps to its farthest row is crowned, and the move ends, though a king could jump on
  -- from there.
  pub crowning_ends : IsLegal man_at_two (22 ∷ 31 ∷ [])
  pub crowning_goes_on : ¬ IsLegal man_at_two (22 ∷ 31 ∷ 24 ∷ [])
  pub crowning_all : legal_paths man_at_two ≡ (22 ∷ 31 ∷ []) ∷ []
  -- No piece is jumped twice: the man on 6 stands on the board until the move ends, and cannot be
  -- jumped again on the way back to 2.
  pub once_over : IsLegal king_at_one (2 ∷ 9 ∷ [])
  pub over_and_back : ¬ IsLegal king_at_one (2 ∷ 9 ∷ 2 ∷ [])
  -- A man does not jump backwards, of either side.
  pub black_jumps_back : ¬ IsLegal man_past_one (10 ∷ 1 ∷ [])
  pub white_jumps_back : ¬ IsLegal white_man_past_one (19 ∷ 28 ∷ [])
  -- A side that can capture must capture: after 11-15 22-18 the one legal move is 15x22, and 8-11
  -- is none.
  pub must_capture : IsLegal third_ply (15 ∷ 22 ∷ [])
  pub may_not_step : ¬ IsLegal third_ply (8 ∷ 11 ∷ [])
  pub must_capture_all : legal_paths third_ply ≡ (15 ∷ 22 ∷ []) ∷ []

-- ---- steps

pub record WorkedSteps : Type 0 where
  -- the seven first moves of a game
  pub first_moves : legal_paths start_board ≡ (9 ∷ 13 ∷ []) ∷ (9 ∷ 14 ∷ []) ∷ (10 ∷ 14 ∷ [])
      ∷ (10 ∷ 15 ∷ []) ∷ (11 ∷ 15 ∷ []) ∷ (11 ∷ 16 ∷ []) ∷ (12 ∷ 16 ∷ []) ∷ []
  pub first_move : IsLegal start_board (11 ∷ 15 ∷ [])
  -- A man steps forward only, of either side.
  pub black_steps : legal_paths man_past_one ≡ (10 ∷ 14 ∷ []) ∷ (10 ∷ 15 ∷ []) ∷ []
  pub black_steps_back : ¬ IsLegal man_past_one (10 ∷ 7 ∷ [])
  pub white_steps : legal_paths white_man_past_one ≡ (19 ∷ 15 ∷ []) ∷ (19 ∷ 16 ∷ []) ∷ []
  pub white_steps_back : ¬ IsLegal white_man_past_one (19 ∷ 23 ∷ [])
  -- A king steps one place in all four directions.
  pub king_steps : legal_paths king_alone ≡ (18 ∷ 14 ∷ []) ∷ (18 ∷ 15 ∷ []) ∷ (18 ∷ 22 ∷ [])
      ∷ (18 ∷ 23 ∷ []) ∷ []
  -- A man that is blocked has no legal path.
  pub no_steps : legal_paths man_blocked ≡ []

-- ---- what a move leaves

pub record WorkedAfter : Type 0 where
  -- Both ways round the four men leave W:W:BK2, which is the one successor.
  pub after_round : after king_at_four (2 ∷ 9 ∷ 18 ∷ 11 ∷ 2 ∷ []) ≡ men_and_kings White [] (2 ∷ [])
  pub after_round_back : after king_at_four (2 ∷ 11 ∷ 18 ∷ 9 ∷ 2 ∷ [])
      ≡ men_and_kings White [] (2 ∷ [])
  pub round_successors : successors_of king_at_four ≡ men_and_kings White [] (2 ∷ []) ∷ []
  -- The man's two paths from 2 to 18 leave W:W7,15:B18 and W:W6,14:B18, in the order of the paths.
  pub after_left : after man_at_four (2 ∷ 9 ∷ 18 ∷ []) ≡ men White (7 ∷ 15 ∷ []) (18 ∷ [])
  pub after_right : after man_at_four (2 ∷ 11 ∷ 18 ∷ []) ≡ men White (6 ∷ 14 ∷ []) (18 ∷ [])
  pub forward_successors : successors_of man_at_four ≡ men White (7 ∷ 15 ∷ []) (18 ∷ [])
      ∷ men White (6 ∷ 14 ∷ []) (18 ∷ []) ∷ []
  -- A man that ends a capture or a step on its farthest row is a king: W:W27:BK31 and W:W:BK29.
  pub after_crowning : after man_at_two (22 ∷ 31 ∷ []) ≡ men_and_kings White (27 ∷ []) (31 ∷ [])
  pub after_seventh : after man_at_seventh (25 ∷ 29 ∷ []) ≡ men_and_kings White [] (29 ∷ [])

-- ---- who wins

pub record WorkedWins : Type 0 where
  -- Black is to move and cannot: White wins in 0 plies, and Black does not win.
  pub blocked_lost : WinsIn draughts White 0 man_blocked
  pub blocked_value : HasValue draughts man_blocked WhiteWins
  pub blocked_not_won : ¬ HasValue draughts man_blocked BlackWins
  -- White steps 23-19 and has won: it wins in 1 ply, not in 0.
  pub blocking_wins : WinsIn draughts White 1 man_to_block
  pub blocking_takes_one : ¬ WinsIn draughts White 0 man_to_block
  -- The king takes all four men, and White has no piece left.
  pub round_wins : WinsIn draughts Black 1 king_at_four
  pub round_value : HasValue draughts king_at_four BlackWins
  -- Black's one step is 20-24, White takes that man with 28x19, and Black has no piece left: White
  -- wins in 2 plies.
  pub losing_step : WinsIn draughts White 2 man_to_lose

-- ---- what looking ahead shows

-- Not draughts: two players who can only pass the move to and fro. A position is whose turn it is.
abbrev pub shuttle : Game Side
shuttle =
    record { mover = λ s. s; next = λ s. other s ∷ []; pieces = λ s. 1; is_position = λ s. true }

pub record WorkedLooks : Type 0 where
  -- Decided at sight is a position without a move, and one with at most as many pieces as the
  -- tables have.
  pub blocked_at_sight : is_at_sight draughts 0 man_blocked ≡ true
  pub start_at_24 : is_at_sight draughts 24 start_board ≡ true
  pub start_at_23 : is_at_sight draughts 23 start_board ≡ false
  -- With no table, one ply ahead shows that 23-19 wins, 0 plies ahead shows nothing.
  pub blocking_shown : ShowsWin draughts 0 White 1 man_to_block
  pub blocking_unseen : ¬ ShowsWin draughts 0 White 0 man_to_block
  -- What wins at sight is held at sight.
  pub blocked_held : ShowsHold draughts 0 White 0 [] man_blocked
  -- A position that stands on the path already counts as held; the start, with nothing on the path,
  -- does not show it.
  pub start_again : ShowsHold draughts 0 White 0 (start_board ∷ []) start_board
  pub start_unseen : ¬ ShowsHold draughts 0 White 0 [] start_board
  -- Two plies ahead the position of the shuttle stands again: both sides hold, and it is a draw.
  -- One ply ahead shows nothing.
  pub shuttle_held : (s : Side) → ShowsHold shuttle 0 s 2 [] Black
  pub shuttle_unseen : ¬ ShowsHold shuttle 0 White 1 [] Black
  pub shuttle_value : HasValue shuttle Black Draw
