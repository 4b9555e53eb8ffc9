-- The rules of play of English draughts (WCDF): which paths are legal moves, and what they leave.
use Rattle.std.specs.Prelude.{◌≡◌, ℕ, ◌-◌, ◌≤◌, ◌⊎◌, Bool, true, false, ◌&&◌, ◌||◌, not, IsTrue, List, [], ◌∷◌, length, filter, fold, map, AllPairs, Contains, slice_set, nat_lt, ◌==◌, if◌then◌else◌}
use Rattle.std.specs.List.{list_any}
use Rattle.std.specs.Cmp.Lexicographic.{slice_cmp}
use Rattle.std.specs.Ordering.{nat_cmp, is_lt}
use Rattle.draughts_board.specs.Geometry.{squares, row, are_near, are_jump_apart, between, is_square}
use Rattle.draughts_board.specs.Board.{Board, cell_at, other, belongs, is_empty, farthest_row, same_board}
use Rattle.draughts_board.specs.declared.pieces.Side.{Side}
use Rattle.draughts_board.specs.declared.pieces.Side.TheVariants.{Black, White}
use Rattle.draughts_board.specs.declared.pieces.Cell.{Cell}
use Rattle.draughts_board.specs.declared.pieces.Cell.TheVariants.{Empty, Man, King}

-- ---- one piece

-- Forward is towards higher rows for Black and towards lower rows for White.
abbrev pub goes_forward : Side → ℕ → ℕ → Bool
goes_forward Black x z = nat_lt (row x) (row z)
goes_forward White x z = nat_lt (row z) (row x)

-- A man steps and jumps forward only, a king in all four directions.
abbrev pub may_go : Cell → ℕ → ℕ → Bool
may_go Empty x z = false
may_go (Man s) x z = goes_forward s x z
may_go (King s) x z = true

-- the piece is a man, and z is in its farthest row: it is crowned there
abbrev pub is_crowned_on : Cell → ℕ → Bool
is_crowned_on Empty z = false
is_crowned_on (Man s) z = row z == farthest_row s
is_crowned_on (King s) z = false

abbrev pub crowned : Cell → Cell
crowned Empty = Empty
crowned (Man s) = King s
crowned (King s) = King s

-- ---- paths: the squares that a piece stands on during a move, from the first to the last

abbrev pub first_square : List ℕ → ℕ
first_square [] = 0
first_square (x ∷ rest) = x

abbrev pub last_square : List ℕ → ℕ
last_square [] = 0
last_square (x ∷ []) = x
last_square (x ∷ z ∷ rest) = last_square (z ∷ rest)

-- each two following squares of the path pass the test
abbrev pub all_following : (ℕ → ℕ → Bool) → List ℕ → Bool
all_following test [] = true
all_following test (x ∷ []) = true
all_following test (x ∷ z ∷ rest) = test x z && all_following test (z ∷ rest)

-- each square of the path but the last passes the test
abbrev pub all_but_last : (ℕ → Bool) → List ℕ → Bool
all_but_last test [] = true
all_but_last test (x ∷ []) = true
all_but_last test (x ∷ z ∷ rest) = test x && all_but_last test (z ∷ rest)

-- the squares that the path jumps over, in order: none for a step
abbrev pub jumped : List ℕ → List ℕ
jumped [] = []
jumped (x ∷ []) = []
jumped (x ∷ z ∷ rest) =
    (if are_jump_apart x z then between x z ∷ jumped (z ∷ rest) else jumped (z ∷ rest))

abbrev pub contains : List ℕ → ℕ → Bool
contains xs y = list_any (λ x. x == y) xs

abbrev pub are_distinct : List ℕ → Bool
are_distinct [] = true
are_distinct (x ∷ xs) = not (contains xs x) && are_distinct xs

-- ---- captures

-- a piece of the side to move stands on x
abbrev pub is_own : Board → ℕ → Bool
is_own p x = is_square x && belongs p.to_move (cell_at p x)

-- The piece that starts on `start` may jump from x to z: over an enemy piece, to an empty square.
-- Its starting square counts as empty during its capture (this project's choice among readings of
-- the rules).
abbrev pub is_jump : Board → ℕ → ℕ → ℕ → Bool
is_jump p start x z =
    is_square z && are_jump_apart x z && may_go (cell_at p start) x z
    && belongs (other p.to_move) (cell_at p (between x z))
    && (is_empty (cell_at p z) || z == start)

-- behind this path the capture may go on with a jump to z, over a piece not yet jumped
abbrev pub goes_on : Board → List ℕ → ℕ → Bool
goes_on p path z = is_jump p (first_square path) (last_square path) z && not
    (contains (jumped path) (between (last_square path) z))

-- where the capture may go on to behind this path, in rising order
abbrev pub further_jumps : Board → List ℕ → List ℕ
further_jumps p path = filter (goes_on p path) squares

-- A capture: jumps of one of the mover's pieces, over no piece twice. A man that reaches its
-- farthest row is crowned and the move ends there. A capture is carried on until no further jump
-- exists.
pub record IsCapture (p : Board) (path : List ℕ) : Type 0 where
  pub long : 2 ≤ length path
  pub own : IsTrue (is_own p (first_square path))
  pub jumps : IsTrue (all_following (is_jump p (first_square path)) path)
  pub once : IsTrue (are_distinct (jumped path))
  pub crowned_last : IsTrue (all_but_last (λ x. not
      (is_crowned_on (cell_at p (first_square path)) x)) path)
  pub complete : IsTrue (is_crowned_on (cell_at p (first_square path)) (last_square path))
      ⊎ (further_jumps p path ≡ [])

-- ---- steps

-- some piece of the side to move has a jump
abbrev pub has_jump : Board → Bool
has_jump p = list_any (λ x. is_own p x && list_any (is_jump p x x) squares) squares

-- the piece on x may step to z: near, empty, and forward for a man
abbrev pub is_step : Board → ℕ → ℕ → Bool
is_step p x z = is_square z && are_near x z && may_go (cell_at p x) x z && is_empty (cell_at p z)

-- A step, which is legal only where the side to move cannot capture.
pub record IsStep (p : Board) (path : List ℕ) : Type 0 where
  pub two : length path ≡ 2
  pub own : IsTrue (is_own p (first_square path))
  pub step : IsTrue (is_step p (first_square path) (last_square path))
  pub no_jump : has_jump p ≡ false

-- ---- legal moves

-- A legal move is a capture or a step.
abbrev pub IsLegal : Board → List ℕ → Type 0
IsLegal p path = IsCapture p path ⊎ IsStep p path

-- the path a stands before the path b: in lexicographic order of square numbers
abbrev pub IsBefore : List ℕ → List ℕ → Type 0
IsBefore a b = IsTrue (is_lt (slice_cmp nat_cmp a b))

-- these are the legal paths, each once, in rising order
pub record AreLegalPaths (p : Board) (paths : List (List ℕ)) : Type 0 where
  pub sound : (path : List ℕ) → Contains paths path → IsLegal p path
  pub complete : (path : List ℕ) → IsLegal p path → Contains paths path
  pub rising : AllPairs IsBefore paths

-- ---- the position after a move

abbrev pub put : List Cell → ℕ → Cell → List Cell
put cells n c = slice_set cells (n - 1) c

-- what a piece is once its move ends on z
abbrev pub at_rest : Cell → ℕ → Cell
at_rest c z = (if is_crowned_on c z then crowned c else c)

-- The piece goes from the first square to the last, the pieces jumped are taken off, a man on its
-- farthest row becomes a king, and the turn passes.
abbrev pub after : Board → List ℕ → Board
after p path =
    let lifted = put p.cells (first_square path) Empty in
    let cleared = fold (λ cells n. put cells n Empty) lifted (jumped path) in
    let piece = at_rest (cell_at p (first_square path)) (last_square path) in
    record { cells = put cleared (last_square path) piece; to_move = other p.to_move }

-- the positions, each at its first place only
abbrev pub first_places : List Board → List Board
first_places [] = []
first_places (p ∷ ps) = p ∷ filter (λ q. not (same_board p q)) (first_places ps)

-- these are the successors: the positions after the legal paths in rising order, each at its first
-- place only
abbrev pub AreSuccessors : Board → List Board → Type 0
AreSuccessors p next =
    (paths : List (List ℕ)) × (AreLegalPaths p paths × (next ≡ first_places (map (after p) paths)))
