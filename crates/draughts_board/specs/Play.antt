-- The legal paths and the successors as functions that compute. Nobody has to believe them: that
-- they are the lists of `AreLegalPaths` and `AreSuccessors` is proved.
use Rattle.std.specs.Prelude.{ℕ, zero, suc, Bool, true, false, ◌==◌, ◌||◌, ◌&&◌, not, IsTrue, List, [], ◌∷◌, ◌++◌, length, map, filter, flat_map, Option, Some, None, if◌then◌else◌}
use Rattle.draughts_board.specs.Geometry.{squares}
use Rattle.draughts_board.specs.Board.{Board, cell_at, same_board}
use Rattle.draughts_board.specs.Rules.{first_square, last_square, all_following, all_but_last, jumped, are_distinct, is_own, is_jump, is_crowned_on, further_jumps, has_jump, is_step, after, first_places}

abbrev pub is_nil : {A : Type 0} → List A → Bool
is_nil [] = true
is_nil (x ∷ xs) = false

-- a capture ends with this path
abbrev pub is_done : Board → List ℕ → Bool
is_done p path = is_crowned_on (cell_at p (first_square path)) (last_square path) || is_nil
    (further_jumps p path)

-- the path is a capture but for being complete: it may have to go on, and it may have no jump yet
pub record IsCapturePrefix (p : Board) (path : List ℕ) : Type 0 where
  pub own : IsTrue (is_own p (first_square path))
  pub jumps : IsTrue (all_following (is_jump p (first_square path)) path)
  pub once : IsTrue (are_distinct (jumped path))
  pub crowned_last : IsTrue (all_but_last (λ x. not
      (is_crowned_on (cell_at p (first_square path)) x)) path)

-- the captures that begin with the path and have at most n more jumps
unfoldable pub grown : ℕ → Board → List ℕ → List (List ℕ)
grown zero p path = path ∷ []
grown (suc n) p path =
    (if is_done p path then path ∷ [] else flat_map (λ z. grown n p (path ++ z ∷ []))
    (further_jumps p path))

-- a capture starts from x
abbrev pub starts : Board → ℕ → Bool
starts p x = is_own p x && not (is_done p (x ∷ []))

-- the captures: at most 12 jumps, for the enemy has at most 12 pieces
unfoldable pub captures : Board → List (List ℕ)
captures p = flat_map (λ x. grown 12 p (x ∷ [])) (filter (starts p) squares)

abbrev pub steps_from : Board → ℕ → List (List ℕ)
steps_from p x = flat_map (λ z. (x ∷ z ∷ []) ∷ []) (filter (is_step p x) squares)

-- the steps, whether or not a jump forbids them
unfoldable pub steps : Board → List (List ℕ)
steps p = flat_map (steps_from p) (filter (is_own p) squares)

-- the legal paths, each once, in rising order
unfoldable pub legal_paths : Board → List (List ℕ)
legal_paths p = (if has_jump p then captures p else steps p)

-- the successors, in the order of the first path that gives each
unfoldable pub successors_of : Board → List Board
successors_of p = first_places (map (after p) (legal_paths p))

-- the first of the paths that leads to the position
abbrev pub first_to : Board → Board → List (List ℕ) → Option (List ℕ)
first_to p next [] = None
first_to p next (path ∷ paths) =
    (if same_board (after p path) next then Some path else first_to p next paths)

-- ---- legality as tests

-- a path of two squares or more is a capture but for being complete, ..
abbrev pub is_capture_so_far : Board → List ℕ → Bool
is_capture_so_far p path =
    is_own p (first_square path) && all_following
    (is_jump p (first_square path)) path && are_distinct (jumped path)
    && all_but_last (λ x. not (is_crowned_on (cell_at p (first_square path)) x)) path

-- .. and is a capture
abbrev pub is_capture : Board → List ℕ → Bool
is_capture p path = is_capture_so_far p path && is_done p path

-- a path is a step that no jump forbids
abbrev pub is_lone_step : Board → List ℕ → Bool
is_lone_step p path =
    length path == 2 && is_own p (first_square path) && is_step p (first_square path)
    (last_square path) && not (has_jump p)
