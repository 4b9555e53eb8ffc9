-- The lists of numbers of games. Nobody has to believe these definitions: what a look-up gives is proved.
use Rattle.std.specs.Prelude.{◌≡◌, ℕ, List, [], Option, Some, None, Vec, length, position, slice_get}
use Rattle.draughts_board.specs.Board.{Board, same_board}
use Rattle.position_rows.specs.Rows.{positions_of}

-- the numbers of a list; none where there is no list
abbrev pub items_of : {A : Type 0} → Option (Vec ℕ A) → List ℕ
items_of None = []
items_of (Some v) = v.items

-- the list at this place, counted from 0; an empty one past the end
abbrev pub items_at : {A : Type 0} → List (Vec ℕ A) → ℕ → List ℕ
items_at lists k = items_of (slice_get lists k)

abbrev pub items_in : {A : Type 0} → List (Vec ℕ A) → Option ℕ → List ℕ
items_in lists None = []
items_in lists (Some k) = items_at lists k

-- the list of the row of a position
abbrev pub numbers_at : {A E : Type 0} → List (Board × E) → List (Vec ℕ A) → Board → List ℕ
numbers_at rows lists p = items_in lists (position (same_board p) (positions_of rows))

-- each row has its list
abbrev pub HaveLists : {A E : Type 0} → List (Board × E) → List (Vec ℕ A) → Type 0
HaveLists rows lists = length lists ≡ length rows
