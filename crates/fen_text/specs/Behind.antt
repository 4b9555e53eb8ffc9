-- What stands behind the front of a text.
use Rattle.std.specs.Prelude.{ℕ, ◌==◌, List, [], ◌∷◌, ◌++◌, Option, Some, None, Bool, false, if◌then◌else◌}
use Rattle.draughts_board.specs.Board.{Board, cell_at}
use Rattle.fen_text.specs.Printed.{next_text, printed_item}

-- what stands behind the front, where the text begins with it
abbrev pub behind : List ℕ → List ℕ → Option (List ℕ)
behind [] text = Some text
behind (due ∷ front) [] = None
behind (due ∷ front) (b ∷ text) = (if b == due then behind front text else None)

-- The items of these squares, one behind the other; the first of them may be the first of its list.
abbrev pub items_text : Board → Bool → List ℕ → List ℕ
items_text p is_first [] = []
items_text p is_first (n ∷ squares) =
    next_text is_first (printed_item n (cell_at p n)) ++ items_text p false squares
