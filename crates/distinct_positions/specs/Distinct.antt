-- Positions that stand once each.
use Rattle.std.specs.Prelude.{List, [], ◌∷◌, ◌++◌, if◌then◌else◌}
use Rattle.std.specs.List.{list_any}
use Rattle.draughts_board.specs.Board.{Board, same_board}

-- these positions with one more behind them, unless it stands there
abbrev pub with_position : List Board → Board → List Board
with_position ps p = (if list_any (same_board p) ps then ps else ps ++ p ∷ [])
