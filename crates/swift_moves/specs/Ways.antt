-- The four ways on the board. Only the proofs meet them: what a step or a jump is stands in the
-- rules.
use Rattle.std.specs.Prelude.{ℕ, ◌+◌, ◌-◌, ◌%◌, Bool, ◌&&◌, ◌==◌, List, [], ◌∷◌, if◌then◌else◌}
use Rattle.draughts_board.specs.Geometry.{is_square, row}
use Rattle.draughts_board.specs.declared.pieces.Side.{Side}
use Rattle.draughts_board.specs.declared.pieces.Side.TheVariants.{Black, White}
use Rattle.draughts_board.specs.declared.pieces.Cell.{Cell}
use Rattle.draughts_board.specs.declared.pieces.Cell.TheVariants.{Empty, Man, King}
use Rattle.swift_moves.specs.declared.ways.Way.{Way}
use Rattle.swift_moves.specs.declared.ways.Way.TheVariants.{UpLeft, UpRight, DownLeft, DownRight}

-- the square next to x that way (left is towards lower columns, up towards lower rows); 0 where
-- there is none
unfoldable pub next : Way → ℕ → ℕ
next UpLeft x = (if row x % 2 == 0 then x - 4 else (if x % 4 == 1 then 0 else x - 5))
next UpRight x = (if row x % 2 == 0 then (if x % 4 == 0 then 0 else x - 3) else x - 4)
next DownLeft x = (if row x % 2 == 0 then x + 4 else (if x % 4 == 1 then 0 else x + 3))
next DownRight x = (if row x % 2 == 0 then (if x % 4 == 0 then 0 else x + 5) else x + 4)

-- all four, in the rising order of where a step or a jump that way ends
abbrev pub ways : List Way
ways = UpLeft ∷ UpRight ∷ DownLeft ∷ DownRight ∷ []

-- the next square that way is one, and passes
abbrev pub next_is : Way → (ℕ → Bool) → ℕ → Bool
next_is w test x = is_square (next w x) && test (next w x)

abbrev pub opposite : Way → Way
opposite UpLeft = DownRight
opposite UpRight = DownLeft
opposite DownLeft = UpRight
opposite DownRight = UpLeft

-- of two things, that of the ways in which the side's men go
abbrev pub forward : {A : Type 0} → Side → A → A → A
forward Black up down = down
forward White up down = up

-- of four masks, that of the way
abbrev pub of_way : ℕ → ℕ → ℕ → ℕ → Way → ℕ
of_way a b c d UpLeft = a
of_way a b c d UpRight = b
of_way a b c d DownLeft = c
of_way a b c d DownRight = d

-- the ways that a piece goes, in the rising order of where they end
abbrev pub ways_of : Cell → List Way
ways_of Empty = []
ways_of (Man Black) = DownLeft ∷ DownRight ∷ []
ways_of (Man White) = UpLeft ∷ UpRight ∷ []
ways_of (King s) = ways
