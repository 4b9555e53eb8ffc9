-- The 32 dark squares: numbered 1 to 32 row by row, from Black's side of the board to White's.
use Rattle.std.specs.Prelude.{ℕ, ◌+◌, ◌-◌, ◌*◌, ◌/◌, ◌%◌, ◌≤◌, Bool, ◌&&◌, List, [], ◌∷◌, nat_le, ◌==◌, if◌then◌else◌}

abbrev pub IsSquare : ℕ → Type 0
IsSquare n = (1 ≤ n) × (n ≤ 32)

abbrev pub is_square : ℕ → Bool
is_square n = nat_le 1 n && nat_le n 32

-- all squares, in rising order
unfoldable pub squares : List ℕ
squares = 1 ∷ 2 ∷ 3 ∷ 4 ∷ 5 ∷ 6 ∷ 7 ∷ 8 ∷ 9 ∷ 10 ∷ 11 ∷ 12 ∷ 13 ∷ 14 ∷ 15 ∷ 16 ∷ 17 ∷ 18 ∷ 19 ∷ 20
    ∷ 21 ∷ 22 ∷ 23 ∷ 24 ∷ 25 ∷ 26 ∷ 27 ∷ 28 ∷ 29 ∷ 30 ∷ 31 ∷ 32 ∷ []

-- the row of a square, 0 (squares 1 to 4, Black's first) to 7 (squares 29 to 32, White's first)
abbrev pub row : ℕ → ℕ
row n = (n - 1) / 4

-- the column of a square, 0 to 7: dark squares lie in odd columns in even rows, and in even columns
-- in odd rows
abbrev pub column : ℕ → ℕ
column n = (if row n % 2 == 0 then 2 * ((n - 1) % 4) + 1 else 2 * ((n - 1) % 4))

-- how far two rows or two columns lie apart
abbrev pub distance : ℕ → ℕ → ℕ
distance a b = (a - b) + (b - a)

-- x and z are near: rows and columns each differ by one
abbrev pub are_near : ℕ → ℕ → Bool
are_near x z = distance (row x) (row z) == 1 && distance (column x) (column z) == 1

-- x and z are a jump apart: rows and columns each differ by two
abbrev pub are_jump_apart : ℕ → ℕ → Bool
are_jump_apart x z = distance (row x) (row z) == 2 && distance (column x) (column z) == 2

-- the dark square in a row and a column
abbrev pub square_at : ℕ → ℕ → ℕ
square_at r c = 4 * r + c / 2 + 1

-- the square between two that are a jump apart: its row and its column are the means of theirs
abbrev pub between : ℕ → ℕ → ℕ
between x z = square_at ((row x + row z) / 2) ((column x + column z) / 2)
