-- How tags, moves, numbers and results are printed.
use Rattle.std.specs.Prelude.{ℕ, ◌+◌, ◌/◌, ◌%◌, ◌==◌, ◌||◌, Bool, List, [], ◌∷◌, ◌++◌, codes, decimal, nat_lt, if◌then◌else◌}
use Rattle.std.specs.List.{flat_map}
use Rattle.draughts_board.specs.Geometry.{are_near}
use Rattle.strict_games.specs.declared.printing.Score.{Score}
use Rattle.strict_games.specs.declared.printing.Score.TheVariants.{OneNil, NilOne, Halves, TwoNil, NilTwo, OneAll, NilAll, Unknown}

-- the number of a square
abbrev pub square_text : ℕ → List ℕ
square_text n = if nat_lt n 10 then (48 + n) ∷ [] else (48 + n / 10) ∷ (48 + n % 10) ∷ []

-- further squares, each behind a separator
abbrev pub squares_text : ℕ → List ℕ → List ℕ
squares_text separator squares = flat_map (λ n. separator ∷ square_text n) squares

-- `-` between two squares that are near, `x` between all others
abbrev pub separator_of : List ℕ → ℕ
separator_of [] = 120
separator_of (x ∷ []) = 120
separator_of (x ∷ z ∷ []) = if are_near x z then 45 else 120
separator_of (x ∷ z ∷ w ∷ more) = 120

-- a move
abbrev pub move_text : List ℕ → List ℕ
move_text [] = []
move_text (x ∷ more) = square_text x ++ squares_text (separator_of (x ∷ more)) more

-- the number of a move, with a dot, or with three before a move of White
abbrev pub number_text : ℕ → Bool → List ℕ
number_text number is_white =
    decimal number ++ (if is_white then 46 ∷ 46 ∷ 46 ∷ [] else 46 ∷ [])

-- a byte of a value, with `\` before `"` and `\`
abbrev pub escaped : ℕ → List ℕ
escaped b = if b == 34 || b == 92 then 92 ∷ b ∷ [] else b ∷ []

-- a tag with this name and this value
abbrev pub tag_text : List ℕ → List ℕ → List ℕ
tag_text name value = 91 ∷ name ++ 32 ∷ 34 ∷ flat_map escaped value ++ 34 ∷ 93 ∷ []

-- the word of a result
abbrev pub score_text : Score → List ℕ
score_text OneNil = codes "1-0"
score_text NilOne = codes "0-1"
score_text Halves = codes "1/2-1/2"
score_text TwoNil = codes "2-0"
score_text NilTwo = codes "0-2"
score_text OneAll = codes "1-1"
score_text NilAll = codes "0-0"
score_text Unknown = codes "*"
