-- Words: results, move numbers and moves.
use Rattle.std.specs.Prelude.{◌≡◌, ℕ, ◌+◌, ◌-◌, ◌*◌, List, [], ◌∷◌, Bool, true, false, not, ◌&&◌, ◌||◌, ◌==◌, nat_le, if◌then◌else◌, length, map, Option, Some, None, codes}
use Rattle.std.specs.List.{list_all, slice_split}
use Rattle.std.specs.Str.{bytes_eq}
use Rattle.draughts_board.specs.Geometry.{is_square}
use Rattle.std.specs.Char.{is_ascii_digit}
use Rattle.pdn_text.specs.declared.words.Word.{Word}
use Rattle.pdn_text.specs.declared.words.Word.TheVariants.{Result, Number, Move, Bad}

-- the results with digits
abbrev pub is_result : List ℕ → Bool
is_result word =
    bytes_eq word (codes "1-0") || bytes_eq word (codes "0-1") || bytes_eq word (codes "1/2-1/2")
    || bytes_eq word (codes "2-0")
    || bytes_eq word (codes "0-2") || bytes_eq word (codes "1-1") || bytes_eq word (codes "0-0")

-- digits alone
abbrev pub is_number : List ℕ → Bool
is_number word = list_all is_ascii_digit word

-- what one or two digits stand for; 0 for any other number of them
abbrev pub number : List ℕ → ℕ
number [] = 0
number (b ∷ []) = b - 48
number (b ∷ c ∷ []) = 10 * (b - 48) + (c - 48)
number (b ∷ c ∷ d ∷ more) = 0

-- the digits between the separators
abbrev pub fields : List ℕ → List (List ℕ)
fields word = slice_split (λ b. not (is_ascii_digit b)) word

-- each separator is `x`
abbrev pub is_crossed : List ℕ → Bool
is_crossed word = list_all (λ b. is_ascii_digit b || b == 120) word

-- each separator is `-`
abbrev pub is_dashed : List ℕ → Bool
is_dashed word = list_all (λ b. is_ascii_digit b || b == 45) word

-- the squares between the separators, where they are squares, two to thirteen of them
unfoldable pub path_of : List ℕ → Option (List ℕ)
path_of word =
    let squares = map number (fields word) in
    if list_all is_square squares && nat_le 2 (length squares) && nat_le (length squares) 13
    then Some squares else None

-- two to thirteen squares with `x` between each two, or two squares with `-` between
abbrev pub separated : List ℕ → Option (List ℕ) → Option (List ℕ)
separated word None = None
separated word (Some squares) =
    if is_crossed word || (length squares == 2 && is_dashed word) then Some squares else None

unfoldable pub move_of : List ℕ → Option (List ℕ)
move_of word = separated word (path_of word)

abbrev pub move_or_bad : Option (List ℕ) → Word
move_or_bad (Some squares) = Move squares
move_or_bad None = Bad

-- A word is these two numbers with one separator between, so it is no number.
pub record IsPair (word : List ℕ) (first last : ℕ) : Type 0 where
  pub squares : map number (fields word) ≡ first ∷ last ∷ []
  pub no_number : is_number word ≡ false
  pub one_separator : (is_crossed word || is_dashed word) ≡ true

-- what a word of these two numbers is
abbrev pub pair_word : ℕ → ℕ → Word
pair_word first last =
    if is_square first && is_square last then Move (first ∷ last ∷ []) else Bad

-- what a word is: the first that fits of a result, a move number and a move
unfoldable pub word_of : List ℕ → Word
word_of word =
    if is_result word then Result
    else if is_number word then Number
    else move_or_bad (move_of word)
