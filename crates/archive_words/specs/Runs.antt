-- What a run of numbers is read as.
use Rattle.std.specs.Prelude.{◌≡◌, ℕ, Bool, ◌||◌, ◌&&◌, ◌==◌, not, nat_le, List, [], ◌∷◌, length, slice_index, Option, Some, None, true, false, if◌then◌else◌}
use Rattle.std.specs.List.{list_all}
use Rattle.std.specs.Str.{bytes_eq}
use Rattle.archive_words.specs.declared.outcome.Outcome.{Outcome}
use Rattle.archive_words.specs.declared.outcome.Outcome.TheVariants as outcome
use Rattle.archive_words.specs.declared.runs.Join.{Join}
use Rattle.archive_words.specs.declared.runs.Join.TheVariants.{Dash, Cross, Colon, Slash}
use Rattle.archive_words.specs.declared.runs.Run.{Run}
use Rattle.archive_words.specs.declared.runs.Meaning.{Meaning}
use Rattle.archive_words.specs.declared.runs.Meaning.TheVariants.{Nothing, Number, Move, Result, Clock, Half, Bad}

-- If it is a move, the squares of the move are the numbers.
abbrev pub IsOver : List ℕ → Meaning → Type 0
IsOver numbers (Move squares) = squares ≡ numbers
IsOver numbers Nothing = Unit {0}
IsOver numbers (Number number) = Unit {0}
IsOver numbers (Result outcome) = Unit {0}
IsOver numbers Clock = Unit {0}
IsOver numbers Half = Unit {0}
IsOver numbers Bad = Unit {0}

-- no number was read, and no sign
pub record IsNew (run : Run) : Type 0 where
  pub numbers : run.numbers.items ≡ []
  pub closed : run.is_open ≡ false
  pub short : run.is_long ≡ false
  pub no_slash : run.has_slash ≡ false
  pub clock : run.is_clock ≡ true

-- A sign behind the last number: a run with a sign other than a colon is no time.
abbrev pub joined_by : Join → Run → Run
joined_by Dash run = record run { is_open = true; is_clock = false }
joined_by Cross run = record run { is_open = true; is_clock = false }
joined_by Colon run = record run { is_open = true }
joined_by Slash run = record run { is_open = true; has_slash = true; is_clock = false }

-- the number that stands in it alone, if one does
abbrev pub lone_of : Run → Option ℕ
lone_of run =
    if length run.numbers.items == 1 && not run.is_open then Some (slice_index run.numbers.items 0)
    else None

abbrev pub is_square : ℕ → Bool
is_square number = nat_le 1 number && nat_le number 32

-- two to thirteen squares
abbrev pub is_path : List ℕ → Bool
is_path numbers =
    nat_le 2 (length numbers) && nat_le (length numbers) 13 && list_all is_square numbers

abbrev pub path_of : List ℕ → Option (List ℕ)
path_of numbers = if is_path numbers then Some numbers else None

-- the result that a score in two numbers is
abbrev pub outcome_of_score : ℕ → ℕ → Option Outcome
outcome_of_score first second =
    if (first == 1 || first == 2) && second == 0 then Some outcome.FirstWins
    else if first == 0 && (second == 1 || second == 2) then Some outcome.SecondWins
    else if first == 1 && second == 1 then Some outcome.Draw
    else if first == 0 && second == 0 then Some outcome.Unfinished
    else None

abbrev pub score_of : List ℕ → Option Outcome
score_of numbers =
    if length numbers == 2 then outcome_of_score (slice_index numbers 0) (slice_index numbers 1)
    else None

-- `1/2` and `1/2-1/2`
abbrev pub is_half : List ℕ → Bool
is_half numbers = bytes_eq numbers (1 ∷ 2 ∷ []) || bytes_eq numbers (1 ∷ 2 ∷ 1 ∷ 2 ∷ [])

-- a move if the numbers are its squares, else a time if each sign is a colon
abbrev pub path_meant : Option (List ℕ) → Bool → Meaning
path_meant (Some squares) is_clock = Move squares
path_meant None true = Clock
path_meant None false = Bad

abbrev pub score_meant : Option Outcome → Run → Meaning
score_meant (Some score) run = Result score
score_meant None run = path_meant (path_of run.numbers.items) run.is_clock

-- two numbers or more
abbrev pub joined_meaning : Run → Meaning
joined_meaning run =
    if run.has_slash then (if is_half run.numbers.items then Result outcome.Draw else Clock)
    else score_meant (score_of run.numbers.items) run

abbrev pub meaning_of : Run → Meaning
meaning_of run =
    if length run.numbers.items == 0 then Nothing
    else if length run.numbers.items == 1 && (not run.is_open || run.is_clock)
    then Number (slice_index run.numbers.items 0)
    else if run.is_open then Half
    else if run.is_long then Bad
    else joined_meaning run
