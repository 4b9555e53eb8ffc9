-- Results, as they are written and compared.
use Rattle.std.specs.Prelude.{ℕ, Bool, true, false, ◌||◌, List, codes, Option, Some, None, if◌then◌else◌}
use Rattle.std.specs.Str.{bytes_eq}
use Rattle.archive_words.specs.declared.outcome.Outcome.{Outcome}
use Rattle.archive_words.specs.declared.outcome.Outcome.TheVariants.{FirstWins, SecondWins, Draw, BlackWins, WhiteWins, Unfinished}

-- a result as the strict profile writes it; `*` where words name the side
abbrev pub written : Outcome → List ℕ
written FirstWins = codes "1-0"
written SecondWins = codes "0-1"
written Draw = codes "1/2-1/2"
written BlackWins = codes "*"
written WhiteWins = codes "*"
written Unfinished = codes "*"

-- the game is finished, and its result is written in digits
abbrev pub is_in_digits : Outcome → Bool
is_in_digits FirstWins = true
is_in_digits SecondWins = true
is_in_digits Draw = true
is_in_digits BlackWins = false
is_in_digits WhiteWins = false
is_in_digits Unfinished = false

-- two results are one
abbrev pub is_same : Outcome → Outcome → Bool
is_same FirstWins FirstWins = true
is_same SecondWins SecondWins = true
is_same Draw Draw = true
is_same BlackWins BlackWins = true
is_same WhiteWins WhiteWins = true
is_same Unfinished Unfinished = true
is_same first second = false

-- the result that a tag names in digits
abbrev pub outcome_of_tag : List ℕ → Option Outcome
outcome_of_tag value =
    if bytes_eq value (codes "1-0") || bytes_eq value (codes "2-0") then Some FirstWins
    else if bytes_eq value (codes "0-1") || bytes_eq value (codes "0-2") then Some SecondWins
    else if bytes_eq value (codes "1/2-1/2") || bytes_eq value (codes "1-1")
    || bytes_eq value (codes "1/2") then Some Draw
    else if bytes_eq value (codes "*") || bytes_eq value (codes "0-0") then Some Unfinished
    else None
