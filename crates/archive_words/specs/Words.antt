-- Words that tell a result.
use Rattle.std.specs.Prelude.{ℕ, Bool, ◌||◌, nat_lt, List, codes, Option, Some, None, if◌then◌else◌}
use Rattle.std.specs.Char.{to_ascii_lowercase}
use Rattle.std.specs.Str.{bytes_eq}
use Rattle.draughts_board.specs.declared.pieces.Side.{Side}
use Rattle.draughts_board.specs.declared.pieces.Side.TheVariants.{Black, White}
use Rattle.archive_words.specs.declared.words.Said.{Said}
use Rattle.archive_words.specs.declared.words.Said.TheVariants as said
use Rattle.archive_words.specs.declared.words.Word.{Word}

-- the letter as it is kept: a small one, and `?` for a letter beside A to Z
abbrev pub kept_letter : ℕ → ℕ
kept_letter letter = if nat_lt letter 128 then to_ascii_lowercase letter else 63

-- the side whose letter it is, `b` or `w`
abbrev pub side_of : List ℕ → Option Side
side_of letters =
    if bytes_eq letters (codes "b") then Some Black
    else if bytes_eq letters (codes "w") then Some White
    else None

abbrev pub says_drawn : List ℕ → Bool
says_drawn word =
    bytes_eq word (codes "draw") || bytes_eq word (codes "drawn") || bytes_eq word (codes "draws")
    || bytes_eq word (codes "tie") || bytes_eq word (codes "tied") || bytes_eq word (codes "remis")

abbrev pub says_unfinished : List ℕ → Bool
says_unfinished word =
    bytes_eq word (codes "unfinished") || bytes_eq word (codes "adjourned")
    || bytes_eq word (codes "abandoned")

abbrev pub says_black : List ℕ → Bool
says_black word =
    bytes_eq word (codes "black") || bytes_eq word (codes "red") || bytes_eq word (codes "schwarz")

abbrev pub says_white : List ℕ → Bool
says_white word =
    bytes_eq word (codes "white") || bytes_eq word (codes "weiss") || bytes_eq word (codes "wei?")

abbrev pub says_wins : List ℕ → Bool
says_wins word =
    bytes_eq word (codes "win") || bytes_eq word (codes "wins") || bytes_eq word (codes "won")
    || bytes_eq word (codes "gewinnt") || bytes_eq word (codes "gewann")

abbrev pub says_loses : List ℕ → Bool
says_loses word =
    bytes_eq word (codes "lost") || bytes_eq word (codes "loses") || bytes_eq word (codes "resigns")
    || bytes_eq word (codes "resigned") || bytes_eq word (codes "verliert")

-- it stands beside words that say a result, or judges a move
abbrev pub says_nothing : List ℕ → Bool
says_nothing word =
    bytes_eq word (codes "n") || bytes_eq word (codes "by") || bytes_eq word (codes "agreed")
    || bytes_eq word (codes "agreement") || bytes_eq word (codes "game")
    || bytes_eq word (codes "result")

abbrev pub said_by : List ℕ → Said
said_by word =
    if says_drawn word then said.Drawn
    else if says_unfinished word then said.Unfinished
    else if says_black word then said.Side Black
    else if says_white word then said.Side White
    else if says_wins word then said.Wins
    else if says_loses word then said.Loses
    else if says_nothing word then said.Nothing
    else said.Other

-- a word of more letters than are kept says nothing that is known
abbrev pub said_of : Word → Said
said_of word = if word.is_long then said.Other else said_by word.letters.items
