-- What is told of an archive, line by line.
use Rattle.std.specs.Prelude.{◌≡◌, ℕ, List, ◌++◌, codes, decimal, find, take, Option, Some, None}
use Rattle.std.specs.Str.{bytes_eq}
use Rattle.archive_records.specs.Weights.{weight_of}
use Rattle.archive_records.specs.declared.game.ArchiveGame.{ArchiveGame}
use Rattle.archive_records.specs.declared.game.ArchiveTag.{ArchiveTag}
use Rattle.archive_records.specs.declared.notes.Note.{Note}
use Rattle.archive_records.specs.declared.notes.Weight.{Weight}
use Rattle.archive_records.specs.declared.notes.Weight.TheVariants.{Fault, Doubt, Change}
use Rattle.terminal_text.specs.Shown.{quoted}
use Rattle.game_reader.specs.declared.telling.Counts.{Counts}
use Rattle.game_reader.specs.declared.telling.TheConstants.{MOST_SHOWN}

-- the word for what becomes of a game
abbrev pub word_of : Weight → List ℕ
word_of Fault = codes ": left out: "
word_of Doubt = codes ": doubtful: "
word_of Change = codes ": changed: "

-- the first tag of this name, if the game has one
abbrev pub tag_named : ArchiveGame → List ℕ → Option ArchiveTag
tag_named game name = find (λ tag. bytes_eq tag.name.items name) game.tags.items

-- the first bytes of the value of a tag, as a terminal is given them; `?` if there is none
abbrev pub shown_value : Option ArchiveTag → List ℕ
shown_value None = quoted (codes "?")
shown_value (Some tag) = quoted (take MOST_SHOWN tag.value.items)

abbrev pub value_text : ArchiveGame → List ℕ → List ℕ
value_text game name = shown_value (tag_named game name)

-- which game it is: `, game 3 (Club, Ann - Bob)`
abbrev pub game_text : ArchiveGame → List ℕ
game_text game =
    codes ", game " ++ (decimal game.number ++ (codes " (" ++ (value_text game (codes "Event")
    ++ (codes ", " ++ (value_text game (codes "Black") ++ (codes " - "
    ++ (value_text game (codes "White") ++ codes ")")))))))

-- the same, if it is one
abbrev pub text_of_game : Option ArchiveGame → List ℕ
text_of_game None = codes ""
text_of_game (Some game) = game_text game

-- the front of a note's line: its place, which game it is, if it is one, and what becomes of it
abbrev pub note_front : List ℕ → Note → List ℕ
note_front of_game note =
    codes "line " ++ (decimal note.place.line ++ (codes ", column " ++ (decimal note.place.column
    ++ (of_game ++ word_of (weight_of note.kind)))))

-- the line of a note: that front, and words
abbrev pub IsNoteLine : List ℕ → Note → List ℕ → Type 0
IsNoteLine of_game note line =
    (words : List ℕ) × (line ≡ note_front of_game note ++ (words ++ codes "\n"))

-- the line that counts
abbrev pub counts_text : Counts → List ℕ
counts_text counts =
    codes "games " ++ (decimal counts.games ++ (codes " left-out " ++ (decimal counts.left_out
    ++ (codes " faults " ++ (decimal counts.faults ++ (codes " doubts " ++ (decimal counts.doubts
    ++ (codes " changes " ++ (decimal counts.changes ++ codes "\n")))))))))

-- that there are more games than `solve` reads of one source
abbrev pub parts_text : ℕ → List ℕ
parts_text games =
    decimal games
    ++ (codes " games are written: solve reads 4096 of one source; "
    ++ codes "give it the parts that --part 1, --part 2 and so on write\n")
