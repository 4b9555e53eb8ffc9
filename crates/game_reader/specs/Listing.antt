-- What `check` writes: lines of notes, each at a place of the source.
use Rattle.std.specs.Prelude.{◌≡◌, ◌≤◌, ℕ, All, List, ◌++◌, length, Option}
use Rattle.std.specs.Io.KnownBytes.{Appends, Consumes}
use Rattle.std.specs.List.{flat_map}
use Rattle.archive_records.specs.declared.game.ArchiveGame.{ArchiveGame}
use Rattle.archive_records.specs.declared.notes.Note.{Note}
use Rattle.game_reader.specs.Telling.{IsNoteLine, counts_text, text_of_game}
use Rattle.game_reader.specs.declared.telling.Counts.{Counts}

-- the line of a note at one of these bytes, or at their end
pub record IsLineWithin (bytes : ℕ) (line : List ℕ) : Type 0 where
  pub game : Option ArchiveGame
  pub note : Note
  pub within : note.place.byte ≤ bytes
  pub is_line : IsNoteLine (text_of_game game) note line

-- the text says which game it is, or is empty
abbrev pub SaysGame : List ℕ → Type 0
SaysGame text = (game : Option ArchiveGame) × (text ≡ text_of_game game)

-- such lines, one behind the other
pub record TellsWithin (bytes : ℕ) (text : List ℕ) : Type 0 where
  pub lines : List (List ℕ)
  pub each : All (IsLineWithin bytes) lines
  pub joined : text ≡ flat_map (λ line. line) lines

-- a text of such lines stays one wherever the note stands within the bytes
abbrev pub StillTells : Note → List ℕ → List ℕ → Type 0
StillTells note old new =
    (bytes : ℕ) → note.place.byte ≤ bytes → TellsWithin bytes old → TellsWithin bytes new

-- The source lost its bytes up to some place, and the sink took lines of notes within these bytes,
-- and behind them the line that counts.
pub record Lists (left rest taken now : Option (List ℕ)) (counts : Counts) : Type 0 where
  pub bytes : List ℕ
  pub read : Consumes left rest bytes
  pub text : List ℕ
  pub told : TellsWithin (length bytes) text
  pub written : Appends taken now (text ++ counts_text counts)
