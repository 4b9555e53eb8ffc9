-- What a game of an archive is played as.
use Rattle.std.specs.Prelude.{◌≡◌, ◌≤◌, ℕ, All, List, map, take, Option, Some, None}
use Rattle.archive_records.specs.declared.game.ArchiveGame.{ArchiveGame}
use Rattle.archive_records.specs.declared.game.ArchiveMove.{ArchiveMove}
use Rattle.archive_records.specs.declared.game.FoundPosition.{FoundPosition}
use Rattle.archive_records.specs.declared.notes.Note.{Note}
use Rattle.archive_records.specs.Inside.{IsGameWithin}
use Rattle.draughts_board.specs.Board.{Board}
use Rattle.fen_text.specs.Spelled.{Spells}
use Rattle.game_reader.specs.declared.drafting.DraftOutcome.{DraftOutcome}
use Rattle.game_reader.specs.declared.drafting.DraftOutcome.TheVariants.{Whole, LeftOut}
use Rattle.strict_games.specs.Drafts.{begins, led_to}
use Rattle.strict_games.specs.Drafts as drafts

-- the squares of a move, as the archive has them
abbrev pub squares_of : ArchiveMove → List ℕ
squares_of written = written.squares

-- the position of its own that a game begins from is the one that its FEN spells, if it has one
abbrev pub BeginsAs : Option FoundPosition → Option Board → Type 0
BeginsAs None set_up = set_up ≡ None
BeginsAs (Some found) set_up = (p : Board) × ((set_up ≡ Some p) × Spells found.fen.items p)

-- The draft begins where the archive says that the game begins, and stands where the game's first
-- `plies` moves lead, as the archive has them.
pub record IsPlayed (plies : ℕ) (game : ArchiveGame) (draft : drafts.Drafted) : Type 0 where
  pub begins_as : BeginsAs game.position draft.set_up
  pub led : led_to (Some (begins draft.set_up)) (map squares_of (take plies game.moves.items))
      ≡ Some draft.here

-- the note stands within each source in which the game does
abbrev pub IsNoteIn : ArchiveGame → Note → Type 0
IsNoteIn game note = (bytes : ℕ) → IsGameWithin bytes game → note.place.byte ≤ bytes

-- the note stands within each source in which the moves do
abbrev pub IsNoteAmong : List ArchiveMove → Note → Type 0
IsNoteAmong moves note =
    (bytes : ℕ) → All (λ move. move.place.byte ≤ bytes) moves → note.place.byte ≤ bytes

-- the game has no place beyond a source beyond which it had none
abbrev pub StaysWithin : ArchiveGame → ArchiveGame → Type 0
StaysWithin old new = (bytes : ℕ) → IsGameWithin bytes old → IsGameWithin bytes new

-- A game that is left out has a note that says why, at a place of the game.
abbrev pub IsDraftedAs : ℕ → ArchiveGame → DraftOutcome → Type 0
IsDraftedAs plies game (Whole draft) = IsPlayed plies game draft
IsDraftedAs plies game (LeftOut note) = IsNoteIn game note
