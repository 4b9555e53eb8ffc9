-- What is kept of the open game, call by call.
use Rattle.std.specs.Prelude.{◌≡◌, Bool, true, false, ◌||◌, ◌&&◌, not, nat_le, List, [], ◌∷◌, ◌++◌, length, Some, if◌then◌else◌}
use Rattle.archive_text.specs.declared.places.Place.{Place}
use Rattle.archive_records.specs.Weights.{weight_of}
use Rattle.archive_records.specs.declared.game.ArchiveGame.{ArchiveGame}
use Rattle.archive_records.specs.declared.game.ArchiveMove.{ArchiveMove}
use Rattle.archive_records.specs.declared.game.ArchiveTag.{ArchiveTag}
use Rattle.archive_records.specs.declared.game.FoundPosition.{FoundPosition}
use Rattle.archive_records.specs.declared.kept.Kept.{Kept}
use Rattle.archive_records.specs.declared.kept.TheConstants.{MOST_NOTES}
use Rattle.archive_records.specs.declared.notes.Note.{Note}
use Rattle.archive_records.specs.declared.notes.NoteKind.{NoteKind}
use Rattle.archive_records.specs.declared.notes.Weight.{Weight}
use Rattle.archive_records.specs.declared.notes.Weight.TheVariants.{Fault, Doubt, Change}

abbrev pub is_fault : Weight → Bool
is_fault Fault = true
is_fault Doubt = false
is_fault Change = false

-- what is known beside the open game is as it was
pub record IsBeside (old new : Kept) : Type 0 where
  pub event : new.has_event ≡ old.has_event
  pub setup : new.has_setup ≡ old.has_setup
  pub tag_result : new.tag_result ≡ old.tag_result
  pub ended : new.ended.items ≡ old.ended.items

-- the notes with one more; behind so many only faults are kept
abbrev pub notes_with : List Note → Place → NoteKind → List Note
notes_with notes place kind =
    if nat_le MOST_NOTES (length notes) && not (is_fault (weight_of kind)) then notes
    else notes ++ record { place = place; kind = kind } ∷ []

-- A note more. A fault leaves the open game out; all else of the game is as it was.
pub record IsNoted (place : Place) (kind : NoteKind) (old new : Kept) : Type 0 where
  pub notes : new.draft.notes.items ≡ notes_with old.draft.notes.items place kind
  pub left_out : new.draft.is_left_out
      ≡ (old.draft.is_left_out || (old.is_open && is_fault (weight_of kind)))
  pub game : record new.draft { notes = old.draft.notes; is_left_out = old.draft.is_left_out }
      ≡ old.draft
  pub still_open : new.is_open ≡ old.is_open
  pub beside : IsBeside old new

-- a game is open, which begins at this place if none was
pub record IsBegun (place : Place) (old new : Kept) : Type 0 where
  pub is_open : new.is_open ≡ true
  pub begins : new.draft.begins ≡ (if old.is_open then old.draft.begins else place)
  pub game : record new.draft { begins = old.draft.begins } ≡ old.draft
  pub beside : IsBeside old new

-- a tag more; all else of the game is as it was
pub record IsTagged (tag : ArchiveTag) (old new : Kept) : Type 0 where
  pub tags : new.draft.tags.items ≡ old.draft.tags.items ++ tag ∷ []
  pub game : record new.draft { tags = old.draft.tags } ≡ old.draft
  pub still_open : new.is_open ≡ old.is_open
  pub beside : IsBeside old new

-- a move more; all else of the game is as it was
pub record IsMoved (move : ArchiveMove) (old new : Kept) : Type 0 where
  pub moves : new.draft.moves.items ≡ old.draft.moves.items ++ move ∷ []
  pub game : record new.draft { moves = old.draft.moves } ≡ old.draft
  pub still_open : new.is_open ≡ old.is_open
  pub beside : IsBeside old new

-- the position is this one; all else of the game is as it was
pub record IsPlaced (position : FoundPosition) (old new : Kept) : Type 0 where
  pub placed : new.draft.position ≡ Some position
  pub game : record new.draft { position = old.draft.position } ≡ old.draft
  pub still_open : new.is_open ≡ old.is_open
  pub beside : IsBeside old new

-- the first game that has ended is taken
pub record IsTaken (game : ArchiveGame) (old new : Kept) : Type 0 where
  pub ended : old.ended.items ≡ game ∷ new.ended.items
  pub draft : new.draft ≡ old.draft

-- the notes are taken; all else of the game is as it was
pub record AreTaken (notes : List Note) (old new : Kept) : Type 0 where
  pub taken : notes ≡ old.draft.notes.items
  pub none : new.draft.notes.items ≡ []
  pub game : record new.draft { notes = old.draft.notes } ≡ old.draft
  pub still_open : new.is_open ≡ old.is_open
  pub beside : IsBeside old new
