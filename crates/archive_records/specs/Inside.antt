-- Places within a source: of one of its bytes, or of its end.
use Rattle.std.specs.Prelude.{ℕ, ◌≤◌, All, option_to_list}
use Rattle.archive_records.specs.declared.game.ArchiveGame.{ArchiveGame}

-- each place of a game, and of what is told of it, is within the bytes fed
pub record IsGameWithin (bytes : ℕ) (game : ArchiveGame) : Type 0 where
  pub begins : game.begins.byte ≤ bytes
  pub tags : All (λ tag. tag.place.byte ≤ bytes) game.tags.items
  pub position : All (λ position. position.place.byte ≤ bytes) (option_to_list game.position)
  pub moves : All (λ move. move.place.byte ≤ bytes) game.moves.items
  pub outcome : All (λ found. found.place.byte ≤ bytes) (option_to_list game.result)
  pub notes : All (λ note. note.place.byte ≤ bytes) game.notes.items
