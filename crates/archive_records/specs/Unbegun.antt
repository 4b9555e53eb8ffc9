-- A game that has not begun.
use Rattle.std.specs.Prelude.{◌≡◌, [], false, None}
use Rattle.archive_records.specs.declared.game.ArchiveGame.{ArchiveGame}
use Rattle.archive_records.specs.declared.kept.Kept.{Kept}

-- nothing is known of the game, and it is not left out
pub record IsBare (game : ArchiveGame) : Type 0 where
  pub tags : game.tags.items ≡ []
  pub position : game.position ≡ None
  pub moves : game.moves.items ≡ []
  pub outcome : game.result ≡ None
  pub notes : game.notes.items ≡ []
  pub written : game.is_left_out ≡ false

-- the next game has not begun, and has nothing of the one before: neither its position nor its fault
pub record IsUnbegun (kept : Kept) : Type 0 where
  pub closed : kept.is_open ≡ false
  pub no_event : kept.has_event ≡ false
  pub no_setup : kept.has_setup ≡ false
  pub no_result : kept.tag_result ≡ None
  pub bare : IsBare kept.draft
