-- What every draft keeps.
use Rattle.std.specs.Prelude.{◌≡◌, ℕ, List, Option, Some}
use Rattle.draughts_board.specs.Board.{Board}
use Rattle.pdn_text.specs.declared.game.Tag.{Tag}
use Rattle.strict_games.specs.Drafts.{begins, led_to}
use Rattle.strict_games.specs.Tags.{AreTaken}

-- its tags were taken, and its moves lead from where it begins to where it stands
pub record IsDraft (set_up : Option Board) (tags : List Tag) (moves : List (List ℕ)) (here : Board) : Type 0 where
  pub taken : AreTaken tags
  pub led : led_to (Some (begins set_up)) moves ≡ Some here
