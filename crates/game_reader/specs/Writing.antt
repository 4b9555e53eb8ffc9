-- What the commands write.
use Rattle.std.specs.Prelude.{◌≡◌, ℕ, false, List, [], ◌∷◌, Option}
use Rattle.std.specs.Io.KnownBytes.{Appends}
use Rattle.draughts_board.specs.Board.{Board}
use Rattle.pdn_openings.specs.Beginning.{is_other_game, BeginsFrom}
use Rattle.pdn_openings.specs.Playing.{LeadTo}
use Rattle.pdn_text.specs.declared.game.Game.{Game}
use Rattle.strict_games.specs.GameTexts.{AreGameTexts, IsGameText, joined}

-- a game of English draughts whose moves are legal, one after another, from where it begins
pub record IsLegalGame (game : Game) : Type 0 where
  pub english : is_other_game game ≡ false
  pub start : Board
  pub begins : BeginsFrom game start
  pub last : Board
  pub led : LeadTo start game.moves last

abbrev pub AreLegalGames : List Game → Type 0
AreLegalGames [] = Unit {0}
AreLegalGames (game ∷ games) = IsLegalGame game × AreLegalGames games

-- the text of one legal game
abbrev pub IsOneText : List ℕ → Type 0
IsOneText text = (game : Game) × (IsGameText text game × IsLegalGame game)

-- What a sink has taken grows by texts of legal games, one behind the other and nothing else.
pub record WritesGames (old new : Option (List ℕ)) : Type 0 where
  pub texts : List (List ℕ)
  pub games : List Game
  pub are_texts : AreGameTexts texts games
  pub are_legal : AreLegalGames games
  pub taken : Appends old new (joined texts)
