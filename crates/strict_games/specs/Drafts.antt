-- A game that is being written, and what its text is read as.
use Rattle.std.specs.Prelude.{◌≡◌, ℕ, false, List, [], ◌∷◌, map, codes, Option, Some, None, unwrap_or, Result, Ok, Err}
use Rattle.draughts_board.specs.Board.{Board, start_board}
use Rattle.draughts_board.specs.Rules.{after}
use Rattle.draughts_board.specs.declared.resolution.ResolveRefusal.{ResolveRefusal}
use Rattle.pdn_openings.specs.Beginning.{is_other_game, BeginsFrom}
use Rattle.pdn_openings.specs.Playing.{LeadTo, meaning_of}
use Rattle.pdn_text.specs.declared.game.Game.{Game}
use Rattle.pdn_text.specs.declared.game.MoveText.{MoveText}
use Rattle.pdn_text.specs.declared.game.Tag.{Tag}
use Rattle.strict_games.specs.GameTexts.{IsGameText}

-- the position of its own that the game begins from, if it has one; its tags beside that position;
-- its moves, as they are written; and the position that they lead to
pub record Drafted : Type 0 where
  pub set_up : Option Board
  pub tags : List Tag
  pub moves : List (List ℕ)
  pub here : Board

-- where it begins: the start of a game, unless it has a position of its own
abbrev pub begins : Option Board → Board
begins set_up = unwrap_or set_up start_board

-- ---- where written moves lead

-- a move with these squares, at no place of a text
abbrev pub unplaced : List ℕ → MoveText
unplaced squares = record { at = 0; end = 0; squares = squares }

-- the position after a legal path, where there is one
abbrev pub behind : Board → Result (List ℕ) ResolveRefusal → Option Board
behind p (Ok path) = Some (after p path)
behind p (Err cause) = None

-- the position that the moves lead to, each meaning a legal path in the position before it
abbrev pub led_to : Option Board → List (List ℕ) → Option Board
led_to None moves = None
led_to (Some p) [] = Some p
led_to (Some p) (squares ∷ moves) = led_to (behind p (meaning_of p (unplaced squares))) moves

-- ---- what its text is read as

abbrev pub squares_of : MoveText → List ℕ
squares_of written = written.squares

-- The tags that are read: those of the draft; before them the one that sets up its position, if it
-- has one of its own.
abbrev pub AreTagsOf : Option Board → List Tag → List Tag → Type 0
AreTagsOf None tags read = read ≡ tags
AreTagsOf (Some p) tags read = (first : Tag) × ((first.name ≡ codes "FEN") × (read ≡ first ∷ tags))

-- The text is that of a game of English draughts with these tags and moves, which begins where it
-- is to begin.
pub record IsReadAs (set_up : Option Board) (tags : List Tag) (moves : List (List ℕ))
    (text : List ℕ) : Type 0 where
  pub game : Game
  pub is_text : IsGameText text game
  pub english : is_other_game game ≡ false
  pub same_tags : AreTagsOf set_up tags game.tags
  pub begins_there : BeginsFrom game (begins set_up)
  pub same_moves : map squares_of game.moves ≡ moves

-- The text is that of the draft's game, and its moves lead to where the draft stands.
pub record IsTextOf (draft : Drafted) (text : List ℕ) : Type 0 where
  pub read : IsReadAs draft.set_up draft.tags draft.moves text
  pub led : LeadTo (begins draft.set_up) read.game.moves draft.here
