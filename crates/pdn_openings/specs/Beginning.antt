-- Where a game begins, and whether it is one of English draughts: what its tags say.
use Rattle.std.specs.Prelude.{◌≡◌, ℕ, Bool, false, not, ◌||◌, ◌==◌, List, find, Option, Some, None, codes}
use Rattle.std.specs.List.{starts_with}
use Rattle.std.specs.Option.{option_map}
use Rattle.std.specs.Str.{bytes_eq}
use Rattle.draughts_board.specs.Board.{Board, start_board}
use Rattle.fen_text.specs.Refusal.{IsFenFault}
use Rattle.fen_text.specs.Spelled.{Spells}
use Rattle.fen_text.specs.declared.refusal.FenRefusal.{FenRefusal}
use Rattle.pdn_text.specs.declared.game.Game.{Game}
use Rattle.pdn_text.specs.declared.game.Tag.{Tag}

-- the value of the first tag of this name; names are compared letter for letter
abbrev pub first_value : List ℕ → List Tag → Option (List ℕ)
first_value name tags = option_map (λ tag. tag.value) (find (λ tag. bytes_eq tag.name name) tags)

-- ---- which game it is

-- In PDN the type of English draughts is 21. The value may go on behind a comma.
abbrev pub is_english : List ℕ → Bool
is_english value = bytes_eq value (codes "21") || starts_with ◌==◌ value (codes "21,")

-- a game without a type is one of English draughts
abbrev pub is_other : Option (List ℕ) → Bool
is_other None = false
is_other (Some value) = not (is_english value)

-- the game's first `GameType` names another game than English draughts
abbrev pub is_other_game : Game → Bool
is_other_game game = is_other (first_value (codes "GameType") game.tags)

-- ---- where it begins

-- the position that a text sets up; without a text, the start of a game
abbrev pub SetsUp : Option (List ℕ) → Board → Type 0
SetsUp None p = p ≡ start_board
SetsUp (Some text) p = Spells text p

-- the game begins from the position of its first `FEN`, else from the start position
abbrev pub BeginsFrom : Game → Board → Type 0
BeginsFrom game p = SetsUp (first_value (codes "FEN") game.tags) p

abbrev pub SetsUpNone : Option (List ℕ) → FenRefusal → Type 0
SetsUpNone None fault = ⊥
SetsUpNone (Some text) fault = IsFenFault text fault

-- the game's first `FEN` is none, for this fault
abbrev pub HasRefusedFen : Game → FenRefusal → Type 0
HasRefusedFen game fault = SetsUpNone (first_value (codes "FEN") game.tags) fault
