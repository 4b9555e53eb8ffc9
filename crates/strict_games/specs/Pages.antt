-- A game's text while it is printed: what stands so far is read as tags and moves, whatever follows.
use Rattle.std.specs.Prelude.{◌≡◌, ◌≤◌, ℕ, Bool, true, ◌||◌, ◌==◌, List, [], ◌∷◌, ◌++◌, Option, Some, None, codes, length, map}
use Rattle.draughts_board.specs.Board.{Board, IsLawful}
use Rattle.fen_text.specs.Printed.{fen_of}
use Rattle.pdn_text.specs.Pdn.{AreItemsOfText, signs}
use Rattle.pdn_text.specs.declared.game.MoveText.{MoveText}
use Rattle.pdn_text.specs.declared.game.Tag.{Tag}
use Rattle.pdn_text.specs.declared.items.Item.{Item}
use Rattle.pdn_text.specs.declared.items.Sign.{Sign}
use Rattle.pdn_text.specs.declared.items.Sign.TheVariants.{Tagged, Moved, Ended}
use Rattle.strict_games.specs.Drafts.{squares_of}
use Rattle.strict_games.specs.declared.printing.Page.{Page}

-- up to this place the text is items that say these signs, in this order
pub record SaysTo (text : List ℕ) (place : ℕ) (said : List Sign) : Type 0 where
  pub items : List Item
  pub are_items : AreItemsOfText text 0 items place
  pub says : signs items ≡ said

-- a blank, an end of a line, or a full stop: each is an item that says nothing
abbrev pub is_gap : ℕ → Bool
is_gap b = b == 32 || b == 10 || b == 46

-- the text says these signs, whatever follows it
abbrev pub IsClosed : List ℕ → List Sign → Type 0
IsClosed text said = (more : List ℕ) → SaysTo (text ++ more) (length text) said

-- the text says these signs, whatever follows behind a gap
abbrev pub IsOpen : List ℕ → List Sign → Type 0
IsOpen text said = (gap : ℕ) (more : List ℕ) → is_gap gap ≡ true → SaysTo (text ++ gap ∷ more) (length text) said

-- tags, then moves
abbrev pub signs_so_far : List Tag → List MoveText → List Sign
signs_so_far tags written = map Tagged tags ++ map Moved written

-- the text says these tags, and then moves with these squares, whatever follows
pub record Says (text : List ℕ) (tags : List Tag) (moves : List (List ℕ)) : Type 0 where
  pub written : List MoveText
  pub same : map squares_of written ≡ moves
  pub closed : IsClosed text (signs_so_far tags written)

-- A page says these tags and these moves; at the beginning of a line it says them whatever follows.
pub record PageSays (page : Page) (tags : List Tag) (moves : List (List ℕ)) : Type 0 where
  pub written : List MoveText
  pub same : map squares_of written ≡ moves
  pub inside : page.line ≤ length page.text.items
  pub opened : IsOpen page.text.items (signs_so_far tags written)
  pub begins : page.line ≡ length page.text.items → IsClosed page.text.items (signs_so_far tags written)

-- the tag that is read before those of the draft: the one of the position that is set up, if one is
abbrev pub AreTagsBefore : Option Board → List Tag → Type 0
AreTagsBefore None before = before ≡ []
AreTagsBefore (Some p) before = IsLawful p × (before ≡ record { name = codes "FEN"; value = fen_of p } ∷ [])

-- the text is items, from its first byte to its last, which say these tags, then moves with these squares, then a result; it
-- ends with byte 10
pub record IsPrinted (text : List ℕ) (tags : List Tag) (moves : List (List ℕ)) : Type 0 where
  pub written : List MoveText
  pub same : map squares_of written ≡ moves
  pub whole : SaysTo text (length text) (signs_so_far tags written ++ Ended ∷ [])
  pub front : List ℕ
  pub ends_line : text ≡ front ++ 10 ∷ []
