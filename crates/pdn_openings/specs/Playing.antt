-- Where written moves lead, one after another.
use Rattle.std.specs.Prelude.{◌≡◌, ℕ, suc, ◌-◌, List, [], ◌∷◌, ◌++◌, length, take, drop, Result, Ok, Err}
use Rattle.draughts_board.specs.Board.{Board}
use Rattle.draughts_board.specs.Rules.{first_square, last_square, after}
use Rattle.draughts_board.specs.Resolution.{matches, meaning}
use Rattle.draughts_board.specs.declared.resolution.ResolveRefusal.{ResolveRefusal}
use Rattle.pdn_text.specs.declared.game.MoveText.{MoveText}

-- the squares between the first and the last
abbrev pub squares_between : List ℕ → List ℕ
squares_between squares = take (length squares - 1 - 1) (drop 1 squares)

-- What a written move means in a position: the legal path that has its first and last square, and
-- those between if any are written; or that there is no such path, or that such paths lead to
-- different positions.
unfoldable pub meaning_of : Board → MoveText → Result (List ℕ) ResolveRefusal
meaning_of p written =
    let squares = written.squares in
    meaning p (matches p (first_square squares) (squares_between squares) (last_square squares))

-- The moves lead from the one position to the other: each means a legal path, in the position that
-- those before it lead to.
abbrev pub LeadTo : Board → List MoveText → Board → Type 0
LeadTo p [] q = p ≡ q
LeadTo p (written ∷ moves) q =
    (path : List ℕ) × ((meaning_of p written ≡ Ok path) × LeadTo (after p path) moves q)

-- The first of the moves that means no legal path is that of this ply, counted from 1. It begins at
-- this place in the text, and this is why it means none.
pub record StopAt (p : Board) (moves : List MoveText) (ply at : ℕ)
    (cause : ResolveRefusal) : Type 0 where
  pub before : List MoveText
  pub written : MoveText
  pub behind : List MoveText
  pub all : moves ≡ before ++ written ∷ behind
  pub here : Board
  pub led : LeadTo p before here
  pub refused : meaning_of here written ≡ Err cause
  pub counted : ply ≡ suc (length before)
  pub place : at ≡ written.at
