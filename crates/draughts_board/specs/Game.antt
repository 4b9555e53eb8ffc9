-- Who wins a game of two players who move in turn. Nothing here is about draughts.
use Rattle.std.specs.Prelude.{◌≡◌, ℕ, zero, suc, ◌≤◌, ◌⊎◌, List, [], ◌∷◌, Contains, Bool, true, false, nat_le, ◌||◌}
use Rattle.draughts_board.specs.Board.{other}
use Rattle.draughts_board.specs.Play.{is_nil}
use Rattle.draughts_board.specs.declared.pieces.Side.{Side}
use Rattle.draughts_board.specs.declared.pieces.Side.TheVariants.{Black, White}
use Rattle.draughts_board.specs.declared.pieces.Value.{Value}
use Rattle.draughts_board.specs.declared.pieces.Value.TheVariants.{BlackWins, WhiteWins, Draw}

-- whose turn it is, where the moves lead, how many pieces there are, and which values are positions
pub record Game (P : Type 0) : Type 0 where
  pub mover : P → Side
  pub next : P → List P
  pub pieces : P → ℕ
  pub is_position : P → Bool

-- the players take turns, a move leads from a position to a position, and no move adds a piece
pub record TakesTurns {P : Type 0} (game : Game P) : Type 0 where
  pub alternates : (p q : P) → Contains (game.next p) q → game.mover q ≡ other (game.mover p)
  pub stays_position : (p q : P) → game.is_position p ≡ true → Contains (game.next p) q
      → game.is_position q ≡ true
  pub pieces_fall : (p q : P) → game.is_position p ≡ true → Contains (game.next p) q
      → game.pieces q ≤ game.pieces p

-- The side can see to it that the next position meets F: it is its turn and some move leads to F,
-- or it is the other side's turn and every move leads to F.
pub data CanForce {P : Type 0} (game : Game P) (s : Side) (F : P → Type 0) (p : P) : Type 0 where
  by_move : (q : P) → game.mover p ≡ s → Contains (game.next p) q → F q → CanForce game s F p
  by_every_reply : game.mover p ≡ other s → ((q : P) → Contains (game.next p) q → F q)
      → CanForce game s F p

-- The side has a forced win in at most n plies. In 0 plies: the other side is to move and has no
-- move.
abbrev pub WinsIn : {P : Type 0} → Game P → Side → ℕ → P → Type 0
WinsIn game s zero p = (game.mover p ≡ other s) × (game.next p ≡ [])
WinsIn game s (suc n) p = WinsIn game s n p ⊎ CanForce game s (WinsIn game s n) p

-- the side has a forced win
abbrev pub Wins : {P : Type 0} → Game P → Side → P → Type 0
Wins game s p = (n : ℕ) × WinsIn game s n p

-- the side holds: the other side has no forced win
abbrev pub Holds : {P : Type 0} → Game P → Side → P → Type 0
Holds game s p = Wins game (other s) p → ⊥

-- the value of a position: a win for one side, or else a draw, where both hold
abbrev pub HasValue : {P : Type 0} → Game P → P → Value → Type 0
HasValue game p BlackWins = Wins game Black p
HasValue game p WhiteWins = Wins game White p
HasValue game p Draw = Holds game Black p × Holds game White p

-- ---- what looking ahead shows

-- decided at sight, with tables of k pieces: no move, or at most k pieces
abbrev pub is_at_sight : {P : Type 0} → Game P → ℕ → P → Bool
is_at_sight game k p = is_nil (game.next p) || nat_le (game.pieces p) k

-- looking d plies ahead, with tables of k pieces, shows the side's win
abbrev pub ShowsWin : {P : Type 0} → Game P → ℕ → Side → ℕ → P → Type 0
ShowsWin game k s zero p = (is_at_sight game k p ≡ true) × Wins game s p
ShowsWin game k s (suc d) p =
    ((is_at_sight game k p ≡ true) × Wins game s p)
    ⊎ ((is_at_sight game k p ≡ false) × CanForce game s (ShowsWin game k s d) p)

-- looking d plies ahead shows that the side holds, where a position that stands on the path already
-- counts as held
abbrev pub ShowsHold : {P : Type 0} → Game P → ℕ → Side → ℕ → List P → P → Type 0
ShowsHold game k s zero path p = Contains path p ⊎ ((is_at_sight game k p ≡ true) × Holds game s p)
ShowsHold game k s (suc d) path p =
    (Contains path p ⊎ ((is_at_sight game k p ≡ true) × Holds game s p))
    ⊎ ((is_at_sight game k p ≡ false) × CanForce game s (ShowsHold game k s d (p ∷ path)) p)
