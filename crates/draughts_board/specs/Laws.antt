-- The laws that the definitions keep, each proved as the contract of a function of `src/laws.rt`.
use Rattle.std.specs.Prelude.{◌≡◌, ◌↔◌, ◌≤◌, ◌<◌, ◌+◌, ◌-◌, ◌^◌, ◌⊎◌, ℕ, Bool, true, List, [], All, Contains, IsTrue, length, map}
use Rattle.draughts_board.specs.declared.pieces.Side.{Side}
use Rattle.draughts_board.specs.declared.pieces.Side.TheVariants.{Black, White}
use Rattle.draughts_board.specs.declared.pieces.Value.{Value}
use Rattle.draughts_board.specs.declared.pieces.Value.TheVariants.{BlackWins, WhiteWins, Draw}
use Rattle.draughts_board.specs.Geometry.{IsSquare}
use Rattle.draughts_board.specs.Board.{Board, IsLawful, is_lawful, other, turned}
use Rattle.draughts_board.specs.declared.pieces.Cell.{Cell}
use Rattle.draughts_board.specs.Masks.{mask_of, masks_of, AreMasksOf, are_apart, board_in}
use Rattle.draughts_board.specs.Rules.{IsLegal, after, AreLegalPaths, AreSuccessors}
use Rattle.draughts_board.specs.Play.{legal_paths, successors_of}
use Rattle.draughts_board.specs.Game.{Game, TakesTurns, CanForce, WinsIn, Wins, Holds, HasValue, ShowsWin, ShowsHold}
use Rattle.draughts_board.specs.Draughts.{draughts}

-- ---- what is computed is what the rules say

-- The list that `legal_paths` computes has every legal path and no other, each once, in rising
-- order.
abbrev pub LegalPathsAreLegal : Type 0
LegalPathsAreLegal = (p : Board) → IsLawful p → AreLegalPaths p (legal_paths p)

-- The list that `successors_of` computes has the position after every legal path, and no other,
-- each once, in the order of the first path that leaves it.
abbrev pub SuccessorsAreAfterPaths : Type 0
SuccessorsAreAfterPaths = (p : Board) → IsLawful p → AreSuccessors p (successors_of p)

-- A position is a successor exactly where some legal path leaves it.
abbrev pub SuccessorsAreReached : Type 0
SuccessorsAreReached =
    (p q : Board) → IsLawful p → Contains (successors_of p) q
    ↔ ((path : List ℕ) × (IsLegal p path × (after p path ≡ q)))

-- The test `is_lawful` tells whether a board keeps the rule on pieces.
abbrev pub TestOfPieces : Type 0
TestOfPieces = (p : Board) → (is_lawful p ≡ true) ↔ IsLawful p

-- ---- boards and masks

-- The masks of a position have 32 bits, no two of them share a square, and their board is the
-- position again.
pub record MasksMakePosition (p : Board) : Type 0 where
  pub fits : (piece : Cell) → mask_of piece p.cells < 2 ^ 32
  pub apart : IsTrue (are_apart (masks_of p))
  pub back : board_in (masks_of p) p.to_move ≡ p

abbrev pub PositionsHaveMasks : Type 0
PositionsHaveMasks = (p : Board) → IsLawful p → MasksMakePosition p

-- Four masks of 32 bits, of which no two share a square, are the masks of their board.
abbrev pub MasksOfTheirBoard : Type 0
MasksOfTheirBoard =
    (masks : List ℕ) (s : Side) → length masks ≡ 4 → All (λ m. m < 2 ^ 32) masks
    → IsTrue (are_apart masks)
    → masks_of (board_in masks s) ≡ masks

-- The same masks hold of a board square by square.
abbrev pub MasksHoldPieces : Type 0
MasksHoldPieces = (p : Board) → AreMasksOf p (masks_of p)

-- ---- after a move

-- After a legal path stands a position again: at most 12 pieces a side and no man on its farthest
-- row. The other side is to move.
abbrev pub AfterIsPosition : Type 0
AfterIsPosition =
    (p : Board) (path : List ℕ) → IsLawful p → IsLegal p path
    → IsLawful (after p path) × ((after p path).to_move ≡ other p.to_move)

-- In draughts the players take turns, a move leads from a position to a position, and no move adds
-- a piece.
abbrev pub DraughtsTakesTurns : Type 0
DraughtsTakesTurns = TakesTurns draughts

-- A legal path has 2 to 13 squares, each of them a square of the board.
abbrev pub LegalPathsFit : Type 0
LegalPathsFit =
    (p : Board) (path : List ℕ) → IsLawful p → IsLegal p path
    → (2 ≤ length path) × (length path ≤ 13) × All IsSquare path

-- ---- who wins: of any game, and so of draughts

-- No position is won for both sides: a side that wins also holds.
abbrev pub WinnerHolds : {P : Type 0} → Game P → Type 0
WinnerHolds {P} game = (s : Side) (p : P) → Wins game s p → Holds game s p

-- One value, in a game that need not be finite: two different values never hold of one position;
-- where neither side wins, it is a draw; and it is not so that none of the three holds. Which one
-- holds may be beyond any rule to tell.
pub record HasOneValue {P : Type 0} (game : Game P) (p : P) : Type 0 where
  pub at_most_one : (v w : Value) → HasValue game p v → HasValue game p w → v ≡ w
  pub draw_elsewhere : ¬ Wins game Black p → ¬ Wins game White p → HasValue game p Draw
  pub not_none : ¬ ((v : Value) → ¬ HasValue game p v)

-- so of each position
abbrev pub OneValue : {P : Type 0} → Game P → Type 0
OneValue {P} game = (p : P) → HasOneValue game p

-- A win in at most n plies is a win in at most n + 1.
abbrev pub MorePliesWin : {P : Type 0} → Game P → Type 0
MorePliesWin {P} game = (s : Side) (n : ℕ) (p : P) → WinsIn game s n p → WinsIn game s (n + 1) p

-- A side that can force a position that it wins has won already.
abbrev pub ForcedWinsWin : {P : Type 0} → Game P → Type 0
ForcedWinsWin {P} game = (s : Side) (p : P) → CanForce game s (Wins game s) p → Wins game s p

-- A ranked strategy wins: where from each position of rank r the side can force a position of a
-- lower rank, each position of rank r is won in at most r plies.
abbrev pub RankedPositionsWin : {P : Type 0} → Game P → Type 0
RankedPositionsWin {P} game =
    (s : Side) (has_rank : ℕ → P → Bool)
    → ((r : ℕ) (p : P) → IsTrue (has_rank r p)
    → CanForce game s (λ q. (m : ℕ) × ((m < r) × IsTrue (has_rank m q))) p)
    → (r : ℕ) (p : P) → IsTrue (has_rank r p) → WinsIn game s r p

-- A fortress holds: where from each of its positions the side can force one of them again, or one
-- that it holds, it holds all of them.
abbrev pub FortressHolds : {P : Type 0} → Game P → Type 0
FortressHolds {P} game =
    (s : Side) (is_inside : P → Bool)
    → ((p : P) → IsTrue (is_inside p) → CanForce game s
    (λ q. IsTrue (is_inside q) ⊎ Holds game s q) p)
    → (p : P) → IsTrue (is_inside p) → Holds game s p

-- What looking ahead to any depth shows of a win is a win.
abbrev pub ShownWinsWin : {P : Type 0} → Game P → Type 0
ShownWinsWin {P} game = (k : ℕ) (s : Side) (d : ℕ) (p : P) → ShowsWin game k s d p → Wins game s p

-- What looking ahead to any depth shows of a hold, with no position on the path yet, is a hold.
abbrev pub ShownHoldsHold : {P : Type 0} → Game P → Type 0
ShownHoldsHold {P} game =
    (k : ℕ) (s : Side) (d : ℕ) (p : P) → ShowsHold game k s d [] p → Holds game s p

-- all of these of one game
pub record LawsOfWinning {P : Type 0} (game : Game P) : Type 0 where
  pub winner_holds : WinnerHolds game
  pub one_value : OneValue game
  pub more_plies : MorePliesWin game
  pub forced_wins : ForcedWinsWin game
  pub ranked_positions : RankedPositionsWin game
  pub fortress : FortressHolds game
  pub shown_wins : ShownWinsWin game
  pub shown_holds : ShownHoldsHold game

-- ---- who wins in draughts

-- A player to move who has no legal path has lost: then, and only then, the other side wins in 0
-- plies.
abbrev pub LostWithoutMove : Type 0
LostWithoutMove =
    (s : Side) (p : Board) → IsLawful p
    → WinsIn draughts s 0 p ↔ ((p.to_move ≡ other s) × ((path : List ℕ) → ¬ IsLegal p path))

-- Each position of draughts has exactly one value: one of black-wins, white-wins and draw holds of
-- it, and no other. This is more than the law of any game says, and holds because draughts has
-- finitely many positions.
abbrev pub PositionsHaveOneValue : Type 0
PositionsHaveOneValue =
    (p : Board) → IsLawful p → (v : Value) ×
    (HasValue draughts p v × ((w : Value) → HasValue draughts p w → w ≡ v))

-- ---- the board turned by 180 degrees, with colours exchanged

-- square n goes to 33 - n
abbrev pub turned_square : ℕ → ℕ
turned_square n = 33 - n

-- each square of the path so
abbrev pub turned_path : List ℕ → List ℕ
turned_path path = map turned_square path

-- a win for the one side becomes a win for the other
abbrev pub turned_value : Value → Value
turned_value BlackWins = WhiteWins
turned_value WhiteWins = BlackWins
turned_value Draw = Draw

-- Turning a position gives a position, and turning it twice gives it back.
abbrev pub TurningTwice : Type 0
TurningTwice = (p : Board) → IsLawful p → IsLawful (turned p) × (turned (turned p) ≡ p)

-- A path is legal exactly where the turned path is legal on the turned board.
abbrev pub TurnedPathsLegal : Type 0
TurnedPathsLegal =
    (p : Board) (path : List ℕ) → IsLawful p
    → IsLegal p path ↔ IsLegal (turned p) (turned_path path)

-- What a legal path leaves turns with it.
abbrev pub TurnedAfter : Type 0
TurnedAfter =
    (p : Board) (path : List ℕ) → IsLawful p → IsLegal p path
    → after (turned p) (turned_path path) ≡ turned (after p path)

-- The successors of the turned board are the turned successors, if in another order.
abbrev pub TurnedSuccessors : Type 0
TurnedSuccessors =
    (p q : Board) → IsLawful p → IsLawful q → Contains (successors_of p) q
    ↔ Contains (successors_of (turned p)) (turned q)

-- A side wins in at most n plies exactly where the other side does on the turned board.
abbrev pub TurnedWins : Type 0
TurnedWins =
    (s : Side) (n : ℕ) (p : Board) → IsLawful p
    → WinsIn draughts s n p ↔ WinsIn draughts (other s) n (turned p)

-- A position has a value exactly where the turned position has the turned value.
abbrev pub TurnedValues : Type 0
TurnedValues =
    (v : Value) (p : Board) → IsLawful p → HasValue draughts p v
    ↔ HasValue draughts (turned p) (turned_value v)
