-- Tables of answers: when one is sound. Nothing here is about draughts alone.
use Rattle.std.specs.Prelude.{◌≡◌, ◌↔◌, ◌⊎◌, ◌≤◌, ◌<◌, ℕ, suc, true, Contains, Option, Some, IsSome}
use Rattle.draughts_board.specs.Board.{other}
use Rattle.draughts_board.specs.Game.{Game}
use Rattle.draughts_board.specs.declared.pieces.Side.{Side}
use Rattle.strategy_certificate.specs.declared.oracle.Answer.{Answer}
use Rattle.strategy_certificate.specs.declared.oracle.Answer.TheVariants.{Win, Loss, Draw}

-- some move leads to F
abbrev pub SomeNext : {P : Type 0} → Game P → P → (P → Type 0) → Type 0
SomeNext {P} game p F = (q : P) × (Contains (game.next p) q × F q)

-- every move leads to F
abbrev pub EachNext : {P : Type 0} → Game P → P → (P → Type 0) → Type 0
EachNext {P} game p F = (q : P) → Contains (game.next p) q → F q

-- The answer a at p fits the answers at the positions that the moves lead to.
-- A win of rank r: some move leads to a loss of rank r - 1, and none to a loss of a lower rank.
-- A loss of rank r: every move leads to a win of a rank below r; r is 0 where there is no move,
-- else one above the greatest rank among them.
-- A draw: some move leads to a draw, and none to a loss.
abbrev pub IsRight : {P : Type 0} → Game P → (P → Option Answer) → P → Answer → Type 0
IsRight game answer p (Win r) =
    (l : ℕ) × ((r ≡ suc l) × (SomeNext game p (λ q. answer q ≡ Some (Loss l))
    × EachNext game p (λ q. (m : ℕ) → answer q ≡ Some (Loss m) → l ≤ m)))
IsRight game answer p (Loss r) =
    EachNext game p (λ q. (m : ℕ) × ((answer q ≡ Some (Win m)) × (m < r)))
    × ((r ≡ 0) ⊎ SomeNext game p (λ q. (m : ℕ) × ((answer q ≡ Some (Win m)) × (r ≡ suc m))))
IsRight game answer p Draw =
    SomeNext game p (λ q. answer q ≡ Some Draw)
    × EachNext game p (λ q. (m : ℕ) → answer q ≡ Some (Loss m) → ⊥)

-- A sound table of k pieces: it answers exactly the positions with at most k pieces, and each of
-- its answers fits those at the next positions.
pub record IsSoundTable {P : Type 0} (game : Game P) (k : ℕ)
    (answer : P → Option Answer) : Type 0 where
  pub answered : (p : P) → IsSome (answer p) ↔ ((game.is_position p ≡ true) × (game.pieces p ≤ k))
  pub right : (p : P) (a : Answer) → answer p ≡ Some a → IsRight game answer p a

-- tables are of two or of three pieces
abbrev pub IsTableSize : ℕ → Type 0
IsTableSize k = (k ≡ 2) ⊎ (k ≡ 3)

-- the table shows a win of this rank for the side, whoever is to move
abbrev pub TableWins : {P : Type 0} → Game P → (P → Option Answer) → Side → ℕ → P → Type 0
TableWins game answer s r p =
    ((game.mover p ≡ s) × (answer p ≡ Some (Win r)))
    ⊎ ((game.mover p ≡ other s) × (answer p ≡ Some (Loss r)))

-- the table shows that the side holds: its answer is no win for the other side
abbrev pub TableHolds : {P : Type 0} → Game P → (P → Option Answer) → Side → P → Type 0
TableHolds game answer s p = ((r : ℕ) × TableWins game answer s r p) ⊎ (answer p ≡ Some Draw)
