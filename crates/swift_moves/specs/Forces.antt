-- The masks of a position as its mover sees them.
use Rattle.std.specs.Prelude.{◌≡◌, ℕ, Bool, ◌&&◌}
use Rattle.std.specs.List.{list_any}
use Rattle.draughts_board.specs.Geometry.{squares}
use Rattle.draughts_board.specs.Board.{Board, cell_at, other, same_cell, belongs, is_empty}
use Rattle.draughts_board.specs.Rules.{is_own, is_jump, is_step}
use Rattle.draughts_board.specs.declared.pieces.Side.{Side}
use Rattle.draughts_board.specs.declared.pieces.Cell.{Cell}
use Rattle.draughts_board.specs.declared.pieces.Cell.TheVariants.{Man, King}
use Rattle.swift_moves.specs.declared.ways.Way.{Way}
use Rattle.swift_moves.specs.declared.forces.Forces.{Forces}
use Rattle.draughts_board.specs.Masks.{IsMaskOf}
use Rattle.swift_moves.specs.Ways.{next_is}

-- a man or a king of the side
abbrev pub is_man : Side → Cell → Bool
is_man s c = same_cell (Man s) c

abbrev pub is_king_of : Side → Cell → Bool
is_king_of s c = same_cell (King s) c

-- square n is empty, or holds an enemy of the mover
abbrev pub is_free : Board → ℕ → Bool
is_free p n = is_empty (cell_at p n)

abbrev pub is_enemy : Board → ℕ → Bool
is_enemy p n = belongs (other p.to_move) (cell_at p n)

-- what the masks hold
pub record AreForces (p : Board) (f : Forces) : Type 0 where
  pub mover : p.to_move ≡ f.mover
  pub men : IsMaskOf (λ n. is_man p.to_move (cell_at p n)) f.men
  pub kings : IsMaskOf (λ n. is_king_of p.to_move (cell_at p n)) f.kings
  pub enemies : IsMaskOf (is_enemy p) f.enemies
  pub free : IsMaskOf (is_free p) f.free

-- from x the way leads over an enemy to a free square
abbrev pub leaps : Board → Way → ℕ → Bool
leaps p w x = next_is w (λ y. next_is w (is_free p) y && is_enemy p y) x

-- a piece of the mover that has a jump, or a step, stands on x
abbrev pub is_jumper : Board → ℕ → Bool
is_jumper p x = is_own p x && list_any (is_jump p x x) squares

abbrev pub is_stepper : Board → ℕ → Bool
is_stepper p x = is_own p x && list_any (is_step p x) squares
