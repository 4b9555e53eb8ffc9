-- Jumps and steps by ways, computed once over all squares.
use Rattle.std.proofs.Common.{◌≡◌, ℕ, Bool, true, false, ◌&&◌, ◌||◌, ◌==◌, refl, ◌∙◌}
use Rattle.std.specs.List.{list_any}
use Rattle.draughts_board.specs.Geometry.{squares, IsSquare, is_square, are_near, are_jump_apart, between}
use Rattle.draughts_board.specs.Board.{Board, cell_at}
use Rattle.draughts_board.specs.Rules.{may_go, is_step, is_jump}
use Rattle.draughts_board.specs.declared.pieces.Side.TheVariants.{Black, White}
use Rattle.draughts_board.specs.declared.pieces.Cell.{Cell}
use Rattle.draughts_board.specs.declared.pieces.Cell.TheVariants.{Empty, Man, King}
use Rattle.swift_moves.specs.Ways.{next, next_is, ways_of}
use Rattle.swift_moves.specs.Forces.{is_free, is_enemy, leaps}
use Rattle.swift_moves.proofs.Shifts.{test_at}

-- ---- steps

steps_of : (c : Cell) → (free : ℕ → Bool) → (x : ℕ) → IsSquare x
    → list_any (λ z. is_square z && are_near x z && may_go c x z && free z) squares ≡ list_any (λ w. next_is w free x) (ways_of c)
unfolding squares next
steps_of Empty free = test_at (λ x. list_any (λ z. is_square z && are_near x z && may_go Empty x z && free z) squares) (λ x. list_any (λ w. next_is w free x) (ways_of Empty)) refl
steps_of (Man Black) free = test_at (λ x. list_any (λ z. is_square z && are_near x z && may_go (Man Black) x z && free z) squares) (λ x. list_any (λ w. next_is w free x) (ways_of (Man Black))) refl
steps_of (Man White) free = test_at (λ x. list_any (λ z. is_square z && are_near x z && may_go (Man White) x z && free z) squares) (λ x. list_any (λ w. next_is w free x) (ways_of (Man White))) refl
steps_of (King s) free = test_at (λ x. list_any (λ z. is_square z && are_near x z && may_go (King s) x z && free z) squares) (λ x. list_any (λ w. next_is w free x) (ways_of (King s))) refl

pub steps_by_ways : (p : Board) (x : ℕ) → IsSquare x → list_any (is_step p x) squares ≡ list_any (λ w. next_is w (is_free p) x) (ways_of (cell_at p x))
steps_by_ways p x h = steps_of (cell_at p x) (is_free p) x h

-- ---- jumps

jump_order : (a b c d e f : Bool) → (a && b && c && d && (e || f)) ≡ (a && b && c && ((f || e) && d))
jump_order false b c d e f = refl
jump_order true false c d e f = refl
jump_order true true false d e f = refl
jump_order true true true true true true = refl
jump_order true true true true true false = refl
jump_order true true true true false true = refl
jump_order true true true true false false = refl
jump_order true true true false true true = refl
jump_order true true true false true false = refl
jump_order true true true false false true = refl
jump_order true true true false false false = refl

jumps_of : (c : Cell) → (enemy free : ℕ → Bool) → (x : ℕ) → IsSquare x
    → list_any (λ z. is_square z && are_jump_apart x z && may_go c x z && ((z == x || free z) && enemy (between x z))) squares
    ≡ list_any (λ w. next_is w (λ y. next_is w free y && enemy y) x) (ways_of c)
unfolding squares next
jumps_of Empty enemy free = test_at (λ x. list_any (λ z. is_square z && are_jump_apart x z && may_go Empty x z && ((z == x || free z) && enemy (between x z))) squares) (λ x. list_any (λ w. next_is w (λ y. next_is w free y && enemy y) x) (ways_of Empty)) refl
jumps_of (Man Black) enemy free = test_at (λ x. list_any (λ z. is_square z && are_jump_apart x z && may_go (Man Black) x z && ((z == x || free z) && enemy (between x z))) squares) (λ x. list_any (λ w. next_is w (λ y. next_is w free y && enemy y) x) (ways_of (Man Black))) refl
jumps_of (Man White) enemy free = test_at (λ x. list_any (λ z. is_square z && are_jump_apart x z && may_go (Man White) x z && ((z == x || free z) && enemy (between x z))) squares) (λ x. list_any (λ w. next_is w (λ y. next_is w free y && enemy y) x) (ways_of (Man White))) refl
jumps_of (King s) enemy free = test_at (λ x. list_any (λ z. is_square z && are_jump_apart x z && may_go (King s) x z && ((z == x || free z) && enemy (between x z))) squares) (λ x. list_any (λ w. next_is w (λ y. next_is w free y && enemy y) x) (ways_of (King s))) refl

pub jumps_by_ways : (p : Board) (x : ℕ) → IsSquare x → list_any (is_jump p x x) squares ≡ list_any (λ w. leaps p w x) (ways_of (cell_at p x))
jumps_by_ways p x h =
    (λ i. list_any (λ z. jump_order (is_square z) (are_jump_apart x z) (may_go (cell_at p x) x z) (is_enemy p (between x z)) (is_free p z) (z == x) i) squares)
    ∙ jumps_of (cell_at p x) (is_enemy p) (is_free p) x h
