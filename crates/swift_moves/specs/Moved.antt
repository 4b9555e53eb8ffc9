-- The masks after a move. The mover's men stand first in a list of four masks, then its kings, the
-- enemy's men and kings.
use Rattle.std.specs.Prelude.{ℕ, ◌==◌, Bool, ◌&&◌, ◌||◌, not, List, [], ◌∷◌, slice_index}
use Rattle.draughts_board.specs.Geometry.{row, are_jump_apart, between}
use Rattle.draughts_board.specs.Board.{farthest_row}
use Rattle.draughts_board.specs.declared.pieces.Side.{Side}
use Rattle.draughts_board.specs.declared.pieces.Side.TheVariants.{Black, White}
use Rattle.draughts_board.specs.Masks.{IsMaskOf, stands_in}

-- Black's men and kings and White's, with the mover's first; and back
abbrev pub in_turn : Side → List ℕ → List ℕ
in_turn Black masks = masks
in_turn White masks =
    slice_index masks 2 ∷ slice_index masks 3 ∷ slice_index masks 0 ∷ slice_index masks 1 ∷ []

-- the side's piece on x, whose kings these are, is a king once it rests on z
abbrev pub is_king_at_rest : Side → ℕ → ℕ → ℕ → Bool
is_king_at_rest s kings x z = stands_in kings x || row z == farthest_row s

-- x is taken out of the mask, and z put in where `lands`
abbrev pub stands_moved : ℕ → ℕ → ℕ → Bool → ℕ → Bool
stands_moved mask x z lands n = (stands_in mask n && not (n == x)) || (n == z && lands)

-- the squares of `taken` are taken out of the mask
abbrev pub stands_untaken : ℕ → ℕ → ℕ → Bool
stands_untaken mask taken n = stands_in mask n && not (stands_in taken n)

-- the square between x and z is put into the mask, if they are a jump apart
abbrev pub stands_jumped : ℕ → ℕ → ℕ → ℕ → Bool
stands_jumped mask x z n = (are_jump_apart x z && n == between x z) || stands_in mask n

-- the masks before and after the piece of the mover goes from x to z and takes the pieces of
-- `taken`
pub record AreMoved (s : Side) (x z taken : ℕ) (old new : List ℕ) : Type 0 where
  pub own_men : IsMaskOf (stands_moved (slice_index old 0) x z
      (not (is_king_at_rest s (slice_index old 1) x z))) (slice_index new 0)
  pub own_kings : IsMaskOf (stands_moved (slice_index old 1) x z
      (is_king_at_rest s (slice_index old 1) x z)) (slice_index new 1)
  pub left_men : IsMaskOf (stands_untaken (slice_index old 2) taken) (slice_index new 2)
  pub left_kings : IsMaskOf (stands_untaken (slice_index old 3) taken) (slice_index new 3)
