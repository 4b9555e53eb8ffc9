-- The squares on which a piece stands, by the four masks.
use Rattle.std.proofs.Common.{◌≡◌, ℕ, not, ◌||◌, List, refl, ◌∙◌, ap}
use Rattle.std.specs.Prelude.{slice_index}
use Rattle.std.specs.Int.Bits.{bit_or}
use Rattle.draughts_board.specs.declared.pieces.Side.TheVariants.{Black, White}
use Rattle.draughts_board.specs.declared.pieces.Cell.{Cell}
use Rattle.draughts_board.specs.declared.pieces.Cell.TheVariants.{Empty, Man, King}
use Rattle.draughts_board.specs.Board.{Board, cell_at, is_empty, same_cell}
use Rattle.draughts_board.specs.Masks.{stands_in, IsMaskOf, AreMasksOf}
use Rattle.draughts_board.proofs.Bits.{stands_in-or}

some_piece : (c : Cell) → (same_cell (Man Black) c || same_cell (King Black) c || same_cell (Man White) c || same_cell (King White) c) ≡ not (is_empty c)
some_piece Empty = refl
some_piece (Man Black) = refl
some_piece (King Black) = refl
some_piece (Man White) = refl
some_piece (King White) = refl

pub occupied-mask : (p : Board) (masks : List ℕ) → AreMasksOf p masks
    → IsMaskOf (λ n. not (is_empty (cell_at p n))) (bit_or (bit_or (bit_or (slice_index masks 0) (slice_index masks 1)) (slice_index masks 2)) (slice_index masks 3))
occupied-mask p masks h n s =
    let black_men = slice_index masks 0 in
    let black_kings = slice_index masks 1 in
    let white_men = slice_index masks 2 in
    let white_kings = slice_index masks 3 in
    stands_in-or (bit_or (bit_or black_men black_kings) white_men) white_kings n
    ∙ ap (λ b. b || stands_in white_kings n) (stands_in-or (bit_or black_men black_kings) white_men n ∙ ap (λ b. b || stands_in white_men n) (stands_in-or black_men black_kings n))
    ∙ (λ i. h.black_men n s i || h.black_kings n s i || h.white_men n s i || h.white_kings n s i)
    ∙ some_piece (cell_at p n)
