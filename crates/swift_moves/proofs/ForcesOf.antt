-- The four masks of a position as its mover's and its enemy's.
use Rattle.std.proofs.Common.{◌≡◌, ℕ, not, ◌&&◌, ◌||◌, List, get_or, refl, sym, ◌∙◌, subst}
use Rattle.std.specs.Int.Bits.{bit_or}
use Rattle.draughts_board.specs.declared.pieces.Side.{Side}
use Rattle.draughts_board.specs.declared.pieces.Side.TheVariants.{Black, White}
use Rattle.draughts_board.specs.declared.pieces.Cell.{Cell}
use Rattle.draughts_board.specs.declared.pieces.Cell.TheVariants.{Empty, Man, King}
use Rattle.draughts_board.specs.Board.{Board, cell_at, other, is_empty, belongs}
use Rattle.draughts_board.specs.Masks.{IsMaskOf, stands_in, AreMasksOf}
use Rattle.swift_moves.specs.declared.forces.Forces.{Forces}
use Rattle.swift_moves.specs.Forces.{AreForces, is_man, is_king_of, is_free}
use Rattle.swift_moves.proofs.Going.{man_or_king, either_mask}

neither_is_free : (c : Cell) → (not (is_man Black c || is_king_of Black c) && not (is_man White c || is_king_of White c)) ≡ is_empty c
neither_is_free Empty = refl
neither_is_free (Man Black) = refl
neither_is_free (Man White) = refl
neither_is_free (King Black) = refl
neither_is_free (King White) = refl

side_mask : (p : Board) (s : Side) (men kings : ℕ) → IsMaskOf (λ n. is_man s (cell_at p n)) men → IsMaskOf (λ n. is_king_of s (cell_at p n)) kings → IsMaskOf (λ n. belongs s (cell_at p n)) (bit_or men kings)
side_mask p s men kings hm hk n h = either_mask (λ x. is_man s (cell_at p x)) (λ x. is_king_of s (cell_at p x)) men kings hm hk n h ∙ man_or_king s (cell_at p n)

free_mask : (p : Board) (bm bk wm wk free : ℕ) → IsMaskOf (λ n. is_man Black (cell_at p n)) bm → IsMaskOf (λ n. is_king_of Black (cell_at p n)) bk → IsMaskOf (λ n. is_man White (cell_at p n)) wm → IsMaskOf (λ n. is_king_of White (cell_at p n)) wk
    → IsMaskOf (λ n. not (stands_in (bit_or bm bk) n) && not (stands_in (bit_or wm wk) n)) free → IsMaskOf (is_free p) free
free_mask p bm bk wm wk free hbm hbk hwm hwk hf n h =
    hf n h
    ∙ (λ i. not (either_mask (λ x. is_man Black (cell_at p x)) (λ x. is_king_of Black (cell_at p x)) bm bk hbm hbk n h i) && not (either_mask (λ x. is_man White (cell_at p x)) (λ x. is_king_of White (cell_at p x)) wm wk hwm hwk n h i))
    ∙ neither_is_free (cell_at p n)

-- the masks that the side to move has from the four
abbrev pub AreSeen : Side → List ℕ → Forces → Type 0
AreSeen Black masks f = (f.men ≡ get_or masks 0 0) × (f.kings ≡ get_or masks 1 0) × (f.enemies ≡ bit_or (get_or masks 2 0) (get_or masks 3 0))
AreSeen White masks f = (f.men ≡ get_or masks 2 0) × (f.kings ≡ get_or masks 3 0) × (f.enemies ≡ bit_or (get_or masks 0 0) (get_or masks 1 0))

-- the masks as the mover sees them
pub forces_are : (p : Board) (masks : List ℕ) (f : Forces) → AreMasksOf p masks → p.to_move ≡ f.mover
    → IsMaskOf (λ n. not (stands_in (bit_or (get_or masks 0 0) (get_or masks 1 0)) n) && not (stands_in (bit_or (get_or masks 2 0) (get_or masks 3 0)) n)) f.free
    → (s : Side) → p.to_move ≡ s → AreSeen s masks f → AreForces p f
forces_are p masks f m mover free Black e seen = record {
  mover = mover;
  men = subst (λ s. IsMaskOf (λ n. is_man s (cell_at p n)) f.men) (sym e) (subst (IsMaskOf (λ n. is_man Black (cell_at p n))) (sym seen.0) m.black_men);
  kings = subst (λ s. IsMaskOf (λ n. is_king_of s (cell_at p n)) f.kings) (sym e) (subst (IsMaskOf (λ n. is_king_of Black (cell_at p n))) (sym seen.1) m.black_kings);
  enemies = subst (λ s. IsMaskOf (λ n. belongs (other s) (cell_at p n)) f.enemies) (sym e) (subst (IsMaskOf (λ n. belongs White (cell_at p n))) (sym seen.2) (side_mask p White _ _ m.white_men m.white_kings));
  free = free_mask p _ _ _ _ f.free m.black_men m.black_kings m.white_men m.white_kings free;
}
forces_are p masks f m mover free White e seen = record {
  mover = mover;
  men = subst (λ s. IsMaskOf (λ n. is_man s (cell_at p n)) f.men) (sym e) (subst (IsMaskOf (λ n. is_man White (cell_at p n))) (sym seen.0) m.white_men);
  kings = subst (λ s. IsMaskOf (λ n. is_king_of s (cell_at p n)) f.kings) (sym e) (subst (IsMaskOf (λ n. is_king_of White (cell_at p n))) (sym seen.1) m.white_kings);
  enemies = subst (λ s. IsMaskOf (λ n. belongs (other s) (cell_at p n)) f.enemies) (sym e) (subst (IsMaskOf (λ n. belongs Black (cell_at p n))) (sym seen.2) (side_mask p Black _ _ m.black_men m.black_kings));
  free = free_mask p _ _ _ _ f.free m.black_men m.black_kings m.white_men m.white_kings free;
}
