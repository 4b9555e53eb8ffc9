-- The masks of the board that four masks make are those four again, which `Position` needs as a
-- copy of its fields.
use Rattle.std.proofs.Common.{◌≡◌, ℕ, zero, suc, ◌+◌, ◌-◌, ◌*◌, ◌/◌, ◌%◌, ◌^◌, ◌<◌, Bool, true, false, not, ◌==◌, List, [], ◌∷◌, length, get_or, refl, sym, ◌∙◌, ap, subst, arith, inl, inr}
use Rattle.std.specs.Prelude.{nat_lt, count_by, if◌then◌else◌}
use Rattle.std.specs.List.{list_any}
use Rattle.std.specs.Int.{bit_at}
use Rattle.std.proofs.Math.Nat.{pow-succ'}
use Rattle.std.proofs.lemmas.Bool.{true≢false, false≢true, cases_Bool}
use Rattle.std.proofs.lemmas.Nat.Bits.{bit_at-lt, bit_at-zero, bit_at-suc, bit_at_lowest, same_from_bits_below}
use Rattle.std.proofs.lemmas.List.Folds.{list_any_at}
use Rattle.std.proofs.lemmas.List.FromFn.{get_or-map-range_with_len, get_or-range_with_len}
use Rattle.draughts_board.specs.declared.pieces.Side.{Side}
use Rattle.draughts_board.specs.declared.pieces.Side.TheVariants.{Black, White}
use Rattle.draughts_board.specs.declared.pieces.Cell.{Cell}
use Rattle.draughts_board.specs.declared.pieces.Cell.TheVariants.{Empty, Man, King}
use Rattle.draughts_board.specs.Geometry.{IsSquare, squares}
use Rattle.draughts_board.specs.Board.{Board, cell_at, same_cell}
use Rattle.draughts_board.specs.Masks.{stands_in, mask_of, masks_of, AreMasksOf, are_apart, cell_if, cell_in, cells_in, board_in, MakePosition}

-- ---- masks with the same squares

same_digit : (x y : ℕ) → x < 2 → y < 2 → (x == 1) ≡ (y == 1) → x ≡ y
same_digit zero zero a b e = refl
same_digit zero (suc zero) a b e = absurd (false≢true e)
same_digit (suc zero) zero a b e = absurd (true≢false e)
same_digit (suc zero) (suc zero) a b e = refl
same_digit (suc (suc x)) y a b e = absurd (omega arith)
same_digit x (suc (suc y)) a b e = absurd (omega arith)

pub same_masks : (a b : ℕ) → a < 2 ^ 32 → b < 2 ^ 32
    → ((n : ℕ) → IsSquare n → stands_in a n ≡ stands_in b n) → a ≡ b
same_masks a b fits_a fits_b h =
    same_from_bits_below 32 a b fits_a fits_b (λ i within.
    let back : i + 1 - 1 ≡ i = omega arith in
    subst (λ k. bit_at a k ≡ bit_at b k) back
    (same_digit (bit_at a (i + 1 - 1)) (bit_at b (i + 1 - 1)) (bit_at-lt a (i + 1 - 1))
    (bit_at-lt b (i + 1 - 1)) (h (i + 1) (omega arith, omega arith))))

-- ---- the mask of a piece

first_digit : (b : Bool) (rest : ℕ) → (((if b then 1 else 0) + 2 * rest) % 2 == 1) ≡ b
first_digit true rest = let e : (1 + 2 * rest) % 2 ≡ 1 = omega arith in ap (λ x. x == 1) e
first_digit false rest = let e : (0 + 2 * rest) % 2 ≡ 0 = omega arith in ap (λ x. x == 1) e

other_digits : (b : Bool) (rest : ℕ) → ((if b then 1 else 0) + 2 * rest) / 2 ≡ rest
other_digits true rest = omega arith
other_digits false rest = omega arith

bit_at-mask_of : (piece : Cell) → same_cell piece Empty ≡ false → (cells : List Cell) (k : ℕ)
    → (bit_at (mask_of piece cells) k == 1) ≡ same_cell piece (get_or cells k Empty)
unfolding mask_of
bit_at-mask_of piece none [] k = ap (λ x. x == 1) (bit_at-zero k) ∙ sym none
bit_at-mask_of piece none (c ∷ cells) zero =
    ap (λ x. x == 1) (bit_at_lowest (mask_of piece (c ∷ cells)))
    ∙ first_digit (same_cell piece c) (mask_of piece cells)
bit_at-mask_of piece none (c ∷ cells) (suc k) =
    ap (λ x. x == 1) (bit_at-suc (mask_of piece (c ∷ cells)) k
    ∙ ap (λ m. bit_at m k) (other_digits (same_cell piece c) (mask_of piece cells)))
    ∙ bit_at-mask_of piece none cells k

mask_of-fits_by : (b : Bool) (rest size : ℕ) → rest < 2 ^ size
    → (if b then 1 else 0) + 2 * rest < 2 ^ suc size
mask_of-fits_by true rest size h = omega (arith, pow-succ' 2 size)
mask_of-fits_by false rest size h = omega (arith, pow-succ' 2 size)

pub mask_of-fits : (piece : Cell) (cells : List Cell) → mask_of piece cells < 2 ^ length cells
unfolding mask_of
mask_of-fits piece [] = omega arith
mask_of-fits piece (c ∷ cells) = mask_of-fits_by (same_cell piece c) (mask_of piece cells)
    (length cells) (mask_of-fits piece cells)

pub mask_of-fits_32 : (piece : Cell) (cells : List Cell) → length cells ≡ 32
    → mask_of piece cells < 2 ^ 32
mask_of-fits_32 piece cells size =
    subst (λ n. mask_of piece cells < 2 ^ n) size (mask_of-fits piece cells)

-- ---- what the masks of a board hold

pub masks_of-AreMasksOf : (p : Board) → AreMasksOf p (masks_of p)
masks_of-AreMasksOf p = record {
  black_men = λ n h. bit_at-mask_of (Man Black) refl p.cells (n - 1);
  black_kings = λ n h. bit_at-mask_of (King Black) refl p.cells (n - 1);
  white_men = λ n h. bit_at-mask_of (Man White) refl p.cells (n - 1);
  white_kings = λ n h. bit_at-mask_of (King White) refl p.cells (n - 1);
}

pub same_as_masks_of : (p : Board) (a b c d : ℕ) → length p.cells ≡ 32 → a < 2 ^ 32 → b < 2 ^ 32
    → c < 2 ^ 32 → d < 2 ^ 32 → AreMasksOf p (a ∷ b ∷ c ∷ d ∷ [])
    → (a ≡ mask_of (Man Black) p.cells) × (b ≡ mask_of (King Black) p.cells)
    × (c ≡ mask_of (Man White) p.cells) × (d ≡ mask_of (King White) p.cells)
same_as_masks_of p a b c d size fa fb fc fd h =
    let m = masks_of-AreMasksOf p in
    let ea = same_masks a (mask_of (Man Black) p.cells) fa
    (mask_of-fits_32 (Man Black) p.cells size)
    (λ n s. h.black_men n s ∙ sym (m.black_men n s)) in
    let eb = same_masks b (mask_of (King Black) p.cells) fb
    (mask_of-fits_32 (King Black) p.cells size)
    (λ n s. h.black_kings n s ∙ sym (m.black_kings n s)) in
    let ec = same_masks c (mask_of (Man White) p.cells) fc
    (mask_of-fits_32 (Man White) p.cells size)
    (λ n s. h.white_men n s ∙ sym (m.white_men n s)) in
    let ed = same_masks d (mask_of (King White) p.cells) fd
    (mask_of-fits_32 (King White) p.cells size)
    (λ n s. h.white_kings n s ∙ sym (m.white_kings n s)) in
    (ea, eb, ec, ed)

-- ---- one cell and its four bits

-- two of the tests pass
abbrev pub crowded : Bool → Bool → Bool → Bool → Bool
crowded x y z w = nat_lt 1 (count_by (λ b. b) (x ∷ y ∷ z ∷ w ∷ []))

-- which of the four tests made the cell
pub record ArePieces (x y z w : Bool) : Type 0 where
  pub black_man : same_cell (Man Black) (cell_if x y z w) ≡ x
  pub black_king : same_cell (King Black) (cell_if x y z w) ≡ y
  pub white_man : same_cell (Man White) (cell_if x y z w) ≡ z
  pub white_king : same_cell (King White) (cell_if x y z w) ≡ w

pub are_pieces : (x y z w : Bool) → crowded x y z w ≡ false → ArePieces x y z w
are_pieces true false false false h =
    record { black_man = refl; black_king = refl; white_man = refl; white_king = refl }
are_pieces false true false false h =
    record { black_man = refl; black_king = refl; white_man = refl; white_king = refl }
are_pieces false false true false h =
    record { black_man = refl; black_king = refl; white_man = refl; white_king = refl }
are_pieces false false false true h =
    record { black_man = refl; black_king = refl; white_man = refl; white_king = refl }
are_pieces false false false false h =
    record { black_man = refl; black_king = refl; white_man = refl; white_king = refl }
are_pieces true true z w h = absurd (both_first z w h)
  where
    both_first : (z w : Bool) → crowded true true z w ≡ false → ⊥
    both_first true true e = true≢false e
    both_first true false e = true≢false e
    both_first false true e = true≢false e
    both_first false false e = true≢false e
are_pieces true false true true h = absurd (true≢false h)
are_pieces true false true false h = absurd (true≢false h)
are_pieces true false false true h = absurd (true≢false h)
are_pieces false true true true h = absurd (true≢false h)
are_pieces false true true false h = absurd (true≢false h)
are_pieces false true false true h = absurd (true≢false h)
are_pieces false false true true h = absurd (true≢false h)

-- ---- the cells of four masks

pub place_in : (n : ℕ) → IsSquare n → (n - 1 < 32) × (1 + (n - 1) ≡ n)
place_in n h = let least = h.0 in let most = h.1 in (omega arith, omega arith)

pub cell_at-cells_in : (masks : List ℕ) (s : Side) (n : ℕ) → IsSquare n
    → cell_at (board_in masks s) n ≡ cell_in masks n
unfolding cells_in squares
cell_at-cells_in masks s n h = let at =
    place_in n h in get_or-map-range_with_len (cell_in masks) 1 32 (n - 1) n Empty at.0 at.1

none_on_squares : (f : ℕ → Bool) → list_any f squares ≡ false → (n : ℕ) → IsSquare n → f n ≡ false
unfolding squares
none_on_squares f none n h =
    let at = place_in n h in
    let here : get_or squares (n - 1) 0 ≡ n = get_or-range_with_len 1 32 (n - 1) 0 at.0 ∙ at.1 in
    elim (cases_Bool (f n)) [
      | inl passes ↦ absurd (true≢false (sym
          (list_any_at f squares (n - 1) 0 at.0 (ap f here ∙ passes)) ∙ none))
      | inr fails ↦ fails
    ]

from_not : (b : Bool) → not b ≡ true → b ≡ false
from_not true e = absurd (false≢true e)
from_not false e = refl

-- each square stands in at most one of four masks that are apart
pub apart_at : (a b c d : ℕ) → are_apart (a ∷ b ∷ c ∷ d ∷ []) ≡ true → (n : ℕ) → IsSquare n
    → crowded (stands_in a n) (stands_in b n) (stands_in c n) (stands_in d n) ≡ false
apart_at a b c d apart n h = none_on_squares
    (λ n. crowded (stands_in a n) (stands_in b n) (stands_in c n) (stands_in d n))
    (from_not _ apart) n h

pub length-cells_in : (masks : List ℕ) → length (cells_in masks) ≡ 32
unfolding cells_in squares
length-cells_in masks = refl

-- ---- and back

pub apart-AreMasksOf : (a b c d : ℕ) (s : Side) → are_apart (a ∷ b ∷ c ∷ d ∷ []) ≡ true
    → AreMasksOf (board_in (a ∷ b ∷ c ∷ d ∷ []) s) (a ∷ b ∷ c ∷ d ∷ [])
apart-AreMasksOf a b c d s apart =
    let masks : List ℕ = a ∷ b ∷ c ∷ d ∷ [] in
    let made : (n : ℕ) → IsSquare n → ArePieces (stands_in a n) (stands_in b n) (stands_in c n)
    (stands_in d n) = λ n h. are_pieces _ _ _ _ (apart_at a b c d apart n h) in
    let at : (n : ℕ) → IsSquare n → cell_at (board_in masks s) n ≡ cell_in masks n =
    cell_at-cells_in masks s in
    record {
      black_men = λ n h. sym (ap (same_cell (Man Black)) (at n h) ∙ (made n h).black_man);
      black_kings = λ n h. sym (ap (same_cell (King Black)) (at n h) ∙ (made n h).black_king);
      white_men = λ n h. sym (ap (same_cell (Man White)) (at n h) ∙ (made n h).white_man);
      white_kings = λ n h. sym (ap (same_cell (King White)) (at n h) ∙ (made n h).white_king);
    }

-- the masks of the board that they make
pub masks-back : (a b c d : ℕ) (s : Side) → MakePosition a b c d s
    → (let cells : List Cell = cells_in (a ∷ b ∷ c ∷ d ∷ []) in
    (mask_of (Man Black) cells ≡ a) × (mask_of (King Black) cells ≡ b)
    × (mask_of (Man White) cells ≡ c) × (mask_of (King White) cells ≡ d))
masks-back a b c d s h =
    let masks : List ℕ = a ∷ b ∷ c ∷ d ∷ [] in
    let e = same_as_masks_of (board_in masks s) a b c d (length-cells_in masks)
    h.fits_black_men h.fits_black_kings h.fits_white_men h.fits_white_kings
    (apart-AreMasksOf a b c d s h.apart) in
    (sym e.0, sym e.1, sym e.2, sym e.3)
