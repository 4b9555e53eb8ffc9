-- How many squares stand in a mask, and what that says of the pieces of a board.
use Rattle.std.proofs.Common.{◌≡◌, ℕ, zero, suc, ◌+◌, ◌-◌, ◌^◌, ◌<◌, ◌==◌, Bool, true, false, cond, ◌&&◌, ◌||◌, List, [], ◌∷◌, length, map, get_or, refl, sym, ◌∙◌, ap, arith}
use Rattle.std.specs.Prelude.{count_by, slice_index}
use Rattle.std.specs.Int.{bit_at}
use Rattle.std.specs.Int.RustNames.{count_ones}
use Rattle.std.specs.Simd.Lanes.{mask_l}
use Rattle.std.specs.Int.Bits.{bit_or}
use Rattle.std.proofs.lemmas.Simd.{ones-mask_l, mask_l-lt, bit_mask_l}
use Rattle.std.proofs.lemmas.Nat.Bits.{bit_at-lt, same_from_bits_below}
use Rattle.std.proofs.lemmas.List.{same_lists, get_or_default}
use Rattle.std.proofs.lemmas.List.Sums.{sum_by-cons}
use Rattle.std.proofs.lemmas.List.FromFn.{get_or-map-range_with_len}
use Rattle.draughts_board.specs.declared.pieces.Side.{Side}
use Rattle.draughts_board.specs.declared.pieces.Side.TheVariants.{Black, White}
use Rattle.draughts_board.specs.declared.pieces.Cell.{Cell}
use Rattle.draughts_board.specs.declared.pieces.Cell.TheVariants.{Empty, Man, King}
use Rattle.draughts_board.specs.Geometry.{IsSquare, is_square, squares}
use Rattle.draughts_board.specs.Board.{Board, cell_at, belongs, pieces, same_cell}
use Rattle.draughts_board.specs.Masks.{stands_in, AreMasksOf}
use Rattle.draughts_board.proofs.Bits.{stands_in-or}
use Rattle.draughts_board.proofs.OnSquares.{square_so}

-- a digit from its test
digit : (x : ℕ) → x < 2 → cond (x == 1) 1 0 ≡ x
digit zero h = refl
digit (suc zero) h = refl
digit (suc (suc x)) h = absurd (omega arith)

mask_from_tests : (m : ℕ) → m < 2 ^ 32 → mask_l (map (stands_in m) squares) ≡ m
unfolding squares
mask_from_tests m fits =
    same_from_bits_below 32 (mask_l (map (stands_in m) squares)) m (mask_l-lt (map (stands_in m) squares)) fits (λ i within.
    let back : 1 + i - 1 ≡ i = omega arith in
    bit_mask_l (map (stands_in m) squares) i
    ∙ ap (λ b. cond b 1 0) (get_or-map-range_with_len (stands_in m) 1 32 i (1 + i) false within refl ∙ ap (λ k. bit_at m k == 1) back)
    ∙ digit (bit_at m i) (bit_at-lt m i))

pub ones-stands_in : (m : ℕ) → m < 2 ^ 32 → count_ones m ≡ count_by (stands_in m) squares
ones-stands_in m fits = ap count_ones (sym (mask_from_tests m fits)) ∙ ones-mask_l (stands_in m) squares

-- ---- the pieces of a side

guarded : (b x y : Bool) → (b ≡ true → x ≡ y) → (b && x) ≡ (b && y)
guarded true x y h = h refl
guarded false x y h = refl

count-guarded : (f : ℕ → Bool) → count_by f squares ≡ count_by (λ n. is_square n && f n) squares
unfolding squares
count-guarded f = refl

count-on_squares : (f g : ℕ → Bool) → ((n : ℕ) → IsSquare n → f n ≡ g n) → count_by f squares ≡ count_by g squares
count-on_squares f g h =
    count-guarded f ∙ (λ i. count_by (λ n. guarded (is_square n) (f n) (g n) (λ e. h n (square_so n e)) i) squares) ∙ sym (count-guarded g)

count-map : (test : Cell → Bool) (f : ℕ → Cell) (ns : List ℕ) → count_by test (map f ns) ≡ count_by (λ n. test (f n)) ns
count-map test f [] = refl
count-map test f (n ∷ ns) = sum_by-cons (λ c. cond (test c) 1 0) (f n) (map f ns) ∙ ap (λ k. cond (test (f n)) 1 0 + k) (count-map test f ns) ∙ sym (sum_by-cons (λ m. cond (test (f m)) 1 0) n ns)

cells-listed : (p : Board) → length p.cells ≡ 32 → map (cell_at p) squares ≡ p.cells
unfolding squares
cells-listed p size =
    same_lists (map (cell_at p) squares) p.cells (sym size) (λ k d within.
    let back : 1 + k - 1 ≡ k = omega arith in
    get_or-map-range_with_len (cell_at p) 1 32 k (1 + k) d within refl
    ∙ ap (λ j. get_or p.cells j Empty) back
    ∙ get_or_default p.cells k Empty d (omega (arith, size)))

count-pieces : (p : Board) (s : Side) → length p.cells ≡ 32 → count_by (λ n. belongs s (cell_at p n)) squares ≡ pieces s p.cells
count-pieces p s size = sym (count-map (belongs s) (cell_at p) squares) ∙ ap (count_by (belongs s)) (cells-listed p size)

black_belongs : (c : Cell) → (same_cell (Man Black) c || same_cell (King Black) c) ≡ belongs Black c
black_belongs Empty = refl
black_belongs (Man Black) = refl
black_belongs (Man White) = refl
black_belongs (King Black) = refl
black_belongs (King White) = refl

white_belongs : (c : Cell) → (same_cell (Man White) c || same_cell (King White) c) ≡ belongs White c
white_belongs Empty = refl
white_belongs (Man Black) = refl
white_belongs (Man White) = refl
white_belongs (King Black) = refl
white_belongs (King White) = refl

pub count-black : (p : Board) (masks : List ℕ) → length p.cells ≡ 32 → AreMasksOf p masks → count_by (stands_in (bit_or (slice_index masks 0) (slice_index masks 1))) squares ≡ pieces Black p.cells
count-black p masks size h =
    count-on_squares (stands_in (bit_or (slice_index masks 0) (slice_index masks 1))) (λ n. belongs Black (cell_at p n)) (λ n s.
    stands_in-or (slice_index masks 0) (slice_index masks 1) n
    ∙ (λ i. h.black_men n s i || h.black_kings n s i)
    ∙ black_belongs (cell_at p n))
    ∙ count-pieces p Black size

pub count-white : (p : Board) (masks : List ℕ) → length p.cells ≡ 32 → AreMasksOf p masks → count_by (stands_in (bit_or (slice_index masks 2) (slice_index masks 3))) squares ≡ pieces White p.cells
count-white p masks size h =
    count-on_squares (stands_in (bit_or (slice_index masks 2) (slice_index masks 3))) (λ n. belongs White (cell_at p n)) (λ n s.
    stands_in-or (slice_index masks 2) (slice_index masks 3) n
    ∙ (λ i. h.white_men n s i || h.white_kings n s i)
    ∙ white_belongs (cell_at p n))
    ∙ count-pieces p White size
