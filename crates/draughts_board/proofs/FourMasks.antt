-- A board and its four masks: each gives the other back.
use Rattle.std.proofs.Common.{◌≡◌, ℕ, zero, suc, ◌+◌, ◌-◌, ◌^◌, ◌<◌, Bool, true, false, cond, not, ◌&&◌, ◌||◌, ◌==◌, List, [], ◌∷◌, length, map, get_or, refl, sym, ◌∙◌, ap, subst, arith, inl, inr, ◌⊎◌, ◌≢◌, set}
use Rattle.std.specs.Prelude.{slice_index, if◌then◌else◌, All}
use Rattle.std.specs.List.{list_any, range_with_len}
use Rattle.std.specs.Int.Bits.{bit_and, bit_or}
use Rattle.std.proofs.Math.Bool.{or-false, not-not}
use Rattle.std.proofs.lemmas.Bool.Decides.{eqb_tells}
use Rattle.std.proofs.lemmas.Bool.{true≢false}
use Rattle.std.proofs.lemmas.List.{same_lists, get_or_default, get_or-set_same, get_or-set_other}
use Rattle.std.proofs.lemmas.List.FromFn.{get_or-map-range_with_len}
use Rattle.draughts_board.specs.declared.pieces.Side.{Side}
use Rattle.draughts_board.specs.declared.pieces.Side.TheVariants.{Black, White}
use Rattle.draughts_board.specs.declared.pieces.Cell.{Cell}
use Rattle.draughts_board.specs.declared.pieces.Cell.TheVariants.{Empty, Man, King}
use Rattle.draughts_board.specs.Geometry.{IsSquare, squares, row}
use Rattle.draughts_board.specs.Board.{Board, IsLawful, cell_at, same_cell, is_allowed, all_allowed}
use Rattle.draughts_board.specs.Masks.{stands_in, IsMaskOf, mask_of, masks_of, AreMasksOf, are_apart, cell_if, cell_in, cells_in, board_in, MakePosition}
use Rattle.draughts_board.specs.Laws.{MasksMakePosition}
use Rattle.draughts_board.specs.Rules.{put}
use Rattle.draughts_board.specs.MasksBack.{crowded, same_as_masks_of, masks_of-AreMasksOf, mask_of-fits_32, apart_at, place_in, length-cells_in, apart-AreMasksOf}
use Rattle.draughts_board.proofs.Bits.{stands_in-and, stands_in-or}
use Rattle.draughts_board.proofs.OnSquares.{any-on_squares}

-- ---- one cell and its four bits

cell_if-cell : (c : Cell) → cell_if (same_cell (Man Black) c) (same_cell (King Black) c) (same_cell (Man White) c) (same_cell (King White) c) ≡ c
cell_if-cell Empty = refl
cell_if-cell (Man Black) = refl
cell_if-cell (Man White) = refl
cell_if-cell (King Black) = refl
cell_if-cell (King White) = refl

not_crowded : (c : Cell) → crowded (same_cell (Man Black) c) (same_cell (King Black) c) (same_cell (Man White) c) (same_cell (King White) c) ≡ false
not_crowded Empty = refl
not_crowded (Man Black) = refl
not_crowded (Man White) = refl
not_crowded (King Black) = refl
not_crowded (King White) = refl

-- ---- boards made by masks

none_stand : list_any (λ n. false) squares ≡ false
unfolding squares
none_stand = refl

pub apart_from : (a b c d : ℕ) → ((n : ℕ) → IsSquare n → crowded (stands_in a n) (stands_in b n) (stands_in c n) (stands_in d n) ≡ false) → are_apart (a ∷ b ∷ c ∷ d ∷ []) ≡ true
apart_from a b c d each = ap not (any-on_squares (λ n. crowded (stands_in a n) (stands_in b n) (stands_in c n) (stands_in d n)) (λ n. false) each ∙ none_stand)

pub masks_of-apart : (p : Board) → are_apart (masks_of p) ≡ true
masks_of-apart p =
    let m = masks_of-AreMasksOf p in
    apart_from _ _ _ _ (λ n h.
    (λ i. crowded (m.black_men n h i) (m.black_kings n h i) (m.white_men n h i) (m.white_kings n h i)) ∙ not_crowded (cell_at p n))

pub cells_in-masks_of : (p : Board) → length p.cells ≡ 32 → cells_in (masks_of p) ≡ p.cells
unfolding cells_in squares
cells_in-masks_of p size =
    let masks : List ℕ = masks_of p in
    let m = masks_of-AreMasksOf p in
    same_lists (cells_in masks) p.cells (sym size) (λ k d within.
    let square : IsSquare (1 + k) = (omega arith, omega arith) in
    let back : 1 + k - 1 ≡ k = omega arith in
    get_or-map-range_with_len (cell_in masks) 1 32 k (1 + k) d within refl
    ∙ (λ i. cell_if (m.black_men (1 + k) square i) (m.black_kings (1 + k) square i) (m.white_men (1 + k) square i) (m.white_kings (1 + k) square i))
    ∙ cell_if-cell (cell_at p (1 + k))
    ∙ ap (λ j. get_or p.cells j Empty) back
    ∙ get_or_default p.cells k Empty d (omega (arith, size)))

-- ---- positions

-- masks of 32 bits that hold the squares of a lawful board's pieces make it
pub make_position : (p : Board) (a b c d : ℕ) → a < 2 ^ 32 → b < 2 ^ 32 → c < 2 ^ 32 → d < 2 ^ 32 → AreMasksOf p (a ∷ b ∷ c ∷ d ∷ []) → IsLawful p
    → MakePosition a b c d p.to_move × (board_in (a ∷ b ∷ c ∷ d ∷ []) p.to_move ≡ p)
make_position p a b c d fa fb fc fd h lawful =
    let e = same_as_masks_of p a b c d lawful.squares fa fb fc fd h in
    let same : a ∷ b ∷ c ∷ d ∷ [] ≡ masks_of p = λ i. e.0 i ∷ e.1 i ∷ e.2 i ∷ e.3 i ∷ [] in
    let cells : cells_in (a ∷ b ∷ c ∷ d ∷ []) ≡ p.cells = ap cells_in same ∙ cells_in-masks_of p lawful.squares in
    let board : board_in (a ∷ b ∷ c ∷ d ∷ []) p.to_move ≡ p = λ i. record { cells = cells i; to_move = p.to_move } in (
      record {
        fits_black_men = fa;
        fits_black_kings = fb;
        fits_white_men = fc;
        fits_white_kings = fd;
        apart = subst (λ masks. are_apart masks ≡ true) (sym same) (masks_of-apart p);
        lawful = subst IsLawful (sym board) lawful;
      },
      board,
    )

-- the same of the masks that the board has
pub position_of_masks : (p : Board) (a b c d : ℕ) → a ≡ mask_of (Man Black) p.cells → b ≡ mask_of (King Black) p.cells → c ≡ mask_of (Man White) p.cells → d ≡ mask_of (King White) p.cells → IsLawful p
    → MakePosition a b c d p.to_move × (board_in (a ∷ b ∷ c ∷ d ∷ []) p.to_move ≡ p)
position_of_masks p a b c d ea eb ec ed lawful =
    let size = lawful.squares in
    make_position p a b c d
    (subst (λ m. m < 2 ^ 32) (sym ea) (mask_of-fits_32 (Man Black) p.cells size))
    (subst (λ m. m < 2 ^ 32) (sym eb) (mask_of-fits_32 (King Black) p.cells size))
    (subst (λ m. m < 2 ^ 32) (sym ec) (mask_of-fits_32 (Man White) p.cells size))
    (subst (λ m. m < 2 ^ 32) (sym ed) (mask_of-fits_32 (King White) p.cells size))
    (subst (AreMasksOf p) (λ i. sym ea i ∷ sym eb i ∷ sym ec i ∷ sym ed i ∷ []) (masks_of-AreMasksOf p))
    lawful

-- boards of 32 cells with the same masks and the same side to move are the same
pub same_by_masks : (p q : Board) → length p.cells ≡ 32 → length q.cells ≡ 32 → masks_of p ≡ masks_of q → p.to_move ≡ q.to_move → p ≡ q
same_by_masks p q size_p size_q masks mover =
    let cells : p.cells ≡ q.cells = sym (cells_in-masks_of p size_p) ∙ ap cells_in masks ∙ cells_in-masks_of q size_q in
    (λ i. record { cells = cells i; to_move = mover i })

-- a list of four is its elements
pub four : (masks : List ℕ) → length masks ≡ 4 → get_or masks 0 0 ∷ get_or masks 1 0 ∷ get_or masks 2 0 ∷ get_or masks 3 0 ∷ [] ≡ masks
four (a ∷ b ∷ c ∷ d ∷ []) e = refl
four [] e = absurd (omega (arith, e))
four (a ∷ []) e = absurd (omega (arith, e))
four (a ∷ b ∷ []) e = absurd (omega (arith, e))
four (a ∷ b ∷ c ∷ []) e = absurd (omega (arith, e))
four (a ∷ b ∷ c ∷ d ∷ x ∷ more) e = absurd (omega (arith, e))

pub position-masks : (p : Board) → IsLawful p → MasksMakePosition p
position-masks p lawful =
    let size = lawful.squares in
    let cells = cells_in-masks_of p size in
    record {
      fits = λ piece. mask_of-fits_32 piece p.cells size;
      apart = masks_of-apart p;
      back = λ i. record { cells = cells i; to_move = p.to_move };
    }

masks_of-four : (a b c d : ℕ) (s : Side) → a < 2 ^ 32 → b < 2 ^ 32 → c < 2 ^ 32 → d < 2 ^ 32 → are_apart (a ∷ b ∷ c ∷ d ∷ []) ≡ true → masks_of (board_in (a ∷ b ∷ c ∷ d ∷ []) s) ≡ a ∷ b ∷ c ∷ d ∷ []
masks_of-four a b c d s fa fb fc fd apart =
    let masks : List ℕ = a ∷ b ∷ c ∷ d ∷ [] in
    let e = same_as_masks_of (board_in masks s) a b c d (length-cells_in masks) fa fb fc fd (apart-AreMasksOf a b c d s apart) in
    sym (λ i. e.0 i ∷ e.1 i ∷ e.2 i ∷ e.3 i ∷ [])

pub masks_of-board_in : (masks : List ℕ) (s : Side) → length masks ≡ 4 → All (λ m. m < 2 ^ 32) masks → are_apart masks ≡ true → masks_of (board_in masks s) ≡ masks
masks_of-board_in masks s size fits apart =
    let within : (k : ℕ) → k < 4 → get_or masks k 0 < 2 ^ 32 = λ k l. fits k 0 (omega (arith, size, l)) in
    subst (λ ms. masks_of (board_in ms s) ≡ ms) (four masks size)
    (masks_of-four (get_or masks 0 0) (get_or masks 1 0) (get_or masks 2 0) (get_or masks 3 0) s (within 0 (omega arith)) (within 1 (omega arith)) (within 2 (omega arith)) (within 3 (omega arith))
    (subst (λ ms. are_apart ms ≡ true) (sym (four masks size)) apart))

-- ---- tests of four masks

-- two of four bits are set
crowded_by_pairs : (x y z w : Bool) → (((x && y) || (z && w)) || ((x || y) && (z || w))) ≡ crowded x y z w
crowded_by_pairs true true true true = refl
crowded_by_pairs true true true false = refl
crowded_by_pairs true true false true = refl
crowded_by_pairs true true false false = refl
crowded_by_pairs true false true true = refl
crowded_by_pairs true false true false = refl
crowded_by_pairs true false false true = refl
crowded_by_pairs true false false false = refl
crowded_by_pairs false true true true = refl
crowded_by_pairs false true true false = refl
crowded_by_pairs false true false true = refl
crowded_by_pairs false true false false = refl
crowded_by_pairs false false true true = refl
crowded_by_pairs false false true false = refl
crowded_by_pairs false false false true = refl
crowded_by_pairs false false false false = refl

shared-crowded : (a b c d n : ℕ) → stands_in (bit_or (bit_or (bit_and a b) (bit_and c d)) (bit_and (bit_or a b) (bit_or c d))) n ≡ crowded (stands_in a n) (stands_in b n) (stands_in c n) (stands_in d n)
shared-crowded a b c d n =
    stands_in-or (bit_or (bit_and a b) (bit_and c d)) (bit_and (bit_or a b) (bit_or c d)) n
    ∙ (λ i. (stands_in-or (bit_and a b) (bit_and c d) n ∙ (λ j. stands_in-and a b n j || stands_in-and c d n j)) i
    || (stands_in-and (bit_or a b) (bit_or c d) n ∙ (λ j. stands_in-or a b n j && stands_in-or c d n j)) i)
    ∙ crowded_by_pairs (stands_in a n) (stands_in b n) (stands_in c n) (stands_in d n)

pub apart-by_shared : (masks : List ℕ) → length masks ≡ 4
    → not (list_any (stands_in (bit_or (bit_or (bit_and (get_or masks 0 0) (get_or masks 1 0)) (bit_and (get_or masks 2 0) (get_or masks 3 0))) (bit_and (bit_or (get_or masks 0 0) (get_or masks 1 0)) (bit_or (get_or masks 2 0) (get_or masks 3 0))))) squares) ≡ are_apart masks
apart-by_shared masks size =
    let a : ℕ = get_or masks 0 0 in
    let b : ℕ = get_or masks 1 0 in
    let c : ℕ = get_or masks 2 0 in
    let d : ℕ = get_or masks 3 0 in
    ap not (any-on_squares (stands_in (bit_or (bit_or (bit_and a b) (bit_and c d)) (bit_and (bit_or a b) (bit_or c d)))) (λ n. crowded (stands_in a n) (stands_in b n) (stands_in c n) (stands_in d n)) (λ n s. shared-crowded a b c d n))
    ∙ ap are_apart (four masks size)

pub apart_masks-AreMasksOf : (masks : List ℕ) (s : Side) → length masks ≡ 4 → are_apart masks ≡ true → AreMasksOf (board_in masks s) masks
apart_masks-AreMasksOf masks s size apart =
    subst (λ ms. AreMasksOf (board_in ms s) ms) (four masks size) (apart-AreMasksOf (get_or masks 0 0) (get_or masks 1 0) (get_or masks 2 0) (get_or masks 3 0) s (subst (λ ms. are_apart ms ≡ true) (sym (four masks size)) apart))

-- a man on its farthest row
misplaced_cell : (x y z w : Bool) (n : ℕ) → crowded x y z w ≡ false → ((x && row n == 7) || (z && row n == 0)) ≡ not (is_allowed n (cell_if x y z w))
misplaced_cell true false false false n h = or-false (row n == 7) ∙ sym (not-not (row n == 7))
misplaced_cell false true false false n h = refl
misplaced_cell false false true false n h = sym (not-not (row n == 0))
misplaced_cell false false false true n h = refl
misplaced_cell false false false false n h = refl
misplaced_cell true true true true n h = absurd (true≢false h)
misplaced_cell true true true false n h = absurd (true≢false h)
misplaced_cell true true false true n h = absurd (true≢false h)
misplaced_cell true true false false n h = absurd (true≢false h)
misplaced_cell true false true true n h = absurd (true≢false h)
misplaced_cell true false true false n h = absurd (true≢false h)
misplaced_cell true false false true n h = absurd (true≢false h)
misplaced_cell false true true true n h = absurd (true≢false h)
misplaced_cell false true true false n h = absurd (true≢false h)
misplaced_cell false true false true n h = absurd (true≢false h)
misplaced_cell false false true true n h = absurd (true≢false h)

test_at : (f g : ℕ → Bool) → map f (range_with_len 1 32) ≡ map g (range_with_len 1 32) → (x : ℕ) → IsSquare x → f x ≡ g x
test_at f g e x h =
    let at = place_in x h in
    sym (get_or-map-range_with_len f 1 32 (x - 1) x false at.0 at.1) ∙ ap (λ l. get_or l (x - 1) false) e ∙ get_or-map-range_with_len g 1 32 (x - 1) x false at.0 at.1

last_row : (n : ℕ) → IsSquare n → stands_in 4026531840 n ≡ (row n == 7)
last_row = test_at (stands_in 4026531840) (λ n. row n == 7) refl

first_row : (n : ℕ) → IsSquare n → stands_in 15 n ≡ (row n == 0)
first_row = test_at (stands_in 15) (λ n. row n == 0) refl

-- n numbers from k on
abbrev counted : ℕ → ℕ → List ℕ
counted k zero = []
counted k (suc n) = k ∷ counted (k + 1) n

none_misplaced : (b : Bool) (rest : Bool) (later : Bool) → not rest ≡ later → not (not b || rest) ≡ (b && later)
none_misplaced true rest later e = e
none_misplaced false rest later e = refl

allowed-counted : (f : ℕ → Cell) (k n : ℕ) → not (list_any (λ m. not (is_allowed m (f m))) (counted k n)) ≡ all_allowed k (map f (counted k n))
allowed-counted f k zero = refl
allowed-counted f k (suc n) = none_misplaced (is_allowed k (f k)) (list_any (λ m. not (is_allowed m (f m))) (counted (k + 1) n)) (all_allowed (k + 1) (map f (counted (k + 1) n))) (allowed-counted f (k + 1) n)

allowed-squares : (f : ℕ → Cell) → not (list_any (λ m. not (is_allowed m (f m))) squares) ≡ all_allowed 1 (map f squares)
unfolding squares
allowed-squares f = allowed-counted f 1 32

pub allowed-by_rows : (masks : List ℕ) → length masks ≡ 4 → are_apart masks ≡ true
    → not (list_any (stands_in (bit_or (bit_and (get_or masks 0 0) 4026531840) (bit_and (get_or masks 2 0) 15))) squares) ≡ all_allowed 1 (cells_in masks)
unfolding cells_in
allowed-by_rows masks size apart =
    let a : ℕ = get_or masks 0 0 in
    let b : ℕ = get_or masks 1 0 in
    let c : ℕ = get_or masks 2 0 in
    let d : ℕ = get_or masks 3 0 in
    let each = apart_at a b c d (subst (λ ms. are_apart ms ≡ true) (sym (four masks size)) apart) in
    ap not (any-on_squares (stands_in (bit_or (bit_and a 4026531840) (bit_and c 15))) (λ n. not (is_allowed n (cell_in masks n))) (λ n s.
    stands_in-or (bit_and a 4026531840) (bit_and c 15) n
    ∙ (λ i. (stands_in-and a 4026531840 n ∙ ap (λ t. stands_in a n && t) (last_row n s)) i || (stands_in-and c 15 n ∙ ap (λ t. stands_in c n && t) (first_row n s)) i)
    ∙ misplaced_cell (stands_in a n) (stands_in b n) (stands_in c n) (stands_in d n) n (each n s)))
    ∙ allowed-squares (cell_in masks)

-- ---- a cell put on a square

cell_at-put_by : (p : Board) (x : ℕ) (cell : Cell) (n : ℕ) → length p.cells ≡ 32 → IsSquare x → IsSquare n → ((n == x) ≡ true) × (n ≡ x) ⊎ ((n == x) ≡ false) × (n ≢ x)
    → get_or (put p.cells x cell) (n - 1) Empty ≡ cond (n == x) cell (cell_at p n)
cell_at-put_by p x cell n size hx hn (inl h) =
    let at = place_in x hx in
    ap (λ k. get_or (set p.cells (x - 1) cell) (k - 1) Empty) h.1
    ∙ get_or-set_same p.cells (x - 1) cell Empty (omega (arith, at.0, size))
    ∙ sym (ap (λ b. cond b cell (cell_at p n)) h.0)
cell_at-put_by p x cell n size hx hn (inr h) =
    get_or-set_other p.cells (x - 1) (n - 1) cell Empty (λ e. h.1 (omega (arith, e, hx.0, hn.0)))
    ∙ sym (ap (λ b. cond b cell (cell_at p n)) h.0)

same_cell-put : (piece cell old : Cell) (b : Bool) → same_cell piece (cond b cell old) ≡ cond b (same_cell piece cell) (same_cell piece old)
same_cell-put piece cell old true = refl
same_cell-put piece cell old false = refl

-- one mask of the board where the cell is put on the square
mask-put : (p : Board) (x : ℕ) (cell piece : Cell) (old new : ℕ) → length p.cells ≡ 32 → IsSquare x
    → IsMaskOf (λ n. same_cell piece (cell_at p n)) old
    → IsMaskOf (λ n. if n == x then same_cell piece cell else stands_in old n) new
    → IsMaskOf (λ n. same_cell piece (get_or (put p.cells x cell) (n - 1) Empty)) new
mask-put p x cell piece old new size hx held h n hn =
    h n hn
    ∙ ap (λ t. cond (n == x) (same_cell piece cell) t) (held n hn)
    ∙ sym (ap (same_cell piece) (cell_at-put_by p x cell n size hx hn (eqb_tells n x)) ∙ same_cell-put piece cell (cell_at p n) (n == x))

pub position-put : (p : Board) (x : ℕ) (cell : Cell) (s : Side) (masks : List ℕ) (a b c d : ℕ) → length p.cells ≡ 32 → IsSquare x → AreMasksOf p masks
    → a < 2 ^ 32 → b < 2 ^ 32 → c < 2 ^ 32 → d < 2 ^ 32
    → IsMaskOf (λ n. if n == x then same_cell (Man Black) cell else stands_in (slice_index masks 0) n) a
    → IsMaskOf (λ n. if n == x then same_cell (King Black) cell else stands_in (slice_index masks 1) n) b
    → IsMaskOf (λ n. if n == x then same_cell (Man White) cell else stands_in (slice_index masks 2) n) c
    → IsMaskOf (λ n. if n == x then same_cell (King White) cell else stands_in (slice_index masks 3) n) d
    → IsLawful (record { cells = put p.cells x cell; to_move = s })
    → MakePosition a b c d s × (board_in (a ∷ b ∷ c ∷ d ∷ []) s ≡ record { cells = put p.cells x cell; to_move = s })
position-put p x cell s masks a b c d size hx held fa fb fc fd ha hb hc hd lawful =
    make_position (record { cells = put p.cells x cell; to_move = s }) a b c d fa fb fc fd (record {
      black_men = mask-put p x cell (Man Black) (slice_index masks 0) a size hx held.black_men ha;
      black_kings = mask-put p x cell (King Black) (slice_index masks 1) b size hx held.black_kings hb;
      white_men = mask-put p x cell (Man White) (slice_index masks 2) c size hx held.white_men hc;
      white_kings = mask-put p x cell (King White) (slice_index masks 3) d size hx held.white_kings hd;
    }) lawful
