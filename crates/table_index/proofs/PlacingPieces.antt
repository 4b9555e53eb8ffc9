-- The loop over the squares of a choice, lowest first: what stands on the squares before, and which squares are left.
use Rattle.std.proofs.Common.{◌≡◌, ℕ, zero, suc, ◌+◌, ◌-◌, ◌/◌, ◌%◌, ◌^◌, ◌<◌, ◌≤◌, true, false, cond, not, List, [], ◌∷◌, length, drop, get_or, set, replicate, slice_get, Option, Some, None, refl, sym, ap, ap₂, subst, ◌∙◌, ⊎_elim, arith}
use Rattle.std.proofs.lemmas.List.{drop_all, drop_more}
use Rattle.std.proofs.lemmas.Bool.{cases_lt}
use Rattle.std.proofs.lemmas.Option.{same_Some}
use Rattle.std.specs.Prelude.{MatchOption, IsTrue, IsFalse}
use Rattle.draughts_board.specs.declared.pieces.Cell.{Cell}
use Rattle.draughts_board.specs.declared.pieces.Cell.TheVariants.{Empty}
use Rattle.draughts_board.specs.Geometry.{squares}
use Rattle.draughts_board.specs.declared.pieces.Side.{Side}
use Rattle.draughts_board.specs.Board.{Board, IsLawful, cell_at, is_empty, is_allowed, all_allowed}
use Rattle.draughts_board.specs.Rules.{put}
use Rattle.draughts_board.specs.Masks.{IsMaskOf, squares_of}
use Rattle.draughts_board.proofs.OnSquares.{squares_of-test}
use Rattle.table_index.specs.Counting.{choose}
use Rattle.table_index.specs.Order.{choices, piece_numbered, with_pieces_on}
use Rattle.table_index.proofs.CellsFrom.{stood, length-stood}
use Rattle.table_index.proofs.OrderLemmas.{cells-of_choice, choice-at, occupied-stood}
use Rattle.table_index.proofs.Building.{IsBuilt, wanted-chosen, built-start, built-none, built-piece, built-lawful, rebuilt, refused, piece-step, code-piece, put-there, full-from_place, none-from_place}

-- The cells stand up to some place, behind which the squares of the mask are left, and kinds k.
pub record IsPlacing (all : List Cell) (left a k : ℕ) (cells : List Cell) : Type 0 where
  pub at : ℕ
  pub choice : ℕ
  pub inside : at ≤ 32
  pub built : IsBuilt all at a choice k cells
  pub rest : stood (at + 1) (drop at all) ≡ squares_of left

pub placing-start : (n place kinds mask : ℕ) → n ≤ 3 → place < choose n 32 → kinds < 4 ^ n → slice_get (choices n squares) place ≡ Some (squares_of mask)
    → IsPlacing (with_pieces_on (replicate 32 Empty) (squares_of mask) kinds) mask n kinds (replicate 32 Empty)
placing-start n place kinds mask few below small there = record {
  at = 0;
  choice = place;
  inside = omega arith;
  built = subst (λ all. IsBuilt all 0 n place kinds (replicate 32 Empty)) (wanted-chosen n place kinds (squares_of mask) there) (built-start n place kinds few below small);
  rest = (cells-of_choice n place kinds (squares_of mask) there small).squares;
}

-- Square x is the next one on which a piece is put, and the squares of `behind` come after it.
pub record IsNextPlace (all : List Cell) (x a k : ℕ) (cells : List Cell) (behind : List ℕ) : Type 0 where
  pub choice : ℕ
  pub some : 0 < a
  pub low : 1 ≤ x
  pub high : x - 1 < 32
  pub built : IsBuilt all (x - 1) a choice k cells
  pub below : choice < choose (a - 1) (31 - (x - 1))
  pub rest : stood (x + 1) (drop x all) ≡ behind

-- the squares of the cells from a place on, by the first of these cells
stood-full : (all : List Cell) (i : ℕ) → length all ≡ 32 → i < 32 → is_empty (get_or all i Empty) ≡ false → stood (i + 1) (drop i all) ≡ (i + 1) ∷ stood (i + 1 + 1) (drop (i + 1) all)
stood-full all i long h e =
    let n : suc (i + 1) ≡ i + 1 + 1 = omega arith in
    ap (stood (i + 1)) (drop_more all i Empty (omega arith))
    ∙ ap (λ t. cond t (stood (suc (i + 1)) (drop (i + 1) all)) ((i + 1) ∷ stood (suc (i + 1)) (drop (i + 1) all))) e
    ∙ ap (λ m. (i + 1) ∷ stood m (drop (i + 1) all)) n

stood-none : (all : List Cell) (i : ℕ) → length all ≡ 32 → i < 32 → is_empty (get_or all i Empty) ≡ true → stood (i + 1) (drop i all) ≡ stood (i + 1 + 1) (drop (i + 1) all)
stood-none all i long h e =
    let n : suc (i + 1) ≡ i + 1 + 1 = omega arith in
    ap (stood (i + 1)) (drop_more all i Empty (omega arith))
    ∙ ap (λ t. cond t (stood (suc (i + 1)) (drop (i + 1) all)) ((i + 1) ∷ stood (suc (i + 1)) (drop (i + 1) all))) e
    ∙ ap (λ m. stood m (drop (i + 1) all)) n

-- the first square that is left is found among the next d places
next-place : (d : ℕ) (all : List Cell) (i a b k : ℕ) (cells : List Cell) (x : ℕ) (behind : List ℕ) → i + d ≡ 32 → IsBuilt all i a b k cells → stood (i + 1) (drop i all) ≡ x ∷ behind
    → IsNextPlace all x a k cells behind
next-place zero all i a b k cells x behind end built e =
    let long = built.long in
    let none : x ∷ behind ≡ [] = sym e ∙ ap (stood (i + 1)) (drop_all i all (omega arith)) in
    absurd (cc)
next-place (suc d) all i a b k cells x behind end built e =
    let long = built.long in
    let inside : i < 32 = omega arith in
    let many : a ≡ suc (length behind) = built.count ∙ sym (length-stood (i + 1) (drop i all)) ∙ ap length e in
    let some : 0 < a = omega arith in
    ⊎_elim
    (λ (below : b < choose (a - 1) (31 - i)).
    let here = sym e ∙ stood-full all i long inside (full-from_place all i a b k cells built some inside below) in
    let first : x ≡ i + 1 = ap (λ l. get_or l 0 0) here in
    let place : x - 1 ≡ i = omega arith in
    record {
      choice = b;
      some = some;
      low = omega arith;
      high = omega arith;
      built = subst (λ m. IsBuilt all m a b k cells) (sym place) built;
      below = subst (λ m. b < choose (a - 1) (31 - m)) (sym place) below;
      rest = ap (λ m. stood (m + 1) (drop m all)) first ∙ sym (ap (drop 1) here);
    })
    (λ (least : choose (a - 1) (31 - i) ≤ b).
    next-place d all (i + 1) a (b - choose (a - 1) (31 - i)) k cells x behind (omega arith) (built-none all i a b k cells built some inside least)
    (sym (stood-none all i long inside (none-from_place all i a b k cells built some inside least)) ∙ e))
    (cases_lt b (choose (a - 1) (31 - i)))

pub placing-next : (all : List Cell) (left a k : ℕ) (cells : List Cell) (x later : ℕ) → IsPlacing all left a k cells → squares_of left ≡ x ∷ squares_of later
    → IsNextPlace all x a k cells (squares_of later)
placing-next all left a k cells x later h first =
    let inside = h.inside in
    next-place (32 - h.at) all h.at a h.choice k cells x (squares_of later) (omega arith) h.built (h.rest ∙ first)

squares_of-zero : squares_of 0 ≡ []
unfolding squares_of squares
squares_of-zero = refl

-- no piece is left where no square is
pub placing-end : (all : List Cell) (left a k : ℕ) (cells : List Cell) → IsPlacing all left a k cells → left ≡ 0 → a ≡ 0
placing-end all left a k cells h end =
    h.built.count ∙ sym (length-stood (h.at + 1) (drop h.at all)) ∙ ap length (h.rest ∙ ap squares_of end ∙ squares_of-zero)

-- ---- the piece at hand, by the names that the code has

module _ (all : List Cell) (a k : ℕ) (cells : List Cell) (x later weight place : ℕ) (piece : Cell) (next : IsNextPlace all x a k cells (squares_of later)) (w : weight ≡ 4 ^ (a - 1)) (at : place ≡ x - 1) where
  pub placing-digit : k / weight < 4
  placing-digit = subst (λ m. k / m < 4) (sym w) (piece-step all (x - 1) a next.choice k cells next.built next.some next.high next.below).digit

  same_test : piece ≡ piece_numbered (k / weight) → is_allowed (x - 1 + 1) (piece_numbered (k / 4 ^ (a - 1))) ≡ is_allowed (place + 1) piece
  same_test is = let here : x - 1 + 1 ≡ place + 1 = omega arith in ap₂ is_allowed here (sym (code-piece k a weight piece w is))

  same_cells : piece ≡ piece_numbered (k / weight) → put cells (place + 1) piece ≡ set cells (x - 1) (piece_numbered (k / 4 ^ (a - 1)))
  same_cells is = put-there cells (x - 1) (place + 1) piece (omega arith) ∙ ap (set cells (x - 1)) (code-piece k a weight piece w is)

  placed : (is : piece ≡ piece_numbered (k / weight)) → is_allowed (place + 1) piece ≡ true
      → IsBuilt all (x - 1 + 1) (a - 1) next.choice (k % 4 ^ (a - 1)) (set cells (x - 1) (piece_numbered (k / 4 ^ (a - 1))))
  placed is fine = built-piece all (x - 1) a next.choice k cells next.built next.some next.high next.below (same_test is ∙ fine)

  pub placing-lawful : piece ≡ piece_numbered (k / weight) → (s : Side) → is_allowed (place + 1) piece ≡ true → IsLawful (record { cells = put cells (place + 1) piece; to_move = s })
  placing-lawful is s fine =
      let high = next.high in
      subst (λ made. IsLawful (record { cells = made; to_move = s })) (sym (same_cells is)) (built-lawful _ _ _ _ _ _ s (placed is fine) (omega arith))

  pub placing-more : piece ≡ piece_numbered (k / weight) → is_allowed (place + 1) piece ≡ true → IsPlacing all later (a - 1) (k % weight) (put cells (place + 1) piece)
  placing-more is fine =
      let low = next.low in
      let high = next.high in
      let there : x - 1 + 1 ≡ x = omega arith in
      record {
        at = x - 1 + 1;
        choice = next.choice;
        inside = omega arith;
        built = rebuilt _ _ _ _ _ _ _ _ _ _ (placed is fine) refl refl (ap (λ m. k % m) w) (same_cells is);
        rest = subst (λ m. stood (m + 1) (drop m all) ≡ squares_of later) (sym there) next.rest;
      }

  pub placing-refused : piece ≡ piece_numbered (k / weight) → is_allowed (place + 1) piece ≡ false → all_allowed 1 all ≡ false
  placing-refused is bad = refused all (x - 1) a next.choice k cells next.built next.some next.high next.below (same_test is ∙ bad)

-- ---- the squares of a position are kept

pub chosen-kept : (n place kinds mask : ℕ) (p : Board) → place < choose n 32 → kinds < 4 ^ n → IsLawful p → IsMaskOf (λ m. not (is_empty (cell_at p m))) mask
    → ((chosen : List ℕ) → slice_get (choices n squares) place ≡ Some chosen → p.cells ≡ with_pieces_on (replicate 32 Empty) chosen kinds)
    → slice_get (choices n squares) place ≡ Some (squares_of mask)
chosen-kept n place kinds mask p below small lawful is each =
    let got = choice-at n place below in
    let are = cells-of_choice n place kinds got.0 got.1 small in
    got.1 ∙ ap Some (sym (squares_of-test (λ m. not (is_empty (cell_at p m))) mask is ∙ occupied-stood p lawful.squares ∙ ap (stood 1) (each got.0 got.1) ∙ are.squares))

pub chosen-cells : (o : Option Board) (p : Board) (cells : List Cell) (s : Side) → o ≡ Some p
    → MatchOption o (IsFalse (all_allowed 1 cells)) (λ q. (q ≡ record { cells = cells; to_move = s }) × IsTrue (all_allowed 1 cells)) → p.cells ≡ cells
chosen-cells None p cells s e h = absurd cc
chosen-cells (Some q) p cells s e h = ap (λ (b : Board). b.cells) (sym (same_Some q p e) ∙ h.0)
