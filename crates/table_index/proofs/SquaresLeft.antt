-- The loop over the occupied squares of a board, lowest first: what has been counted, and what the squares left add to it.
use Rattle.std.proofs.Common.{◌≡◌, ℕ, zero, suc, ◌+◌, ◌-◌, ◌*◌, ◌^◌, ◌<◌, ◌≤◌, cond, ◌||◌, not, List, [], ◌∷◌, length, fold, refl, sym, ap, ◌∙◌, arith}
use Rattle.draughts_board.specs.declared.pieces.Cell.{Cell}
use Rattle.draughts_board.specs.declared.pieces.Cell.TheVariants.{Empty, Man, King}
use Rattle.draughts_board.specs.Geometry.{IsSquare, squares}
use Rattle.draughts_board.specs.Board.{Board, IsLawful, cell_at, same_cell, is_empty, piece_count}
use Rattle.draughts_board.specs.Masks.{IsMaskOf, AreMasksOf, stands_in, squares_of}
use Rattle.draughts_board.proofs.Bits.{stands_in-or}
use Rattle.std.specs.Prelude.{slice_index}
use Rattle.std.specs.Int.Bits.{bit_or}
use Rattle.draughts_board.specs.declared.pieces.Side.TheVariants.{Black, White}
use Rattle.draughts_board.proofs.OnSquares.{squares_of-test}
use Rattle.table_index.specs.Counting.{choose}
use Rattle.table_index.specs.Order.{kind}
use Rattle.table_index.proofs.Choosing.{choose-most}
use Rattle.table_index.proofs.CellsFrom.{held, later, digits, digits-lt, stood, length-stood}
use Rattle.table_index.proofs.OrderLemmas.{count-held, occupied-stood, kinds-digits}
use Rattle.table_index.proofs.Tally.{later-lt, IsWhole, tally-end}

-- how many choices of as many squares come behind these squares
abbrev pub later_of : List ℕ → ℕ
later_of [] = 0
later_of (x ∷ rest) = later_of rest + choose (suc (length rest)) (32 - x)

later_of-stood : (n : ℕ) (cells : List Cell) → n + length cells ≡ 33 → later_of (stood n cells) ≡ later cells
later_of-stood n [] h = refl
later_of-stood n (c ∷ cells) h = at c (later_of-stood (suc n) cells (omega arith))
  where
    at : (d : Cell) → later_of (stood (suc n) cells) ≡ later cells → later_of (stood n (d ∷ cells)) ≡ later (d ∷ cells)
    at Empty e = e
    at (Man s) e = let long : 32 - n ≡ length cells = omega arith in (λ i. e i + choose (suc (length-stood (suc n) cells i)) (long i))
    at (King s) e = let long : 32 - n ≡ length cells = omega arith in (λ i. e i + choose (suc (length-stood (suc n) cells i)) (long i))

-- a digit to base 4 is put behind the others
abbrev pub add_kind : Board → ℕ → ℕ → ℕ
add_kind p number n = number * 4 + kind (cell_at p n)

fold-least : (p : Board) (z : ℕ) (xs : List ℕ) → z ≤ fold (add_kind p) z xs
fold-least p z [] = omega arith
fold-least p z (x ∷ xs) = let rest = fold-least p (add_kind p z x) xs in omega arith

-- `behind` squares are left; what was counted, and what these add, are the numbers of the board
pub record IsLeft (p : Board) (left behind past kinds : ℕ) : Type 0 where
  pub few : behind ≤ 3
  pub count : behind ≡ length (squares_of left)
  pub all_past : past + later_of (squares_of left) ≡ later p.cells
  pub all_kinds : fold (add_kind p) kinds (squares_of left) ≡ digits p.cells

pub left-start : (p : Board) (left pieces : ℕ) → IsLawful p → piece_count p ≤ 3 → pieces ≡ piece_count p → IsMaskOf (λ n. not (is_empty (cell_at p n))) left → IsLeft p left pieces 0 0
left-start p left pieces lawful few count mask =
    let long = lawful.squares in
    let those : squares_of left ≡ stood 1 p.cells = squares_of-test (λ n. not (is_empty (cell_at p n))) left mask ∙ occupied-stood p long in
    record {
      few = omega arith;
      count = count ∙ count-held p ∙ sym (length-stood 1 p.cells) ∙ ap length (sym those);
      all_past = let past = ap later_of those ∙ later_of-stood 1 p.cells (omega arith) in omega arith;
      all_kinds = ap (fold (add_kind p) 0) (those ∙ sym (occupied-stood p long)) ∙ kinds-digits p long;
    }

-- one square further
pub record IsTurn (p : Board) (behind past kinds x next : ℕ) : Type 0 where
  pub some : 1 ≤ behind
  pub past_fits : past + choose behind (32 - x) ≤ 4960
  pub kinds_fit : kinds * 4 + kind (cell_at p x) < 64
  pub left : IsLeft p next (behind - 1) (past + choose behind (32 - x)) (kinds * 4 + kind (cell_at p x))

digits-most : (n : ℕ) → n ≤ 3 → 4 ^ n ≤ 64
digits-most zero h = omega arith
digits-most (suc zero) h = omega arith
digits-most (suc (suc zero)) h = omega arith
digits-most (suc (suc (suc zero))) h = omega arith
digits-most (suc (suc (suc (suc n)))) h = absurd (omega arith)

pub left-turn : (p : Board) (left behind past kinds x next : ℕ) → IsLawful p → piece_count p ≤ 3 → squares_of left ≡ x ∷ squares_of next → IsLeft p left behind past kinds → IsTurn p behind past kinds x next
left-turn p left behind past kinds x next lawful few first h =
    let rest = squares_of next in
    let many : behind ≡ suc (length rest) = h.count ∙ ap length first in
    let squares_past : past + (later_of rest + choose (suc (length rest)) (32 - x)) ≡ later p.cells = ap (λ l. past + later_of l) (sym first) ∙ h.all_past in
    let here : choose behind (32 - x) ≡ choose (suc (length rest)) (32 - x) = ap (λ n. choose n (32 - x)) many in
    let all_kinds : fold (add_kind p) (add_kind p kinds x) rest ≡ digits p.cells = ap (fold (add_kind p) kinds) (sym first) ∙ h.all_kinds in
    let held_few : held p.cells ≤ 3 = omega (arith, count-held p) in
    let below = later-lt p.cells in
    let long = lawful.squares in
    let most = choose-most (held p.cells) (length p.cells) held_few (omega arith) in
    let least = fold-least p (add_kind p kinds x) rest in
    let digit = digits-lt p.cells in
    let power = digits-most (held p.cells) held_few in
    let bound = h.few in
    record {
      some = omega arith;
      past_fits = omega arith;
      kinds_fit = omega arith;
      left = record { few = omega arith; count = omega arith; all_past = omega arith; all_kinds = all_kinds };
    }

squares_of-zero : squares_of 0 ≡ []
unfolding squares_of squares
squares_of-zero = refl

pub left-end : (p : Board) (left behind past kinds pieces : ℕ) → IsLawful p → piece_count p ≤ 3 → pieces ≡ piece_count p → left ≡ 0 → IsLeft p left behind past kinds → IsWhole p pieces past kinds
left-end p left behind past kinds pieces lawful few count end h =
    let none : squares_of left ≡ [] = ap squares_of end ∙ squares_of-zero in
    let whole : past + 0 ≡ later p.cells = ap (λ l. past + later_of l) (sym none) ∙ h.all_past in
    tally-end p pieces past kinds lawful few (record {
      count = count ∙ count-held p;
      behind = omega arith;
      kinds = ap (fold (add_kind p) kinds) (sym none) ∙ h.all_kinds;
    })

-- ---- the kind of a piece, by the masks

kind_by-tests : (c : Cell) → cond (same_cell (King Black) c || same_cell (King White) c) 1 0 + 2 * cond (same_cell (Man White) c || same_cell (King White) c) 1 0 ≡ kind c
kind_by-tests Empty = refl
kind_by-tests (Man Black) = refl
kind_by-tests (King Black) = refl
kind_by-tests (Man White) = refl
kind_by-tests (King White) = refl

pub kind_by-masks : (p : Board) (masks : List ℕ) (x : ℕ) → AreMasksOf p masks → IsSquare x
    → cond (stands_in (bit_or (slice_index masks 1) (slice_index masks 3)) x) 1 0 + 2 * cond (stands_in (bit_or (slice_index masks 2) (slice_index masks 3)) x) 1 0 ≡ kind (cell_at p x)
kind_by-masks p masks x h s =
    let kings = stands_in-or (slice_index masks 1) (slice_index masks 3) x ∙ (λ i. h.black_kings x s i || h.white_kings x s i) in
    let white = stands_in-or (slice_index masks 2) (slice_index masks 3) x ∙ (λ i. h.white_men x s i || h.white_kings x s i) in
    (λ i. cond (kings i) 1 0 + 2 * cond (white i) 1 0) ∙ kind_by-tests (cell_at p x)
