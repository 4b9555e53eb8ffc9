-- Which number is that of a row.
use Rattle.std.proofs.Common.{◌≡◌, ◌↔◌, ℕ, ◌+◌, ◌<◌, List, Some, true, ◌∙◌, subst, ap, length, get_or, arith}
use Rattle.std.proofs.lemmas.Option.{slice_get-get_or, slice_get_within, get_or_from_slice_get}
use Rattle.draughts_board.specs.Board.{Board, same_board}
use Rattle.draughts_board.specs.Same.{same_board-Decides}
use Rattle.position_rows.specs.Rows.{IsRowAt, IsNumberOf}

pub row_at-iff : {E : Type 0} (rows : List (Board × E)) (i : ℕ) (p : Board) (d : Board × E) → i < length rows
    → (same_board (get_or rows i d).0 p ≡ true) ↔ IsRowAt rows i p
row_at-iff {E = E} rows i p d inside = (
  λ same. (
    (get_or rows i d).1,
    slice_get-get_or rows i d inside
        ∙ ap (λ (q : Board). Some (q, (get_or rows i d).1)) ((same_board-Decides (get_or rows i d).0 p).0 same),
  ),
  λ there. (same_board-Decides (get_or rows i d).0 p).1
      (ap (λ (x : Board × E). x.0) (get_or_from_slice_get rows i (p, there.0) d there.1)),
)

pub number-iff : {E : Type 0} (rows : List (Board × E)) (number i : ℕ) (p : Board) → number ≡ i + 1
    → IsRowAt rows i p ↔ IsNumberOf rows number p
number-iff rows number i p is = (
  λ row. (i, is, row),
  λ there. subst (λ (x : ℕ). IsRowAt rows x p) (omega (arith, is, there.1)) there.2,
)

-- past the rows no number is that of a row
pub no_number : {E : Type 0} (rows : List (Board × E)) (number : ℕ) (p : Board) → length rows < number
    → ¬ IsNumberOf rows number p
no_number rows number p past there =
    let inside : there.0 < length rows = slice_get_within rows there.0 (p, there.2.0) there.2.1 in
    omega (arith, there.1)

pub no_zero : {E : Type 0} (rows : List (Board × E)) (p : Board) → ¬ IsNumberOf rows 0 p
no_zero rows p there = omega (arith, there.1)
