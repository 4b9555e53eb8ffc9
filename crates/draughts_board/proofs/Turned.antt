-- The turned board keeps the rule on pieces.
use Rattle.std.proofs.Common.{◌≡◌, ℕ, zero, suc, ◌+◌, ◌-◌, ◌<◌, ◌≤◌, true, cond, not, List, [], ◌∷◌, length, get_or, map, reverse, refl, sym, ◌∙◌, ap, subst, arith, ◌==◌}
use Rattle.std.proofs.lemmas.List.{length-reverse, length-map, get_or-reverse}
use Rattle.std.proofs.lemmas.List.Sums.{sum_by-cons}
use Rattle.std.proofs.lemmas.List.Sorted.{sum_by-IsPermutation, IsPermutation-reverse}
use Rattle.draughts_board.specs.declared.pieces.Side.{Side}
use Rattle.draughts_board.specs.declared.pieces.Side.TheVariants.{Black, White}
use Rattle.draughts_board.specs.declared.pieces.Cell.{Cell}
use Rattle.draughts_board.specs.declared.pieces.Cell.TheVariants.{Empty, Man, King}
use Rattle.draughts_board.specs.Geometry.{row}
use Rattle.draughts_board.specs.Board.{Board, IsLawful, belongs, other, pieces, is_allowed, turned, turned_cell}
use Rattle.draughts_board.proofs.Allowed.{allowed_at, allowed_from}

pub belongs-turned : (s : Side) (c : Cell) → belongs s (turned_cell c) ≡ belongs (other s) c
belongs-turned s Empty = refl
belongs-turned Black (Man Black) = refl
belongs-turned Black (Man White) = refl
belongs-turned White (Man Black) = refl
belongs-turned White (Man White) = refl
belongs-turned Black (King Black) = refl
belongs-turned Black (King White) = refl
belongs-turned White (King Black) = refl
belongs-turned White (King White) = refl

pieces-map : (s : Side) (cells : List Cell) → pieces s (map turned_cell cells) ≡ pieces (other s) cells
pieces-map s [] = refl
pieces-map s (c ∷ cells) =
    sum_by-cons (λ c. cond (belongs s c) 1 0) (turned_cell c) (map turned_cell cells)
    ∙ ap (λ b. cond b 1 0 + pieces s (map turned_cell cells)) (belongs-turned s c)
    ∙ ap (λ n. cond (belongs (other s) c) 1 0 + n) (pieces-map s cells)
    ∙ sym (sum_by-cons (λ c. cond (belongs (other s) c) 1 0) c cells)

pub pieces-turned : (s : Side) (cells : List Cell) → pieces s (reverse (map turned_cell cells)) ≡ pieces (other s) cells
pieces-turned s cells =
    sum_by-IsPermutation (λ c. cond (belongs s c) 1 0) (map turned_cell cells) (reverse (map turned_cell cells)) (IsPermutation-reverse (map turned_cell cells))
    ∙ pieces-map s cells

pub row-turned : (n : ℕ) → 1 ≤ n → n ≤ 32 → row (33 - n) + row n ≡ 7
row-turned n least most = omega arith

same_row : (a b : ℕ) → a + b ≡ 7 → (a == 7) ≡ (b == 0)
same_row a b e = grind arith

same_row' : (a b : ℕ) → a + b ≡ 7 → (a == 0) ≡ (b == 7)
same_row' a b e = grind arith

pub is_allowed-turned : (n : ℕ) (c : Cell) → 1 ≤ n → n ≤ 32 → is_allowed (33 - n) (turned_cell c) ≡ is_allowed n c
is_allowed-turned n Empty least most = refl
is_allowed-turned n (King s) least most = refl
is_allowed-turned n (Man Black) least most = ap not (same_row' (row (33 - n)) (row n) (row-turned n least most))
is_allowed-turned n (Man White) least most = ap not (same_row (row (33 - n)) (row n) (row-turned n least most))

get_or-map : (cells : List Cell) (k : ℕ) → get_or (map turned_cell cells) k Empty ≡ turned_cell (get_or cells k Empty)
get_or-map [] k = refl
get_or-map (c ∷ cells) zero = refl
get_or-map (c ∷ cells) (suc k) = get_or-map cells k

-- what stands at place k of the turned cells is what stood at place 31 - k
pub get_or-turned : (cells : List Cell) (k : ℕ) → length cells ≡ 32 → k < 32 → get_or (reverse (map turned_cell cells)) k Empty ≡ turned_cell (get_or cells (31 - k) Empty)
get_or-turned cells k size l =
    let same : length (map turned_cell cells) ≡ 32 = length-map cells turned_cell ∙ size in
    let place : length (map turned_cell cells) - 1 - k ≡ 31 - k = omega (arith, same) in
    get_or-reverse (map turned_cell cells) k Empty (omega (arith, same))
    ∙ ap (λ i. get_or (map turned_cell cells) i Empty) place
    ∙ get_or-map cells (31 - k)

pub turned_is_lawful : (p : Board) → IsLawful p → IsLawful (turned p)
turned_is_lawful p lawful =
    let size = lawful.squares in
    let length_same : length (reverse (map turned_cell p.cells)) ≡ 32 = length-reverse (map turned_cell p.cells) ∙ length-map p.cells turned_cell ∙ size in
    record {
      squares = length_same;
      black = subst (λ n. n ≤ 12) (sym (pieces-turned Black p.cells)) lawful.white;
      white = subst (λ n. n ≤ 12) (sym (pieces-turned White p.cells)) lawful.black;
      men = allowed_from 1 (reverse (map turned_cell p.cells)) (λ k l.
          let small : k < 32 = omega (arith, length_same) in
          let back : 33 - (1 + (31 - k)) ≡ 1 + k = omega arith in
          let here : is_allowed (1 + (31 - k)) (get_or p.cells (31 - k) Empty) ≡ true = allowed_at 1 p.cells (31 - k) lawful.men (omega (arith, size)) in
          ap (is_allowed (1 + k)) (get_or-turned p.cells k size small)
          ∙ ap (λ m. is_allowed m (turned_cell (get_or p.cells (31 - k) Empty))) (sym back)
          ∙ is_allowed-turned (1 + (31 - k)) (get_or p.cells (31 - k) Empty) (omega arith) (omega arith)
          ∙ here);
    }
