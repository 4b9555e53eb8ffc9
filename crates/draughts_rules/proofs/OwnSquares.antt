-- The mover's squares: there are as many as the mover has pieces, so at most twelve.
use Rattle.std.proofs.Common.{◌≡◌, ℕ, suc, ◌+◌, ◌-◌, ◌<◌, ◌≤◌, Bool, true, false, cond, ◌&&◌, List, [], ◌∷◌, ◌++◌, length, get_or, take, drop, refl, sym, ◌∙◌, ap, subst, arith, length-append}
use Rattle.std.specs.Prelude.{filter}
use Rattle.std.specs.List.{range_with_len}
use Rattle.std.specs.Cmp.Derive.{both_true}
use Rattle.std.proofs.lemmas.Bool.{le-leb}
use Rattle.std.proofs.lemmas.List.{take-append-drop}
use Rattle.std.proofs.lemmas.List.Elements.{filter-append}
use Rattle.std.proofs.lemmas.List.Sums.{length-filter}
use Rattle.draughts_board.specs.declared.pieces.Side.{Side}
use Rattle.draughts_board.specs.declared.pieces.Cell.{Cell}
use Rattle.draughts_board.specs.declared.pieces.Cell.TheVariants.{Empty}
use Rattle.draughts_board.specs.Geometry.{squares, is_square}
use Rattle.draughts_board.specs.Board.{Board, IsLawful, belongs, cell_at}
use Rattle.draughts_board.specs.Rules.{is_own}
use Rattle.draughts_board.proofs.Growth.{pieces-most}

-- the numbers from a on that pass are as many as the cells that hold a piece of the side
count_from : (test : ℕ → Bool) (s : Side) (cells : List Cell) (a : ℕ)
    → ((k : ℕ) → k < length cells → test (a + k) ≡ belongs s (get_or cells k Empty))
    → length (filter test (range_with_len a (length cells))) ≡ length (filter (belongs s) cells)
count_from test s [] a each = refl
count_from test s (c ∷ cells) a each =
    let here : test a ≡ belongs s c = (let e : a + 0 ≡ a = omega arith in subst (λ n. test n ≡ belongs s c) e (each 0 (omega arith))) in
    let rest = count_from test s cells (a + 1) (λ k l. let e : a + suc k ≡ a + 1 + k = omega arith in subst (λ n. test n ≡ belongs s (get_or cells k Empty)) e (each (suc k) (omega arith))) in
    one_more (belongs s c) (filter test (range_with_len (a + 1) (length cells))) (filter (belongs s) cells) here rest
  where
    one_more : (b : Bool) (kept : List ℕ) (owned : List Cell) → test a ≡ b → length kept ≡ length owned → length (cond (test a) (a ∷ kept) kept) ≡ length (cond b (c ∷ owned) owned)
    one_more true kept owned e h = ap (λ t. length (cond t (a ∷ kept) kept)) e ∙ ap suc h
    one_more false kept owned e h = ap (λ t. length (cond t (a ∷ kept) kept)) e ∙ h

own-at : (p : Board) (k : ℕ) → k < 32 → is_own p (1 + k) ≡ belongs p.to_move (get_or p.cells k Empty)
own-at p k l =
    let within : is_square (1 + k) ≡ true = both_true (le-leb 1 (1 + k) (omega arith)) (le-leb (1 + k) 32 (omega arith)) in
    let place : 1 + k - 1 ≡ k = omega arith in
    ap (λ b. b && belongs p.to_move (cell_at p (1 + k))) within ∙ ap (λ n. belongs p.to_move (get_or p.cells n Empty)) place

squares-range : squares ≡ range_with_len 1 32
unfolding squares
squares-range = refl

own-most : (p : Board) → IsLawful p → length (filter (is_own p) squares) ≤ 12
own-most p lawful =
    let size : length p.cells ≡ 32 = lawful.squares in
    let count = count_from (is_own p) p.to_move p.cells 1 (λ k l. own-at p k (omega arith)) in
    let same : length (filter (is_own p) squares) ≡ length (filter (is_own p) (range_with_len 1 (length p.cells))) = ap (λ l. length (filter (is_own p) l)) (squares-range ∙ ap (range_with_len 1) (sym size)) in
    omega (arith, same, count, length-filter (belongs p.to_move) p.cells, pieces-most p p.to_move lawful)

-- so far at most twelve
pub own-room : (p : Board) (xs : List ℕ) (i : ℕ) → IsLawful p → xs ≡ squares → length (filter (is_own p) (take i xs)) < 13
own-room p xs i lawful e =
    let parts : filter (is_own p) xs ≡ filter (is_own p) (take i xs) ++ filter (is_own p) (drop i xs) = ap (filter (is_own p)) (sym (take-append-drop i xs)) ∙ filter-append (is_own p) (take i xs) (drop i xs) in
    let whole : length (filter (is_own p) xs) ≡ length (filter (is_own p) squares) = ap (λ l. length (filter (is_own p) l)) e in
    omega (arith, ap length parts, length-append (filter (is_own p) (take i xs)) (filter (is_own p) (drop i xs)), whole, own-most p lawful)
