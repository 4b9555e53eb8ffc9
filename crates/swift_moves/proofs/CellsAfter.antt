-- What stands on each square after a legal move.
use Rattle.std.proofs.Common.{◌≡◌, ◌≢◌, ℕ, zero, suc, ◌-◌, ◌≤◌, Bool, true, false, cond, ◌||◌, ◌==◌, List, [], ◌∷◌, length, get_or, set, refl, sym, ◌∙◌, ap, arith, inl, inr, ◌⊎◌, length-set}
use Rattle.std.specs.Prelude.{fold}
use Rattle.std.proofs.lemmas.Bool.Decides.{eqb_tells}
use Rattle.std.proofs.lemmas.List.{get_or-set_same, get_or-set_other}
use Rattle.draughts_board.specs.declared.pieces.Cell.{Cell}
use Rattle.draughts_board.specs.declared.pieces.Cell.TheVariants.{Empty}
use Rattle.draughts_board.specs.Geometry.{IsSquare, are_jump_apart, between}
use Rattle.draughts_board.specs.Board.{Board, cell_at}
use Rattle.draughts_board.specs.Rules.{put, at_rest, after, first_square, last_square, jumped, contains}
use Rattle.swift_moves.proofs.CaptureMasks.{Every}

set_empty : (cells : List Cell) (i : ℕ) → get_or (set cells i Empty) i Empty ≡ Empty
set_empty [] i = refl
set_empty (c ∷ cells) zero = refl
set_empty (c ∷ cells) (suc i) = set_empty cells i

emptied-by : (cells : List Cell) (m n : ℕ) → 1 ≤ m → 1 ≤ n → ((m == n) ≡ true) × (m ≡ n) ⊎ ((m == n) ≡ false) × (m ≢ n) → get_or (put cells m Empty) (n - 1) Empty ≡ cond (m == n) Empty (get_or cells (n - 1) Empty)
emptied-by cells m n hm hn (inl h) =
    ap (λ k. get_or (set cells (m - 1) Empty) (k - 1) Empty) (sym h.1) ∙ set_empty cells (m - 1)
    ∙ ap (λ b. cond b Empty (get_or cells (n - 1) Empty)) (sym h.0)
emptied-by cells m n hm hn (inr h) =
    let place : n - 1 ≢ m - 1 = λ e. h.1 (omega (arith, e)) in
    get_or-set_other cells (m - 1) (n - 1) Empty Empty place ∙ ap (λ b. cond b Empty (get_or cells (n - 1) Empty)) (sym h.0)

-- square n once square m is emptied
emptied : (cells : List Cell) (m n : ℕ) → 1 ≤ m → 1 ≤ n → get_or (put cells m Empty) (n - 1) Empty ≡ cond (m == n) Empty (get_or cells (n - 1) Empty)
emptied cells m n hm hn = emptied-by cells m n hm hn (eqb_tells m n)

either_empty : (a b : Bool) (c : Cell) → cond b Empty (cond a Empty c) ≡ cond (a || b) Empty c
either_empty true true c = refl
either_empty true false c = refl
either_empty false b c = refl

abbrev clear : List Cell → List ℕ → List Cell
clear cells ns = fold (λ cells n. put cells n Empty) cells ns

cleared : (ns : List ℕ) (cells : List Cell) (n : ℕ) → Every (λ m. 1 ≤ m) ns → 1 ≤ n → get_or (clear cells ns) (n - 1) Empty ≡ cond (contains ns n) Empty (get_or cells (n - 1) Empty)
cleared [] cells n h hn = refl
cleared (m ∷ ns) cells n h hn =
    cleared ns (put cells m Empty) n h.1 hn
    ∙ ap (λ c. cond (contains ns n) Empty c) (emptied cells m n h.0 hn)
    ∙ either_empty (m == n) (contains ns n) (get_or cells (n - 1) Empty)

clear-length : (ns : List ℕ) (cells : List Cell) → length (clear cells ns) ≡ length cells
clear-length [] cells = refl
clear-length (n ∷ ns) cells = clear-length ns (put cells n Empty) ∙ length-set cells (n - 1) Empty

least-by : (b : Bool) (x z : ℕ) (ns : List ℕ) → Every (λ m. 1 ≤ m) ns → Every (λ m. 1 ≤ m) (cond b (between x z ∷ ns) ns)
least-by true x z ns h = (omega arith, h)
least-by false x z ns h = h

jumped-least : (path : List ℕ) → Every (λ m. 1 ≤ m) (jumped path)
jumped-least [] = tt
jumped-least (x ∷ []) = tt
jumped-least (x ∷ z ∷ rest) = least-by (are_jump_apart x z) x z (jumped (z ∷ rest)) (jumped-least (z ∷ rest))

-- what stands on n once the piece has gone from x to z and the pieces on `over` are taken
abbrev pub cell_moved : Board → ℕ → ℕ → List ℕ → ℕ → Cell
cell_moved p x z over n = cond (n == z) (at_rest (cell_at p x) z) (cond (contains over n) Empty (cond (x == n) Empty (cell_at p n)))

put-by : (cells : List Cell) (z n : ℕ) (c : Cell) → 1 ≤ z → 1 ≤ n → z ≤ length cells → ((n == z) ≡ true) × (n ≡ z) ⊎ ((n == z) ≡ false) × (n ≢ z) → get_or (put cells z c) (n - 1) Empty ≡ cond (n == z) c (get_or cells (n - 1) Empty)
put-by cells z n c hz hn l (inl h) =
    ap (λ k. get_or (set cells (z - 1) c) (k - 1) Empty) h.1 ∙ get_or-set_same cells (z - 1) c Empty (omega arith)
    ∙ ap (λ b. cond b c (get_or cells (n - 1) Empty)) (sym h.0)
put-by cells z n c hz hn l (inr h) =
    let place : n - 1 ≢ z - 1 = λ e. h.1 (omega (arith, e)) in
    get_or-set_other cells (z - 1) (n - 1) c Empty place ∙ ap (λ b. cond b c (get_or cells (n - 1) Empty)) (sym h.0)

pub cell_at-after : (p : Board) (path : List ℕ) (n : ℕ) → length p.cells ≡ 32 → IsSquare (first_square path) → IsSquare (last_square path) → IsSquare n → cell_at (after p path) n ≡ cell_moved p (first_square path) (last_square path) (jumped path) n
cell_at-after p path n size hx hz hn =
    let x : ℕ = first_square path in
    let z : ℕ = last_square path in
    let lifted : List Cell = put p.cells x Empty in
    let long : length (clear lifted (jumped path)) ≡ 32 = clear-length (jumped path) lifted ∙ length-set p.cells (x - 1) Empty ∙ size in
    put-by (clear lifted (jumped path)) z n (at_rest (cell_at p x) z) hz.0 hn.0 (omega (arith, long, hz.1)) (eqb_tells n z)
    ∙ ap (λ c. cond (n == z) (at_rest (cell_at p x) z) c) (cleared (jumped path) lifted n (jumped-least path) hn.0 ∙ ap (λ c. cond (contains (jumped path) n) Empty c) (emptied p.cells x n hx.0 hn.0))
