-- The rule of the tables, computed once over all squares, and what it says of the steps and jumps from a square.
use Rattle.std.proofs.Common.{◌≡◌, ℕ, ◌+◌, ◌-◌, ◌<◌, Bool, true, false, not, ◌&&◌, ◌||◌, ◌==◌, List, [], get_or, refl, sym, ◌∙◌, ap, arith}
use Rattle.std.specs.Prelude.{filter, map}
use Rattle.std.specs.List.{list_any, range_with_len}
use Rattle.std.proofs.lemmas.List.FromFn.{get_or-map-range_with_len}
use Rattle.draughts_board.specs.Geometry.{squares, IsSquare, is_square, are_near, are_jump_apart, between}
use Rattle.draughts_board.specs.Board.{Board, cell_at, belongs, other, is_empty}
use Rattle.draughts_board.specs.Rules.{may_go, is_step, is_jump, goes_on, further_jumps, first_square, last_square, contains, jumped}
use Rattle.draughts_rules.specs.NearSquares.{neighbour_row, jump_row}
use Rattle.draughts_rules.specs.Conditions.{is_open_step, is_open_jump, is_open_further}
use Rattle.draughts_board.proofs.Filters.{filter-same, any-same, filter-by_row, any-by_row}

-- what a row names is what the rule names: the whole table at once
near_table : map (λ x. filter is_square (neighbour_row x)) (range_with_len 1 32) ≡ map (λ x. filter (are_near x) squares) (range_with_len 1 32)
unfolding neighbour_row squares
near_table = refl

jump_table : map (λ x. filter is_square (jump_row x)) (range_with_len 1 32) ≡ map (λ x. filter (are_jump_apart x) squares) (range_with_len 1 32)
unfolding jump_row squares
jump_table = refl

-- two lists that a rule gives square by square, read at one square
read_at : (f g : ℕ → List ℕ) → map f (range_with_len 1 32) ≡ map g (range_with_len 1 32) → (x : ℕ) → IsSquare x → f x ≡ g x
read_at f g e x h =
    let place : x - 1 < 32 = omega (arith, h.0, h.1) in
    let back : 1 + (x - 1) ≡ x = omega (arith, h.0) in
    sym (get_or-map-range_with_len f 1 32 (x - 1) x [] place back) ∙ ap (λ l. get_or l (x - 1) []) e ∙ get_or-map-range_with_len g 1 32 (x - 1) x [] place back

near_rule : (x : ℕ) → IsSquare x → filter is_square (neighbour_row x) ≡ filter (are_near x) squares
near_rule = read_at (λ x. filter is_square (neighbour_row x)) (λ x. filter (are_near x) squares) near_table

jump_rule : (x : ℕ) → IsSquare x → filter is_square (jump_row x) ≡ filter (are_jump_apart x) squares
jump_rule = read_at (λ x. filter is_square (jump_row x)) (λ x. filter (are_jump_apart x) squares) jump_table

all_squares : filter is_square squares ≡ squares
unfolding squares
all_squares = refl

-- ---- the parts of a test in another order

step_parts : (square near way free : Bool) → (square && (near && (free && way))) ≡ (square && near && way && free)
step_parts false near way free = refl
step_parts true false way free = refl
step_parts true true true true = refl
step_parts true true true false = refl
step_parts true true false true = refl
step_parts true true false false = refl

jump_parts : (square apart free way enemy : Bool) → (square && (apart && (free && way && enemy))) ≡ (square && apart && way && enemy && free)
jump_parts false apart free way enemy = refl
jump_parts true false free way enemy = refl
jump_parts true true true true true = refl
jump_parts true true true true false = refl
jump_parts true true true false enemy = refl
jump_parts true true false true true = refl
jump_parts true true false true false = refl
jump_parts true true false false enemy = refl

further_parts : (square apart free way enemy once : Bool) → (square && (apart && (free && way && enemy && once))) ≡ (square && apart && way && enemy && free && once)
further_parts false apart free way enemy once = refl
further_parts true false free way enemy once = refl
further_parts true true true true true once = refl
further_parts true true true true false once = refl
further_parts true true true false enemy once = refl
further_parts true true false true true once = refl
further_parts true true false true false once = refl
further_parts true true false false enemy once = refl

and_inside : (a b c d : Bool) → (a && b && c && d) ≡ (a && (b && c && d))
and_inside true b c d = refl
and_inside false b c d = refl

and_inside3 : (a b c : Bool) → (a && b && c) ≡ (a && (b && c))
and_inside3 true b c = refl
and_inside3 false b c = refl

and_inside5 : (a b c d e : Bool) → (a && b && c && d && e) ≡ (a && (b && c && d && e))
and_inside5 true b c d e = refl
and_inside5 false b c d e = refl

-- ---- what the tables leave open

-- the steps from x are those that the row leaves open
pub open_steps : (p : Board) (x : ℕ) → IsSquare x → filter (is_open_step p x) (neighbour_row x) ≡ filter (is_step p x) squares
open_steps p x h =
    filter-same (is_open_step p x) (λ z. is_square z && (is_empty (cell_at p z) && may_go (cell_at p x) x z)) (neighbour_row x)
    (λ z. and_inside3 (is_square z) (is_empty (cell_at p z)) (may_go (cell_at p x) x z))
    ∙ filter-by_row is_square (are_near x) (neighbour_row x) squares (near_rule x h) all_squares (λ z. is_empty (cell_at p z) && may_go (cell_at p x) x z)
    ∙ filter-same (λ z. is_square z && (are_near x z && (is_empty (cell_at p z) && may_go (cell_at p x) x z))) (is_step p x) squares
    (λ z. step_parts (is_square z) (are_near x z) (may_go (cell_at p x) x z) (is_empty (cell_at p z)))

-- the piece on x has a step exactly where the row leaves one open
pub open_step : (p : Board) (x : ℕ) → IsSquare x → list_any (is_open_step p x) (neighbour_row x) ≡ list_any (is_step p x) squares
open_step p x h =
    any-same (is_open_step p x) (λ z. is_square z && (is_empty (cell_at p z) && may_go (cell_at p x) x z)) (neighbour_row x)
    (λ z. and_inside3 (is_square z) (is_empty (cell_at p z)) (may_go (cell_at p x) x z))
    ∙ any-by_row is_square (are_near x) (neighbour_row x) squares (near_rule x h) all_squares (λ z. is_empty (cell_at p z) && may_go (cell_at p x) x z)
    ∙ any-same (λ z. is_square z && (are_near x z && (is_empty (cell_at p z) && may_go (cell_at p x) x z))) (is_step p x) squares
    (λ z. step_parts (is_square z) (are_near x z) (may_go (cell_at p x) x z) (is_empty (cell_at p z)))

-- the piece that starts on s has a jump from x exactly where the row leaves one open
pub open_jumps : (p : Board) (s x : ℕ) → IsSquare x → list_any (is_open_jump p s x) (jump_row x) ≡ list_any (is_jump p s x) squares
open_jumps p s x h =
    let open_to : ℕ → Bool = λ z. (is_empty (cell_at p z) || z == s) && may_go (cell_at p s) x z && belongs (other p.to_move) (cell_at p (between x z)) in
    any-same (is_open_jump p s x) (λ z. is_square z && open_to z) (jump_row x)
    (λ z. and_inside (is_square z) (is_empty (cell_at p z) || z == s) (may_go (cell_at p s) x z) (belongs (other p.to_move) (cell_at p (between x z))))
    ∙ any-by_row is_square (are_jump_apart x) (jump_row x) squares (jump_rule x h) all_squares open_to
    ∙ any-same (λ z. is_square z && (are_jump_apart x z && open_to z)) (is_jump p s x) squares
    (λ z. jump_parts (is_square z) (are_jump_apart x z) (is_empty (cell_at p z) || z == s) (may_go (cell_at p s) x z) (belongs (other p.to_move) (cell_at p (between x z))))

-- behind a path the capture may go on to what the row of its end leaves open
pub open_further : (p : Board) (path : List ℕ) → IsSquare (last_square path) → filter (is_open_further p path) (jump_row (last_square path)) ≡ further_jumps p path
open_further p path h =
    let s : ℕ = first_square path in
    let x : ℕ = last_square path in
    let open_to : ℕ → Bool = λ z. (is_empty (cell_at p z) || z == s) && may_go (cell_at p s) x z && belongs (other p.to_move) (cell_at p (between x z)) && not (contains (jumped path) (between x z)) in
    filter-same (is_open_further p path) (λ z. is_square z && open_to z) (jump_row x)
    (λ z. and_inside5 (is_square z) (is_empty (cell_at p z) || z == s) (may_go (cell_at p s) x z) (belongs (other p.to_move) (cell_at p (between x z))) (not (contains (jumped path) (between x z))))
    ∙ filter-by_row is_square (are_jump_apart x) (jump_row x) squares (jump_rule x h) all_squares open_to
    ∙ filter-same (λ z. is_square z && (are_jump_apart x z && open_to z)) (goes_on p path) squares
    (λ z. further_parts (is_square z) (are_jump_apart x z) (is_empty (cell_at p z) || z == s) (may_go (cell_at p s) x z) (belongs (other p.to_move) (cell_at p (between x z))) (not (contains (jumped path) (between x z))))
