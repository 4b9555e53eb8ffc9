-- Enough different positions are met: of 2,024 indices each is told by its position.
use Rattle.std.proofs.Common.{◌≡◌, ℕ, ◌+◌, ◌-◌, ◌*◌, ◌/◌, ◌%◌, ◌≤◌, ◌==◌, ◌&&◌, nat_lt, cond, Bool, List, [], ◌∷◌, length, map, Option, Some, None, refl, ap, ◌∙◌, subst, arith, if◌then◌else◌}
use Rattle.std.specs.Prelude.{Contains, position}
use Rattle.std.proofs.lemmas.List.{length-map}
use Rattle.draughts_board.specs.declared.pieces.Side.{Side}
use Rattle.draughts_board.specs.declared.pieces.Side.TheVariants.{Black, White}
use Rattle.draughts_board.specs.declared.pieces.Cell.{Cell}
use Rattle.draughts_board.specs.declared.pieces.Cell.TheVariants.{King}
use Rattle.draughts_board.specs.Board.{Board, same_cell}
use Rattle.draughts_board.specs.Geometry.{between}
use Rattle.draughts_board.specs.Rules.{first_places}
use Rattle.draughts_board.proofs.Members.{Contains-map}
use Rattle.draughts_board.proofs.Successors.{Contains-first_places}
use Rattle.capture_positions.specs.Walk.{three_kings, jump_numbered, numbered_position, walk}
use Rattle.capture_positions.specs.declared.jumps.Jump.{Jump}
use Rattle.capture_positions.specs.declared.jumps.TheConstants.{JUMPS}
use Rattle.capture_positions.proofs.Below.{count_below, count-le}
use Rattle.capture_positions.proofs.JumpLemmas.{table_jump, beside, jump-in_table, beside-is, eqb-so}
use Rattle.capture_positions.proofs.WalkLemmas.{position-met}

-- the position with this index, by the table
abbrev pub table_position : ℕ → Board
table_position i = three_kings (table_jump (i % 72)) (beside (table_jump (i % 72)) (i / 72 % 29)) (if nat_lt (i / 72) 29 then White else Black)

pub position-in_table : (i : ℕ) → numbered_position i ≡ table_position i
position-in_table i =
    let t : ℕ = i % 72 in
    let m : ℕ = i / 72 % 29 in
    let s : Side = if nat_lt (i / 72) 29 then White else Black in
    ap (λ d. three_kings (jump_numbered t) d s) (beside-is t m (omega arith) (omega arith))
    ∙ ap (λ j. three_kings j (beside (table_jump t) m) s) (jump-in_table t (omega arith))

-- ---- the index of a position with two White kings

-- the squares of a side's kings, of which the first cell's is n
king_squares : Side → ℕ → List Cell → List ℕ
king_squares s n [] = []
king_squares s n (c ∷ cells) = cond (same_cell c (King s)) (n ∷ king_squares s (n + 1) cells) (king_squares s (n + 1) cells)

-- the number of the jump from a over b, if there is one
jump_over : ℕ → ℕ → Option ℕ
jump_over a b = position (λ (p : ℕ × ℕ). p.0 == a && between p.0 p.1 == b) JUMPS

place_beside : Jump → ℕ → ℕ
place_beside j d = d - 1 - cond (nat_lt j.start d) 1 0 - cond (nat_lt j.over d) 1 0 - cond (nat_lt j.end d) 1 0

index_with : Option ℕ → ℕ → ℕ → ℕ
index_with (Some t) d other = t + 72 * place_beside (table_jump t) d
index_with None d other = other

index_by : List ℕ → List ℕ → ℕ
index_by (a ∷ []) (x ∷ y ∷ []) = index_with (jump_over a x) y (index_with (jump_over a y) x 0)
index_by black white = 0

index_from : Board → ℕ
index_from p = index_by (king_squares Black 1 p.cells) (king_squares White 1 p.cells)

-- its position tells the index
is_told : ℕ → Bool
is_told i = index_from (table_position i) == i

told : count_below is_told 2088 ≡ 2024
unfolding is_told index_from index_by index_with place_beside jump_over king_squares
told = refl

-- ---- enough positions

enough_numbers : (few long all : ℕ) → few ≤ long → few ≡ 2024 → long ≡ all → 2000 ≤ all
enough_numbers few long all held many same = omega (arith, held, many, same)

pub enough : (seed : ℕ) → 2000 ≤ length (first_places (walk seed 4176))
unfolding is_told
enough seed =
    let met = first_places (walk seed 4176) in
    let indices = map index_from met in
    let held = count-le indices is_told 2088 (λ i l e.
    let same : index_from (numbered_position i) ≡ i = ap index_from (position-in_table i) ∙ eqb-so (index_from (table_position i)) i e in
    subst (Contains indices) same (Contains-map index_from met (numbered_position i) (Contains-first_places (walk seed 4176) (numbered_position i) (position-met seed i (omega arith)))))
    in
    let many = told in
    let long : length indices ≡ length met = length-map met index_from in
    enough_numbers _ _ _ held many long
