-- The table of the jumps is all of them, and the squares beside a jump are those past its three.
use Rattle.std.specs.Prelude.{◌↔◌, IsNone, IsSome}
use Rattle.std.proofs.Common.{Option, Some, None, subst, ◌≡◌, ℕ, ◌+◌, ◌<◌, ◌==◌, ◌&&◌, nat_le, nat_lt, cond, min, max, Bool, true, get_or, refl, ap, sym, ◌∙◌, arith}
use Rattle.std.proofs.lemmas.Grind.{common_steps}
use Rattle.std.proofs.lemmas.List.{get_or-map}
use Rattle.std.specs.Cmp.{first_so, second_so}
use Rattle.draughts_board.specs.Geometry.{IsSquare, is_square, squares, between}
use Rattle.capture_positions.specs.Jumps.{jump_to, jumps}
use Rattle.capture_positions.specs.Walk.{jump_numbered, squares_beside}
use Rattle.capture_positions.specs.declared.jumps.Jump.{Jump}
use Rattle.capture_positions.specs.declared.jumps.TheConstants.{JUMPS}
use Rattle.capture_positions.proofs.Below.{all_below, at_below}

-- the jump of this number in the table
abbrev pub table_jump : ℕ → Jump
table_jump t = jump_to (get_or JUMPS t (0, 0)).0 (get_or JUMPS t (0, 0)).1

pub jump-in_table : (t : ℕ) → t < 72 → jump_numbered t ≡ table_jump t
unfolding jumps squares
jump-in_table t l = get_or-map (λ (p : ℕ × ℕ). jump_to p.0 p.1) JUMPS t (0, 0) _ l

pub eqb-so : (a b : ℕ) → (a == b) ≡ true → a ≡ b
eqb-so a b e = grind (arith, common_steps)

is_square-so : (n : ℕ) → is_square n ≡ true → IsSquare n
is_square-so n e = let least = first_so (nat_le 1 n) (nat_le n 32) e in let most = second_so (nat_le 1 n) (nat_le n 32) e in (grind (arith, common_steps), grind (arith, common_steps))

-- the squares of the table are squares
are_squares : ℕ → Bool
are_squares t = is_square (get_or JUMPS t (0, 0)).0 && is_square (get_or JUMPS t (0, 0)).1

all_squares : all_below are_squares 72 ≡ true
unfolding are_squares
all_squares = refl

-- the number of a square in the list from which another is taken out
abbrev pub past : ℕ → ℕ → ℕ
past n taken = cond (nat_lt n taken) n (n + 1)

-- the square at place m of those beside the jump
abbrev pub beside : Jump → ℕ → ℕ
beside j m = past (past (past (m + 1) (min j.start j.end)) j.over) (max j.start j.end)

is_beside : ℕ → ℕ → Bool
is_beside t m = get_or (squares_beside (table_jump t)) m 0 == beside (table_jump t) m && is_square (beside (table_jump t) m)

all_beside : all_below (λ t. all_below (is_beside t) 29) 72 ≡ true
unfolding is_beside squares
all_beside = refl

pub jump-start : (t : ℕ) → t < 72 → IsSquare (get_or JUMPS t (0, 0)).0
unfolding are_squares
jump-start t l =
    let both = at_below are_squares 72 t all_squares l in
    let here : is_square (get_or JUMPS t (0, 0)).0 ≡ true = first_so _ _ both in
    is_square-so _ here

pub jump-end : (t : ℕ) → t < 72 → IsSquare (get_or JUMPS t (0, 0)).1
unfolding are_squares
jump-end t l =
    let both = at_below are_squares 72 t all_squares l in
    let here : is_square (get_or JUMPS t (0, 0)).1 ≡ true = second_so _ _ both in
    is_square-so _ here

-- the square beside the jump of this number
pub beside-is : (t m : ℕ) → t < 72 → m < 29 → get_or (squares_beside (jump_numbered t)) m 0 ≡ beside (table_jump t) m
unfolding is_beside
beside-is t m l k =
    let row = at_below (λ t. all_below (is_beside t) 29) 72 t all_beside l in
    let both = at_below (is_beside t) 29 m row k in
    let same : (get_or (squares_beside (table_jump t)) m 0 == beside (table_jump t) m) ≡ true = first_so _ _ both in
    let equal : get_or (squares_beside (table_jump t)) m 0 ≡ beside (table_jump t) m = eqb-so _ _ same in
    ap (λ j. get_or (squares_beside j) m 0) (jump-in_table t l) ∙ equal

pub beside-square : (t m : ℕ) → t < 72 → m < 29 → IsSquare (beside (table_jump t) m)
unfolding is_beside
beside-square t m l k =
    let row = at_below (λ t. all_below (is_beside t) 29) 72 t all_beside l in
    let both = at_below (is_beside t) 29 m row k in
    is_square-so _ (second_so _ _ both)

-- ---- what the code computes

some_square : (o : Option ℕ) (n : ℕ) → (IsNone o ↔ (¬ IsSquare n)) → IsSquare n → IsSome o
some_square (Some s) n none square = refl
some_square None n none square = absurd (none.0 refl square)

pub is_some : (o : Option ℕ) (n m : ℕ) → (IsNone o ↔ (¬ IsSquare n)) → n ≡ m → IsSquare m → IsSome o
is_some o n m none same square = some_square o n none (subst IsSquare (sym same) square)

pub same_jump : (t start over end : ℕ) → t < 72 → start ≡ (get_or JUMPS t (0, 0)).0 → end ≡ (get_or JUMPS t (0, 0)).1 → over ≡ between start end → record { start = start; over = over; end = end } ≡ jump_numbered t
same_jump t start over end l first last middle =
    ap (λ n. record { start = start; over = n; end = end }) middle
    ∙ ap (λ n. jump_to n end) first
    ∙ ap (λ n. jump_to (get_or JUMPS t (0, 0)).0 n) last
    ∙ sym (jump-in_table t l)

pub same_beside : (j : Jump) (t m low high first second third : ℕ) → j ≡ jump_numbered t → t < 72 → low ≡ min j.start j.end → high ≡ max j.start j.end
    → first ≡ past (m + 1) low → second ≡ past first j.over → third ≡ past second high → third ≡ beside (table_jump t) m
same_beside j t m low high first second third same l least most one two three =
    three
    ∙ ap (λ n. past n high) two
    ∙ ap (λ n. past (past n j.over) high) one
    ∙ ap (λ n. past (past (past (m + 1) n) j.over) high) least
    ∙ ap (λ n. past (past (past (m + 1) (min j.start j.end)) j.over) n) most
    ∙ ap (λ i. beside i m) (same ∙ jump-in_table t l)
