-- Squares on the turned board: near squares, jumps and directions.
use Rattle.std.proofs.Common.{◌≡◌, ℕ, ◌+◌, ◌-◌, ◌*◌, ◌/◌, ◌%◌, ◌≤◌, Bool, true, false, cond, ◌&&◌, refl, sym, ◌∙◌, ap, arith, ◌==◌, inl, inr}
use Rattle.std.specs.Prelude.{nat_lt}
use Rattle.std.specs.Cmp.{first_so, second_so}
use Rattle.std.specs.Cmp.Derive.{both_true}
use Rattle.std.proofs.lemmas.Bool.{leb-true, le-leb, ltb-true, lt-ltb, eqb-true, eqb-false, eq-eqb, ne_eqb, cases_Bool}
use Rattle.draughts_board.specs.declared.pieces.Side.{Side}
use Rattle.draughts_board.specs.declared.pieces.Side.TheVariants.{Black, White}
use Rattle.draughts_board.specs.declared.pieces.Cell.{Cell}
use Rattle.draughts_board.specs.declared.pieces.Cell.TheVariants.{Empty, Man, King}
use Rattle.draughts_board.specs.Geometry.{is_square, row, column, distance, are_near, are_jump_apart, square_at, between}
use Rattle.draughts_board.specs.Board.{other, turned_cell, is_empty}
use Rattle.draughts_board.specs.Rules.{goes_forward, may_go, is_crowned_on}
use Rattle.draughts_board.proofs.Turned.{row-turned}

-- ---- tests

-- tests that pass together are one
pub same_truth : (a b : Bool) → (a ≡ true → b ≡ true) → (b ≡ true → a ≡ true) → a ≡ b
same_truth true b f g = sym (f refl)
same_truth false true f g = g refl
same_truth false false f g = refl

-- the second part of a test counts only where the first passes
pub guarded : (a' a b' b : Bool) → a' ≡ a → (a ≡ true → b' ≡ b) → (a' && b') ≡ (a && b)
guarded a' true b' b e f = ap (λ t. t && b') e ∙ f refl
guarded a' false b' b e f = ap (λ t. t && b') e

-- ---- one square

pub square-least : (x : ℕ) → is_square x ≡ true → 1 ≤ x
square-least x h = leb-true _ _ (first_so _ _ h)

pub square-most : (x : ℕ) → is_square x ≡ true → x ≤ 32
square-most x h = leb-true _ _ (second_so _ _ h)

pub square-from : (x : ℕ) → 1 ≤ x → x ≤ 32 → is_square x ≡ true
square-from x least most = both_true (le-leb 1 x least) (le-leb x 32 most)

pub is_square-turned : (x : ℕ) → is_square (33 - x) ≡ is_square x
is_square-turned x =
    same_truth (is_square (33 - x)) (is_square x)
    (λ h. let a = square-least (33 - x) h in let b = square-most (33 - x) h in square-from x (omega arith) (omega arith))
    (λ h. let a = square-least x h in let b = square-most x h in square-from (33 - x) (omega arith) (omega arith))

pub turned-square : (x : ℕ) → is_square x ≡ true → is_square (33 - x) ≡ true
turned-square x h = is_square-turned x ∙ h

pub square-twice : (x : ℕ) → is_square x ≡ true → 33 - (33 - x) ≡ x
square-twice x h = let a = square-most x h in omega arith

pub same-turned : (x z : ℕ) → is_square x ≡ true → is_square z ≡ true → (33 - x == 33 - z) ≡ (x == z)
same-turned x z hx hz =
    let a = square-most x hx in
    let b = square-most z hz in
    same_truth (33 - x == 33 - z) (x == z)
    (λ h. let e = eqb-true _ _ h in eq-eqb x z (omega arith))
    (λ h. let e = eqb-true x z h in eq-eqb (33 - x) (33 - z) (omega arith))

pub row-sum : (x : ℕ) → is_square x ≡ true → row (33 - x) + row x ≡ 7
row-sum x h = row-turned x (square-least x h) (square-most x h)

-- columns by whether the row is even
column-even : (x : ℕ) → (row x % 2 == 0) ≡ true → column x ≡ 2 * ((x - 1) % 4) + 1
column-even x h = ap (λ b. cond b (2 * ((x - 1) % 4) + 1) (2 * ((x - 1) % 4))) h

column-odd : (x : ℕ) → (row x % 2 == 0) ≡ false → column x ≡ 2 * ((x - 1) % 4)
column-odd x h = ap (λ b. cond b (2 * ((x - 1) % 4) + 1) (2 * ((x - 1) % 4))) h

pub column-sum : (x : ℕ) → is_square x ≡ true → column (33 - x) + column x ≡ 7
column-sum x h =
    let least = square-least x h in
    let most = square-most x h in
    let rows = row-sum x h in
    elim (cases_Bool (row x % 2 == 0)) [
      | inl e ↦
          let even : row x % 2 ≡ 0 = eqb-true _ _ e in
          let odd : (row (33 - x) % 2 == 0) ≡ false = ne_eqb _ _ (λ f. parity (row x) (row (33 - x)) rows even f) in
          places x least most (column x) (column (33 - x)) (column-even x e) (column-odd (33 - x) odd)
      | inr e ↦
          let odd : row x % 2 ≡ 0 → ⊥ = eqb-false _ _ e in
          let even : (row (33 - x) % 2 == 0) ≡ true = eq-eqb _ _ (other_parity (row x) (row (33 - x)) rows odd) in
          places' x least most (column x) (column (33 - x)) (column-odd x e) (column-even (33 - x) even)
    ]
  where
    parity : (a b : ℕ) → b + a ≡ 7 → a % 2 ≡ 0 → b % 2 ≡ 0 → ⊥
    parity a b e f g = omega arith

    other_parity : (a b : ℕ) → b + a ≡ 7 → (a % 2 ≡ 0 → ⊥) → b % 2 ≡ 0
    other_parity a b e f = omega arith

    places : (x : ℕ) → 1 ≤ x → x ≤ 32 → (c c' : ℕ) → c ≡ 2 * ((x - 1) % 4) + 1 → c' ≡ 2 * ((33 - x - 1) % 4) → c' + c ≡ 7
    places x least most c c' e f = omega arith

    places' : (x : ℕ) → 1 ≤ x → x ≤ 32 → (c c' : ℕ) → c ≡ 2 * ((x - 1) % 4) → c' ≡ 2 * ((33 - x - 1) % 4) + 1 → c' + c ≡ 7
    places' x least most c c' e f = omega arith

pub column-most : (x : ℕ) → column x ≤ 7
column-most x = elim (cases_Bool (row x % 2 == 0)) [
  | inl e ↦ (let f = column-even x e in omega arith)
  | inr e ↦ (let f = column-odd x e in omega arith)
]

-- ---- two squares

distance-flipped : (a a' b b' : ℕ) → a' + a ≡ 7 → b' + b ≡ 7 → distance a' b' ≡ distance a b
distance-flipped a a' b b' e f = omega arith

pub near-turned : (x z : ℕ) → is_square x ≡ true → is_square z ≡ true → are_near (33 - x) (33 - z) ≡ are_near x z
near-turned x z hx hz =
    ap (λ d. d == 1 && distance (column (33 - x)) (column (33 - z)) == 1) (distance-flipped (row x) (row (33 - x)) (row z) (row (33 - z)) (row-sum x hx) (row-sum z hz))
    ∙ ap (λ d. distance (row x) (row z) == 1 && d == 1) (distance-flipped (column x) (column (33 - x)) (column z) (column (33 - z)) (column-sum x hx) (column-sum z hz))

pub apart-turned : (x z : ℕ) → is_square x ≡ true → is_square z ≡ true → are_jump_apart (33 - x) (33 - z) ≡ are_jump_apart x z
apart-turned x z hx hz =
    ap (λ d. d == 2 && distance (column (33 - x)) (column (33 - z)) == 2) (distance-flipped (row x) (row (33 - x)) (row z) (row (33 - z)) (row-sum x hx) (row-sum z hz))
    ∙ ap (λ d. distance (row x) (row z) == 2 && d == 2) (distance-flipped (column x) (column (33 - x)) (column z) (column (33 - z)) (column-sum x hx) (column-sum z hz))

mean-flipped : (a a' b b' : ℕ) → a' + a ≡ 7 → b' + b ≡ 7 → distance a b ≡ 2 → (a' + b') / 2 + (a + b) / 2 ≡ 7
mean-flipped a a' b b' e f d = omega arith

square_at-flipped : (r r' c c' : ℕ) → r' + r ≡ 7 → c' + c ≡ 7 → square_at r' c' ≡ 33 - square_at r c
square_at-flipped r r' c c' e f = omega arith

pub between-turned : (x z : ℕ) → is_square x ≡ true → is_square z ≡ true → are_jump_apart x z ≡ true → between (33 - x) (33 - z) ≡ 33 - between x z
between-turned x z hx hz h =
    square_at-flipped ((row x + row z) / 2) ((row (33 - x) + row (33 - z)) / 2) ((column x + column z) / 2) ((column (33 - x) + column (33 - z)) / 2)
    (mean-flipped (row x) (row (33 - x)) (row z) (row (33 - z)) (row-sum x hx) (row-sum z hz) (eqb-true _ _ (first_so _ _ h)))
    (mean-flipped (column x) (column (33 - x)) (column z) (column (33 - z)) (column-sum x hx) (column-sum z hz) (eqb-true _ _ (second_so _ _ h)))

square_at-square : (r c : ℕ) → r ≤ 7 → c ≤ 7 → is_square (square_at r c) ≡ true
square_at-square r c h g = square-from (square_at r c) (omega arith) (omega arith)

pub between-square : (x z : ℕ) → is_square x ≡ true → is_square z ≡ true → is_square (between x z) ≡ true
between-square x z hx hz =
    let a = row-sum x hx in
    let b = row-sum z hz in
    let c = column-most x in
    let d = column-most z in
    square_at-square ((row x + row z) / 2) ((column x + column z) / 2) (half-most (row x) (row z) (omega arith) (omega arith)) (half-most (column x) (column z) c d)
  where
    half-most : (a b : ℕ) → a ≤ 7 → b ≤ 7 → (a + b) / 2 ≤ 7
    half-most a b h g = omega arith

-- ---- directions

lt-flipped : (a a' b b' : ℕ) → a' + a ≡ 7 → b' + b ≡ 7 → nat_lt b' a' ≡ nat_lt a b
lt-flipped a a' b b' e f = same_truth (nat_lt b' a') (nat_lt a b) (λ h. let l = ltb-true b' a' h in lt-ltb a b (omega arith)) (λ h. let l = ltb-true a b h in lt-ltb b' a' (omega arith))

pub forward-turned : (s : Side) (x z : ℕ) → is_square x ≡ true → is_square z ≡ true → goes_forward (other s) (33 - x) (33 - z) ≡ goes_forward s x z
forward-turned Black x z hx hz = lt-flipped (row x) (row (33 - x)) (row z) (row (33 - z)) (row-sum x hx) (row-sum z hz)
forward-turned White x z hx hz = lt-flipped (row z) (row (33 - z)) (row x) (row (33 - x)) (row-sum z hz) (row-sum x hx)

pub may_go-turned : (c : Cell) (x z : ℕ) → is_square x ≡ true → is_square z ≡ true → may_go (turned_cell c) (33 - x) (33 - z) ≡ may_go c x z
may_go-turned Empty x z hx hz = refl
may_go-turned (Man s) x z hx hz = forward-turned s x z hx hz
may_go-turned (King s) x z hx hz = refl

eqb-flipped : (a a' m m' : ℕ) → a' + a ≡ 7 → m' + m ≡ 7 → (a' == m') ≡ (a == m)
eqb-flipped a a' m m' e f = same_truth (a' == m') (a == m) (λ h. let l = eqb-true a' m' h in eq-eqb a m (omega arith)) (λ h. let l = eqb-true a m h in eq-eqb a' m' (omega arith))

pub crowned-turned : (c : Cell) (z : ℕ) → is_square z ≡ true → is_crowned_on (turned_cell c) (33 - z) ≡ is_crowned_on c z
crowned-turned Empty z h = refl
crowned-turned (Man Black) z h = eqb-flipped (row z) (row (33 - z)) 7 0 (row-sum z h) refl
crowned-turned (Man White) z h = eqb-flipped (row z) (row (33 - z)) 0 7 (row-sum z h) refl
crowned-turned (King s) z h = refl

pub is_empty-turned : (c : Cell) → is_empty (turned_cell c) ≡ is_empty c
is_empty-turned Empty = refl
is_empty-turned (Man s) = refl
is_empty-turned (King s) = refl
