-- The position after a legal path is lawful.
use Rattle.std.proofs.Common.{◌≡◌, ℕ, zero, suc, ◌+◌, ◌-◌, ◌<◌, ◌≤◌, true, cond, List, [], ◌∷◌, length, get_or, set, refl, sym, ◌∙◌, ap, subst, arith, inl, inr, length-set, ◌==◌}
use Rattle.std.specs.Prelude.{fold, count_by}
use Rattle.std.specs.Cmp.{first_so, second_so}
use Rattle.std.specs.Cmp.Derive.{both_true}
use Rattle.std.proofs.lemmas.Bool.{cases_Bool, not_from_false, leb-true, cases_lt}
use Rattle.std.proofs.lemmas.List.{set_past}
use Rattle.std.proofs.lemmas.List.Sums.{sum_by-set}
use Rattle.draughts_board.specs.declared.pieces.Side.{Side}
use Rattle.draughts_board.specs.declared.pieces.Side.TheVariants.{Black, White}
use Rattle.draughts_board.specs.declared.pieces.Cell.{Cell}
use Rattle.draughts_board.specs.declared.pieces.Cell.TheVariants.{Empty, Man, King}
use Rattle.draughts_board.specs.Geometry.{row, is_square}
use Rattle.draughts_board.specs.Board.{Board, cell_at, IsLawful, piece_count, belongs, farthest_row, is_allowed, all_allowed}
use Rattle.draughts_board.specs.Rules.{IsLegal, first_square, last_square, jumped, put, at_rest, after, is_own, is_jump, all_following}

one_if : Side → Cell → ℕ
one_if s c = cond (belongs s c) 1 0

all_allowed-set : (n : ℕ) (cells : List Cell) (i : ℕ) (c : Cell) → all_allowed n cells ≡ true → is_allowed (n + i) c ≡ true → all_allowed n (set cells i c) ≡ true
all_allowed-set n [] i c h g = h
all_allowed-set n (x ∷ cells) zero c h g = both_true (let e : n + 0 ≡ n = omega arith in subst (λ m. is_allowed m c ≡ true) e g) (second_so _ _ h)
all_allowed-set n (x ∷ cells) (suc i) c h g =
    both_true (first_so _ _ h) (all_allowed-set (n + 1) cells i c (second_so _ _ h) (let e : n + suc i ≡ n + 1 + i = omega arith in subst (λ m. is_allowed m c ≡ true) e g))

-- taking pieces off keeps what is allowed, and adds none
clear : List Cell → List ℕ → List Cell
clear cells ns = fold (λ cs n. put cs n Empty) cells ns

clear-length : (ns : List ℕ) (cells : List Cell) → length (clear cells ns) ≡ length cells
unfolding clear
clear-length [] cells = refl
clear-length (n ∷ ns) cells = clear-length ns (put cells n Empty) ∙ length-set cells (n - 1) Empty

clear-allowed : (ns : List ℕ) (cells : List Cell) → all_allowed 1 cells ≡ true → all_allowed 1 (clear cells ns) ≡ true
unfolding clear
clear-allowed [] cells h = h
clear-allowed (n ∷ ns) cells h = clear-allowed ns (put cells n Empty) (all_allowed-set 1 cells (n - 1) Empty h refl)

put-fewer : (s : Side) (cells : List Cell) (i : ℕ) → count_by (belongs s) (set cells i Empty) ≤ count_by (belongs s) cells
put-fewer s cells i =
    elim (cases_lt i (length cells)) [
      | inl l ↦ (let e = sum_by-set (λ c. cond (belongs s c) 1 0) cells i Empty Empty l in omega (arith, e))
      | inr l ↦ (let e = ap (count_by (belongs s)) (set_past cells i Empty l) in omega (arith, e))
    ]

clear-fewer : (s : Side) (ns : List ℕ) (cells : List Cell) → count_by (belongs s) (clear cells ns) ≤ count_by (belongs s) cells
unfolding clear
clear-fewer s [] cells = omega arith
clear-fewer s (n ∷ ns) cells = omega (arith, clear-fewer s ns (put cells n Empty), put-fewer s cells (n - 1))

-- a position without the piece on a square is one
pub lifted_is_lawful : (p : Board) (x : ℕ) (s : Side) → IsLawful p → IsLawful (record { cells = put p.cells x Empty; to_move = s })
lifted_is_lawful p x s lawful =
    let most_black = lawful.black in
    let most_white = lawful.white in
    record {
      squares = length-set p.cells (x - 1) Empty ∙ lawful.squares;
      black = omega (arith, put-fewer Black p.cells (x - 1), most_black);
      white = omega (arith, put-fewer White p.cells (x - 1), most_white);
      men = all_allowed-set 1 p.cells (x - 1) Empty lawful.men refl;
    }

at_rest-allowed : (c : Cell) (z : ℕ) → is_allowed z (at_rest c z) ≡ true
at_rest-allowed Empty z = refl
at_rest-allowed (King s) z = refl
at_rest-allowed (Man s) z = elim (cases_Bool (row z == farthest_row s)) [
  | inl e ↦ ap (λ b. is_allowed z (cond b (King s) (Man s))) e
  | inr e ↦ ap (λ b. is_allowed z (cond b (King s) (Man s))) e ∙ not_from_false _ e
]

pub at_rest-belongs : (t : Side) (c : Cell) (z : ℕ) → belongs t (at_rest c z) ≡ belongs t c
at_rest-belongs t Empty z = refl
at_rest-belongs t (King s) z = refl
at_rest-belongs t (Man s) z = elim (cases_Bool (row z == farthest_row s)) [
  | inl e ↦ ap (λ b. belongs t (cond b (King s) (Man s))) e
  | inr e ↦ ap (λ b. belongs t (cond b (King s) (Man s))) e
]

-- moving one piece and clearing squares leaves at most as many pieces of each side
moved-fewer : (t : Side) (cells : List Cell) (x z r : ℕ) (ns : List ℕ) → x < length cells → z < length cells
    → count_by (belongs t) (set (clear (set cells x Empty) ns) z (at_rest (get_or cells x Empty) r)) ≤ count_by (belongs t) cells
moved-fewer t cells x z r ns lx lz =
    let f : Cell → ℕ = λ c. cond (belongs t c) 1 0 in
    let lifted : List Cell = set cells x Empty in
    let piece : Cell = at_rest (get_or cells x Empty) r in
    let up = sum_by-set f cells x Empty Empty lx in
    let off = clear-fewer t ns lifted in
    let size : length (clear lifted ns) ≡ length cells = clear-length ns lifted ∙ length-set cells x Empty in
    let down = sum_by-set f (clear lifted ns) z piece Empty (omega (arith, size)) in
    let same : f piece ≡ f (get_or cells x Empty) = ap (λ b. cond b 1 0) (at_rest-belongs t (get_or cells x Empty) r) in
    omega (arith, up, off, down, same)

last-jump : (p : Board) (s x z : ℕ) (rest : List ℕ) → all_following (is_jump p s) (x ∷ z ∷ rest) ≡ true → is_square (last_square (x ∷ z ∷ rest)) ≡ true
last-jump p s x z [] h = first_so _ _ (first_so _ _ (first_so _ _ (first_so _ _ (first_so _ _ h))))
last-jump p s x z (y ∷ rest) h = last-jump p s z y rest (second_so _ _ h)

pub legal-own : (p : Board) (path : List ℕ) → IsLegal p path → is_own p (first_square path) ≡ true
legal-own p path (inl c) = c.own
legal-own p path (inr s) = s.own

pub legal-last : (p : Board) (path : List ℕ) → IsLegal p path → is_square (last_square path) ≡ true
legal-last p [] (inl c) = let l = c.long in absurd (omega arith)
legal-last p (x ∷ []) (inl c) = let l = c.long in absurd (omega arith)
legal-last p (x ∷ z ∷ rest) (inl c) = last-jump p x x z rest c.jumps
legal-last p path (inr s) = first_so _ _ (first_so _ _ (first_so _ _ s.step))

pub after_is_lawful : (p : Board) (path : List ℕ) → IsLawful p → IsLegal p path → IsLawful (after p path)
unfolding clear
after_is_lawful p path lawful legal =
    let x : ℕ = first_square path in
    let z : ℕ = last_square path in
    let piece : Cell = at_rest (cell_at p x) z in
    let from_square : is_square x ≡ true = first_so _ _ (legal-own p path legal) in
    let to_square : is_square z ≡ true = legal-last p path legal in
    let x_least : 1 ≤ x = leb-true _ _ (first_so _ _ from_square) in
    let x_most : x ≤ 32 = leb-true _ _ (second_so _ _ from_square) in
    let z_least : 1 ≤ z = leb-true _ _ (first_so _ _ to_square) in
    let z_most : z ≤ 32 = leb-true _ _ (second_so _ _ to_square) in
    let size = lawful.squares in
    let in_x : x - 1 < length p.cells = omega arith in
    let in_z : z - 1 < length p.cells = omega arith in
    let back : 1 + (z - 1) ≡ z = omega arith in
    let lifted : List Cell = put p.cells x Empty in
    let fewer_black = moved-fewer Black p.cells (x - 1) (z - 1) z (jumped path) in_x in_z in
    let fewer_white = moved-fewer White p.cells (x - 1) (z - 1) z (jumped path) in_x in_z in
    let most_black = lawful.black in
    let most_white = lawful.white in
    let allowed = all_allowed-set 1 (clear lifted (jumped path)) (z - 1) piece (clear-allowed (jumped path) lifted (all_allowed-set 1 p.cells (x - 1) Empty lawful.men refl)) (subst (λ m. is_allowed m piece ≡ true) (sym back) (at_rest-allowed (cell_at p x) z)) in
    record {
      squares = length-set (clear lifted (jumped path)) (z - 1) piece ∙ clear-length (jumped path) lifted ∙ length-set p.cells (x - 1) Empty ∙ lawful.squares;
      black = omega (arith, fewer_black, most_black);
      white = omega (arith, fewer_white, most_white);
      men = allowed;
    }

-- a legal move adds no piece
pub after-fewer : (p : Board) (path : List ℕ) → IsLawful p → IsLegal p path → piece_count (after p path) ≤ piece_count p
unfolding clear
after-fewer p path lawful legal =
    let x : ℕ = first_square path in
    let z : ℕ = last_square path in
    let from_square : is_square x ≡ true = first_so _ _ (legal-own p path legal) in
    let to_square : is_square z ≡ true = legal-last p path legal in
    let x_least : 1 ≤ x = leb-true _ _ (first_so _ _ from_square) in
    let x_most : x ≤ 32 = leb-true _ _ (second_so _ _ from_square) in
    let z_least : 1 ≤ z = leb-true _ _ (first_so _ _ to_square) in
    let z_most : z ≤ 32 = leb-true _ _ (second_so _ _ to_square) in
    let size = lawful.squares in
    let in_x : x - 1 < length p.cells = omega arith in
    let in_z : z - 1 < length p.cells = omega arith in
    let fewer_black = moved-fewer Black p.cells (x - 1) (z - 1) z (jumped path) in_x in_z in
    let fewer_white = moved-fewer White p.cells (x - 1) (z - 1) z (jumped path) in_x in_z in
    omega (arith, fewer_black, fewer_white)
