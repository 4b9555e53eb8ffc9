-- Cells that begin at some square: which squares are occupied, the place of these among the choices, and the kinds. All of
-- it is by recursion over the cells, from the last square back.
use Rattle.std.proofs.Common.{◌≡◌, ℕ, zero, suc, ◌+◌, ◌-◌, ◌*◌, ◌/◌, ◌%◌, ◌^◌, ◌<◌, Bool, true, false, cond, not, List, [], ◌∷◌, ◌++◌, length, get_or, set, replicate, slice_get, filter, fold, Some, refl, sym, ap, ap₂, subst, ◌∙◌, arith, append_assoc, pow-suc}
use Rattle.std.proofs.lemmas.List.{get_or_at, set_at, length_push}
use Rattle.std.proofs.lemmas.List.Sums.{sum_by-cons}
use Rattle.std.proofs.lemmas.Bool.{ne_eqb}
use Rattle.std.proofs.lemmas.Nat.{mul-add-lt, div-mul-add, mod-mul-add}
use Rattle.draughts_board.specs.declared.pieces.Side.TheVariants.{Black, White}
use Rattle.draughts_board.specs.declared.pieces.Cell.{Cell}
use Rattle.draughts_board.specs.declared.pieces.Cell.TheVariants.{Empty, Man, King}
use Rattle.draughts_board.specs.Board.{is_empty, belongs, pieces}
use Rattle.table_index.specs.Counting.{choose}
use Rattle.table_index.specs.Order.{choices, kind, piece_numbered, with_pieces_on}
use Rattle.table_index.proofs.Choosing.{length-choices, place_in, place-with, place-without, get-left, get-right}

-- the m squares from n on
abbrev pub from : ℕ → ℕ → List ℕ
from n zero = []
from n (suc m) = n ∷ from (suc n) m

-- how many of the cells hold a piece
abbrev pub held : List Cell → ℕ
held [] = 0
held (c ∷ cells) = cond (is_empty c) (held cells) (suc (held cells))

-- the squares of these, where the first cell is that of square n
abbrev pub stood : ℕ → List Cell → List ℕ
stood n [] = []
stood n (c ∷ cells) = cond (is_empty c) (stood (suc n) cells) (n ∷ stood (suc n) cells)

-- how many choices of as many squares come behind theirs
abbrev pub later : List Cell → ℕ
later [] = 0
later (c ∷ cells) = cond (is_empty c) (later cells) (later cells + choose (suc (held cells)) (length cells))

-- their kinds as one number
abbrev pub digits : List Cell → ℕ
digits [] = 0
digits (c ∷ cells) = cond (is_empty c) (digits cells) (kind c * 4 ^ held cells + digits cells)

pub length-from : (n m : ℕ) → length (from n m) ≡ m
length-from n zero = refl
length-from n (suc m) = ap suc (length-from (suc n) m)

pub length-stood : (n : ℕ) (cells : List Cell) → length (stood n cells) ≡ held cells
length-stood n [] = refl
length-stood n (Empty ∷ cells) = length-stood (suc n) cells
length-stood n (Man s ∷ cells) = ap suc (length-stood (suc n) cells)
length-stood n (King s ∷ cells) = ap suc (length-stood (suc n) cells)

pub kind-lt : (c : Cell) → kind c < 4
kind-lt Empty = omega arith
kind-lt (Man Black) = omega arith
kind-lt (Man White) = omega arith
kind-lt (King Black) = omega arith
kind-lt (King White) = omega arith

pub digits-lt : (cells : List Cell) → digits cells < 4 ^ held cells
digits-lt [] = omega arith
digits-lt (Empty ∷ cells) = digits-lt cells
digits-lt (Man s ∷ cells) = subst (λ w. kind (Man s) * 4 ^ held cells + digits cells < w) (sym (pow-suc 4 (held cells))) (mul-add-lt (kind (Man s)) (4 ^ held cells) (digits cells) 4 (kind-lt (Man s)) (digits-lt cells))
digits-lt (King s ∷ cells) = subst (λ w. kind (King s) * 4 ^ held cells + digits cells < w) (sym (pow-suc 4 (held cells))) (mul-add-lt (kind (King s)) (4 ^ held cells) (digits cells) 4 (kind-lt (King s)) (digits-lt cells))

-- ---- the place among the choices

-- the choice stands at its place, and `behind` choices come behind it
pub record IsPlaced (all choice : List ℕ) (behind : ℕ) : Type 0 where
  pub whole : place_in all choice + behind + 1 ≡ choose (length choice) (length all)
  pub there : slice_get (choices (length choice) all) (place_in all choice) ≡ Some choice

-- the choice is empty or begins above n
abbrev pub BeginsAbove : ℕ → List ℕ → Type 0
BeginsAbove n [] = Unit {0}
BeginsAbove n (x ∷ choice) = n < x

pub stood-above : (n m : ℕ) (cells : List Cell) → n < m → BeginsAbove n (stood m cells)
stood-above n m [] h = tt
stood-above n m (Empty ∷ cells) h = stood-above n (suc m) cells (omega arith)
stood-above n m (Man s ∷ cells) h = h
stood-above n m (King s ∷ cells) h = h

pub placed-with : (n : ℕ) (all choice : List ℕ) (behind : ℕ) → IsPlaced all choice behind → IsPlaced (n ∷ all) (n ∷ choice) (behind + choose (suc (length choice)) (length all))
unfolding choices choose
placed-with n all choice behind h =
    let long = length-choices (length choice) all in
    let whole = h.whole in
    let same = place-with n all choice (omega arith) in
    record {
      whole = omega arith;
      there = ap (slice_get (choices (suc (length choice)) (n ∷ all))) same
          ∙ get-left (λ rest. n ∷ rest) (choices (length choice) all) (choices (suc (length choice)) all) (place_in all choice) choice h.there;
    }

pub placed-without : (n : ℕ) (all choice : List ℕ) (behind : ℕ) → BeginsAbove n choice → IsPlaced all choice behind → IsPlaced (n ∷ all) choice behind
unfolding choices choose
placed-without n all [] behind above h = record { whole = h.whole; there = refl }
placed-without n all (x ∷ choice) behind above h =
    let long = length-choices (length choice) all in
    let whole = h.whole in
    let same = place-without n x all choice (ne_eqb n x (λ e. omega arith)) in
    record {
      whole = omega arith;
      there = ap (slice_get (choices (suc (length choice)) (n ∷ all))) same
          ∙ get-right (λ rest. n ∷ rest) (choices (length choice) all) (choices (suc (length choice)) all) (place_in all (x ∷ choice)) ∙ h.there;
    }

placed-piece : (n : ℕ) (cells : List Cell) → IsPlaced (from (suc n) (length cells)) (stood (suc n) cells) (later cells)
    → IsPlaced (n ∷ from (suc n) (length cells)) (n ∷ stood (suc n) cells) (later cells + choose (suc (held cells)) (length cells))
placed-piece n cells h =
    subst (λ b. IsPlaced (n ∷ from (suc n) (length cells)) (n ∷ stood (suc n) cells) (later cells + b))
    (ap₂ (λ a b. choose (suc a) b) (length-stood (suc n) cells) (length-from (suc n) (length cells)))
    (placed-with n (from (suc n) (length cells)) (stood (suc n) cells) (later cells) h)

pub placed : (n : ℕ) (cells : List Cell) → IsPlaced (from n (length cells)) (stood n cells) (later cells)
unfolding choices choose
placed n [] = record { whole = refl; there = refl }
placed n (Empty ∷ cells) = placed-without n (from (suc n) (length cells)) (stood (suc n) cells) (later cells) (stood-above n (suc n) cells (omega arith)) (placed (suc n) cells)
placed n (Man s ∷ cells) = placed-piece n cells (placed (suc n) cells)
placed n (King s ∷ cells) = placed-piece n cells (placed (suc n) cells)

-- ---- what the definitions over squares say of the cells

pub pieces-held : (cells : List Cell) → pieces Black cells + pieces White cells ≡ held cells
pieces-held [] = refl
pieces-held (c ∷ cells) =
    let rest = pieces-held cells in
    let b = sum_by-cons (λ x. cond (belongs Black x) 1 0) c cells in
    let w = sum_by-cons (λ x. cond (belongs White x) 1 0) c cells in
    let one : cond (belongs Black c) 1 0 + cond (belongs White c) 1 0 + held cells ≡ held (c ∷ cells) = one_more c cells in
    omega arith
  where
    one_more : (d : Cell) (ds : List Cell) → cond (belongs Black d) 1 0 + cond (belongs White d) 1 0 + held ds ≡ held (d ∷ ds)
    one_more Empty ds = omega arith
    one_more (Man Black) ds = omega arith
    one_more (Man White) ds = omega arith
    one_more (King Black) ds = omega arith
    one_more (King White) ds = omega arith

abbrev pub cell_of : List Cell → ℕ → Cell
cell_of cells m = get_or cells (m - 1) Empty

-- the cells before are any
pub filter-stood : (before cells : List Cell) (n : ℕ) → length before + 1 ≡ n → filter (λ m. not (is_empty (cell_of (before ++ cells) m))) (from n (length cells)) ≡ stood n cells
filter-stood before [] n h = refl
filter-stood before (c ∷ cells) n h =
    let here : cell_of (before ++ c ∷ cells) n ≡ c = get_or_at before c cells Empty (n - 1) (omega arith) in
    let rest : filter (λ m. not (is_empty (cell_of (before ++ c ∷ cells) m))) (from (suc n) (length cells)) ≡ stood (suc n) cells =
    subst (λ all. filter (λ m. not (is_empty (cell_of all m))) (from (suc n) (length cells)) ≡ stood (suc n) cells)
    (append_assoc before (c ∷ []) cells) (filter-stood (before ++ c ∷ []) cells (suc n) (omega (arith, length_push before c))) in
    ap₂ (λ d others. cond (not (is_empty d)) (n ∷ others) others) here rest ∙ turned (is_empty c) (stood (suc n) cells) (n ∷ stood (suc n) cells)
  where
    turned : (b : Bool) (x y : List ℕ) → cond (not b) y x ≡ cond b x y
    turned true x y = refl
    turned false x y = refl

level : (a k w v d : ℕ) → v ≡ w * 4 → (a * 4 + k) * w + d ≡ a * v + (k * w + d)
level a k w v d e = subst (λ u. (a * 4 + k) * w + d ≡ a * u + (k * w + d)) (sym e) (omega arith)

pub fold-digits : (before cells : List Cell) (n start : ℕ) → length before + 1 ≡ n → fold (λ number m. number * 4 + kind (cell_of (before ++ cells) m)) start (stood n cells) ≡ start * 4 ^ held cells + digits cells
fold-digits before [] n start h = omega arith
fold-digits before (c ∷ cells) n start h =
    let here : cell_of (before ++ c ∷ cells) n ≡ c = get_or_at before c cells Empty (n - 1) (omega arith) in
    let f : ℕ → ℕ → ℕ = λ number m. number * 4 + kind (cell_of (before ++ c ∷ cells) m) in
    let rest : (z : ℕ) → fold f z (stood (suc n) cells) ≡ z * 4 ^ held cells + digits cells =
    λ z. subst (λ all. fold (λ number m. number * 4 + kind (cell_of all m)) z (stood (suc n) cells) ≡ z * 4 ^ held cells + digits cells)
    (append_assoc before (c ∷ []) cells) (fold-digits (before ++ c ∷ []) cells (suc n) z (omega (arith, length_push before c))) in
    at c here rest
  where
    at : (d : Cell) → cell_of (before ++ c ∷ cells) n ≡ d
        → ((z : ℕ) → fold (λ number m. number * 4 + kind (cell_of (before ++ c ∷ cells) m)) z (stood (suc n) cells) ≡ z * 4 ^ held cells + digits cells)
        → fold (λ number m. number * 4 + kind (cell_of (before ++ c ∷ cells) m)) start (stood n (d ∷ cells)) ≡ start * 4 ^ held (d ∷ cells) + digits (d ∷ cells)
    at Empty e rest = rest start
    at (Man s) e rest = let k = ap kind e in let p = pow-suc 4 (held cells) in ap (λ z. fold (λ number m. number * 4 + kind (cell_of (before ++ c ∷ cells) m)) (start * 4 + z) (stood (suc n) cells)) k ∙ rest (start * 4 + kind (Man s)) ∙ level start (kind (Man s)) (4 ^ held cells) (4 ^ suc (held cells)) (digits cells) p
    at (King s) e rest = let k = ap kind e in let p = pow-suc 4 (held cells) in ap (λ z. fold (λ number m. number * 4 + kind (cell_of (before ++ c ∷ cells) m)) (start * 4 + z) (stood (suc n) cells)) k ∙ rest (start * 4 + kind (King s)) ∙ level start (kind (King s)) (4 ^ held cells) (4 ^ suc (held cells)) (digits cells) p

-- ---- the cells put back

pub piece-of_kind : (c : Cell) → is_empty c ≡ false → piece_numbered (kind c) ≡ c
piece-of_kind Empty e = absurd (cc)
piece-of_kind (Man Black) e = refl
piece-of_kind (Man White) e = refl
piece-of_kind (King Black) e = refl
piece-of_kind (King White) e = refl

-- one more piece, where the rest is put behind it
put-piece : (before cells : List Cell) (n : ℕ) (d : Cell) → length before + 1 ≡ n → is_empty d ≡ false
    → with_pieces_on (before ++ d ∷ replicate (length cells) Empty) (stood (suc n) cells) (digits cells) ≡ before ++ d ∷ cells
    → with_pieces_on (before ++ replicate (suc (length cells)) Empty) (n ∷ stood (suc n) cells) (kind d * 4 ^ held cells + digits cells) ≡ before ++ d ∷ cells
put-piece before cells n d h full behind =
    let w = length-stood (suc n) cells in
    let number : ℕ = kind d * 4 ^ held cells + digits cells in
    let first : number / 4 ^ length (stood (suc n) cells) ≡ kind d = ap (λ l. number / 4 ^ l) w ∙ div-mul-add (kind d) (4 ^ held cells) (digits cells) (digits-lt cells) in
    let rest : number % 4 ^ length (stood (suc n) cells) ≡ digits cells = ap (λ l. number % 4 ^ l) w ∙ mod-mul-add (kind d) (4 ^ held cells) (digits cells) (digits-lt cells) in
    let put_there : set (before ++ replicate (suc (length cells)) Empty) (n - 1) (piece_numbered (number / 4 ^ length (stood (suc n) cells))) ≡ before ++ d ∷ replicate (length cells) Empty =
    ap (λ k. set (before ++ replicate (suc (length cells)) Empty) (n - 1) (piece_numbered k)) first
    ∙ ap (set (before ++ replicate (suc (length cells)) Empty) (n - 1)) (piece-of_kind d full)
    ∙ set_at before Empty (replicate (length cells) Empty) d (n - 1) (omega arith) in
    ap₂ (λ all k. with_pieces_on all (stood (suc n) cells) k) put_there rest ∙ behind

put-cell : (before cells : List Cell) (n : ℕ) (d : Cell) → length before + 1 ≡ n
    → with_pieces_on (before ++ d ∷ replicate (length cells) Empty) (stood (suc n) cells) (digits cells) ≡ before ++ d ∷ cells
    → with_pieces_on (before ++ replicate (suc (length cells)) Empty) (stood n (d ∷ cells)) (digits (d ∷ cells)) ≡ before ++ d ∷ cells
put-cell before cells n Empty h behind = behind
put-cell before cells n (Man s) h behind = put-piece before cells n (Man s) h refl behind
put-cell before cells n (King s) h behind = put-piece before cells n (King s) h refl behind

-- Pieces of their kinds put on their squares of an empty board give the cells.
pub with-stood : (before cells : List Cell) (n : ℕ) → length before + 1 ≡ n → with_pieces_on (before ++ replicate (length cells) Empty) (stood n cells) (digits cells) ≡ before ++ cells
with-stood before [] n h = refl
with-stood before (c ∷ cells) n h =
    put-cell before cells n c h
    (ap (λ all. with_pieces_on all (stood (suc n) cells) (digits cells)) (sym (append_assoc before (c ∷ []) (replicate (length cells) Empty)))
    ∙ with-stood (before ++ c ∷ []) cells (suc n) (omega (arith, length_push before c)) ∙ append_assoc before (c ∷ []) cells)
