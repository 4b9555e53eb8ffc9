-- The cells for a choice of squares and kinds: those whose squares and kinds they are.
use Rattle.std.proofs.Common.{◌≡◌, ℕ, zero, suc, ◌+◌, ◌-◌, ◌*◌, ◌/◌, ◌%◌, ◌^◌, ◌<◌, ◌≤◌, Bool, true, false, cond, ◌==◌, List, [], ◌∷◌, ◌++◌, map, length, slice_get, Some, refl, sym, ap, ap₂, subst, ◌∙◌, ⊎_elim, arith, pow-suc, mul_comm}
use Rattle.std.proofs.Math.Nat.{one-le-pow}
use Rattle.std.proofs.lemmas.Bool.{cases_lt}
use Rattle.std.proofs.lemmas.Nat.{div_below, mod_below, div-add-mod'}
use Rattle.draughts_board.specs.declared.pieces.Side.TheVariants.{Black, White}
use Rattle.draughts_board.specs.declared.pieces.Cell.{Cell}
use Rattle.draughts_board.specs.declared.pieces.Cell.TheVariants.{Empty, Man, King}
use Rattle.draughts_board.specs.Board.{is_empty}
use Rattle.table_index.specs.Counting.{choose}
use Rattle.table_index.specs.Order.{choices, kind, piece_numbered}
use Rattle.table_index.proofs.Choosing.{length-choices, get-left, get-right}
use Rattle.table_index.proofs.CellsFrom.{from, held, stood, later, digits, length-from}

-- the cells from square a on hold pieces on the squares of choice i out of m, n of them, with these kinds
pub record AreCellsOf (n m a i : ℕ) (choice : List ℕ) (kinds : ℕ) (cells : List Cell) : Type 0 where
  pub long : length cells ≡ m
  pub count : held cells ≡ n
  pub squares : stood a cells ≡ choice
  pub numbers : digits cells ≡ kinds
  pub behind : later cells + i + 1 ≡ choose n m

piece-full : (k : ℕ) → is_empty (piece_numbered k) ≡ false
piece-full k = full (k == 0) (k == 1) (k == 2)
  where
    full : (a b c : Bool) → is_empty (cond a (Man Black) (cond b (King Black) (cond c (Man White) (King White)))) ≡ false
    full true b c = refl
    full false true c = refl
    full false false true = refl
    full false false false = refl

kind-of_piece : (k : ℕ) → k < 4 → kind (piece_numbered k) ≡ k
kind-of_piece zero h = refl
kind-of_piece (suc zero) h = refl
kind-of_piece (suc (suc zero)) h = refl
kind-of_piece (suc (suc (suc zero))) h = refl
kind-of_piece (suc (suc (suc (suc k)))) h = absurd (omega arith)

-- what a place of a list has
pub get-some : {X : Type 0} (xs : List X) (i : ℕ) → i < length xs → (x : X) × (slice_get xs i ≡ Some x)
get-some [] i h = absurd (omega arith)
get-some (x ∷ xs) zero h = (x, refl)
get-some (x ∷ xs) (suc i) h = get-some xs i (omega arith)

pub get-only : {X : Type 0} (x y : X) (i : ℕ) → slice_get (x ∷ []) i ≡ Some y → (i ≡ 0) × (x ≡ y)
get-only x y zero e = (refl, cc)
get-only x y (suc i) e = absurd (cc)

abbrev Made : (n m a i : ℕ) → List ℕ → ℕ → Type 0
Made n m a i choice kinds = (cells : List Cell) × AreCellsOf n m a i choice kinds cells

-- an empty square first
with_none : (n m a i j : ℕ) (choice : List ℕ) (kinds : ℕ) → choose n m + j ≡ choose n (suc m) + i → Made n m (suc a) i choice kinds → Made n (suc m) a j choice kinds
with_none n m a i j choice kinds e (cells, h) =
    let behind = h.behind in
    (Empty ∷ cells, record { long = ap suc h.long; count = h.count; squares = h.squares; numbers = h.numbers; behind = omega arith })

-- a piece first
with_piece : (n m a i : ℕ) (choice : List ℕ) (kinds : ℕ) → kinds < 4 ^ suc n → Made n m (suc a) i choice (kinds % 4 ^ n) → Made (suc n) (suc m) a i (a ∷ choice) kinds
unfolding choose
with_piece n m a i choice kinds small (cells, h) =
    let behind = h.behind in
    let piece = piece_numbered (kinds / 4 ^ n) in
    let full = piece-full (kinds / 4 ^ n) in
    let p = pow-suc 4 n in
    let below : kinds / 4 ^ n < 4 = div_below kinds (4 ^ n) 4 (one-le-pow n 4 (omega arith)) (subst (λ w. kinds < w) (p ∙ mul_comm (4 ^ n) 4) small) in (
      piece ∷ cells,
      record {
        long = ap suc h.long;
        count = ap (λ b. cond b (held cells) (suc (held cells))) full ∙ ap suc h.count;
        squares = ap (λ b. cond b (stood (suc a) cells) (a ∷ stood (suc a) cells)) full ∙ ap (λ rest. a ∷ rest) h.squares;
        numbers = ap (λ b. cond b (digits cells) (kind piece * 4 ^ held cells + digits cells)) full
            ∙ ap₂ (λ k w. k * 4 ^ w + digits cells) (kind-of_piece (kinds / 4 ^ n) below) h.count
            ∙ ap (λ d. kinds / 4 ^ n * 4 ^ n + d) h.numbers ∙ div-add-mod' kinds (4 ^ n);
        behind = ap (λ b. cond b (later cells) (later cells + choose (suc (held cells)) (length cells)) + i + 1) full
            ∙ ap₂ (λ x y. later cells + choose (suc x) y + i + 1) h.count h.long ∙ omega arith;
      },
    )

pub made : (m n a i : ℕ) (choice : List ℕ) (kinds : ℕ) → slice_get (choices n (from a m)) i ≡ Some choice → kinds < 4 ^ n → (cells : List Cell) × AreCellsOf n m a i choice kinds cells
unfolding choices choose
made zero zero a i choice kinds e l =
    let only = get-only [] choice i e in
    let none = only.0 in
    ([], record { long = refl; count = refl; squares = only.1; numbers = omega arith; behind = omega arith })
made zero (suc n) a i choice kinds e l = absurd (cc)
made (suc m) zero a i choice kinds e l = with_none zero m a i i choice kinds refl (made m zero (suc a) i choice kinds e l)
made (suc m) (suc n) a i choice kinds e l =
    let first = choices n (from (suc a) m) in
    let rest = choices (suc n) (from (suc a) m) in
    let long : length first ≡ choose n m = length-choices n (from (suc a) m) ∙ ap (choose n) (length-from (suc a) m) in
    ⊎_elim
    (λ (h : i < length first).
    let got = get-some first i h in
    let there : slice_get (map (λ others. a ∷ others) first ++ rest) i ≡ Some (a ∷ got.0) = get-left (λ others. a ∷ others) first rest i got.0 got.1 in
    let same : a ∷ got.0 ≡ choice = cc in
    subst (λ c. Made (suc n) (suc m) a i c kinds) same
    (with_piece n m a i got.0 kinds l (made m n (suc a) i got.0 (kinds % 4 ^ n) got.1 (mod_below kinds (4 ^ n) (one-le-pow n 4 (omega arith))))))
    (λ (h : length first ≤ i).
    let j : ℕ = i - length first in
    let split : length first + j ≡ i = omega arith in
    let there : slice_get rest j ≡ Some choice = sym (get-right (λ others. a ∷ others) first rest j) ∙ ap (slice_get (map (λ others. a ∷ others) first ++ rest)) split ∙ e in
    with_none (suc n) m a j i choice kinds (omega arith) (made m (suc n) (suc a) j choice kinds there l))
    (cases_lt i (length first))
