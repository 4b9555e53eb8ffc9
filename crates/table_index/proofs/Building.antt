-- The cells of a choice, built from the first square on.
use Rattle.std.proofs.Common.{◌≡◌, ℕ, zero, suc, ◌+◌, ◌-◌, ◌*◌, ◌/◌, ◌%◌, ◌^◌, ◌<◌, ◌≤◌, true, false, cond, List, [], ◌∷◌, ◌++◌, length, take, drop, set, get_or, replicate, slice_get, slice_index_or, option_and_then, ◌==◌, nat_le, ◌&&◌, Some, None, refl, sym, ap, ap₂, subst, ◌∙◌, ⊎_elim, arith, length-drop, length-append, append_assoc, take-append-drop}
use Rattle.std.proofs.lemmas.List.{drop_more, drop_all, take_more, set_at, length-take-le, length-replicate, get_or-drop, get_or-replicate}
use Rattle.std.proofs.lemmas.Nat.{div-mul-add, mod-mul-add}
use Rattle.std.proofs.lemmas.Bool.{cases_Bool, cases_lt, cases_eq, false_from_ne_true, and_right}
use Rattle.std.specs.Prelude.{Option, MatchOption, IfSome, IsTrue, IsFalse}
use Rattle.std.specs.Cmp.Derive.{both_true}
use Rattle.draughts_board.specs.declared.pieces.Side.{Side}
use Rattle.draughts_board.specs.declared.pieces.Side.TheVariants.{Black, White}
use Rattle.draughts_board.specs.declared.pieces.Cell.{Cell}
use Rattle.draughts_board.specs.declared.pieces.Cell.TheVariants.{Empty, Man, King}
use Rattle.draughts_board.specs.Geometry.{squares}
use Rattle.draughts_board.specs.Board.{Board, IsLawful, pieces, piece_count, is_empty, is_allowed, all_allowed}
use Rattle.draughts_board.specs.Rules.{put}
use Rattle.draughts_board.proofs.Allowed.{allowed_at, allowed_from}
use Rattle.table_index.specs.Counting.{choose}
use Rattle.table_index.specs.Order.{choices, kind, piece_numbered, with_pieces_on, first_index, entry_count, block_of, if_lawful, board_of, side_numbered, index_of, position_at}
use Rattle.table_index.proofs.CellsFrom.{held, later, digits, digits-lt, kind-lt, piece-of_kind, pieces-held}
use Rattle.table_index.proofs.OrderLemmas.{cells-of_choice, choice-at, IsInBlock, find-block, block-is, block-step, place-below, kinds-below, at-index, if-lawful, indices_hold_positions}
use Rattle.table_index.proofs.Choosing.{choose-none, choose-one}
use Rattle.table_index.proofs.Tally.{later-lt}

-- the cells with pieces of these kinds on the squares of the choice at this place
abbrev pub wanted : ℕ → ℕ → ℕ → List Cell
wanted n place kinds = with_pieces_on (replicate 32 Empty) (slice_index_or (choices n squares) place []) kinds

-- The cells stand up to place i; behind it a choice of a squares, at place b among such choices, and kinds k are left.
pub record IsBuilt (all : List Cell) (i a b k : ℕ) (cells : List Cell) : Type 0 where
  pub long : length all ≡ 32
  pub few : a ≤ 3
  pub whole : held all ≤ 3
  pub front : cells ≡ take i all ++ replicate (32 - i) Empty
  pub count : a ≡ held (drop i all)
  pub place : later (drop i all) + b + 1 ≡ choose a (32 - i)
  pub kinds : k ≡ digits (drop i all)
  pub allowed : (m : ℕ) → m < i → is_allowed (1 + m) (get_or all m Empty) ≡ true

get-index : {X : Type 0} (xs : List X) (i : ℕ) (x d : X) → slice_get xs i ≡ Some x → slice_index_or xs i d ≡ x
get-index [] i x d e = absurd (cc)
get-index (y ∷ xs) zero x d e = cc
get-index (y ∷ xs) (suc i) x d e = get-index xs i x d e

pub wanted-chosen : (n place kinds : ℕ) (choice : List ℕ) → slice_get (choices n squares) place ≡ Some choice → wanted n place kinds ≡ with_pieces_on (replicate 32 Empty) choice kinds
wanted-chosen n place kinds choice e = ap (λ c. with_pieces_on (replicate 32 Empty) c kinds) (get-index (choices n squares) place choice [] e)

pub built-start : (n place kinds : ℕ) → n ≤ 3 → place < choose n 32 → kinds < 4 ^ n → IsBuilt (wanted n place kinds) 0 n place kinds (replicate 32 Empty)
built-start n place kinds most below small =
    let got = choice-at n place below in
    let are = cells-of_choice n place kinds got.0 got.1 small in
    subst (λ all. IsBuilt all 0 n place kinds (replicate 32 Empty)) (sym (wanted-chosen n place kinds got.0 got.1)) (record {
      long = are.long;
      few = most;
      whole = omega (arith, are.count);
      front = refl;
      count = sym are.count;
      place = are.behind;
      kinds = sym are.numbers;
      allowed = λ m h. absurd (omega arith);
    })

-- what the cell at place i and the rest hold
record IsNext (all : List Cell) (i : ℕ) : Type 0 where
  pub held_full : is_empty (get_or all i Empty) ≡ false → held (drop i all) ≡ suc (held (drop (i + 1) all))
  pub held_none : is_empty (get_or all i Empty) ≡ true → held (drop i all) ≡ held (drop (i + 1) all)
  pub later_full : is_empty (get_or all i Empty) ≡ false → later (drop i all) ≡ later (drop (i + 1) all) + choose (suc (held (drop (i + 1) all))) (31 - i)
  pub later_none : is_empty (get_or all i Empty) ≡ true → later (drop i all) ≡ later (drop (i + 1) all)
  pub digits_full : is_empty (get_or all i Empty) ≡ false → digits (drop i all) ≡ kind (get_or all i Empty) * 4 ^ held (drop (i + 1) all) + digits (drop (i + 1) all)
  pub digits_none : is_empty (get_or all i Empty) ≡ true → digits (drop i all) ≡ digits (drop (i + 1) all)
  pub rest : later (drop (i + 1) all) < choose (held (drop (i + 1) all)) (31 - i)

next : (all : List Cell) (i : ℕ) → length all ≡ 32 → i < 32 → IsNext all i
next all i long h =
    let c = get_or all i Empty in
    let rest = drop (i + 1) all in
    let whole : drop i all ≡ c ∷ rest = drop_more all i Empty (omega arith) in
    let few : length rest ≡ 31 - i = length-drop (i + 1) all ∙ omega arith in
    record {
      held_full = λ e. ap held whole ∙ ap (λ t. cond t (held rest) (suc (held rest))) e;
      held_none = λ e. ap held whole ∙ ap (λ t. cond t (held rest) (suc (held rest))) e;
      later_full = λ e. ap later whole ∙ ap₂ (λ t m. cond t (later rest) (later rest + choose (suc (held rest)) m)) e few;
      later_none = λ e. ap later whole ∙ ap (λ t. cond t (later rest) (later rest + choose (suc (held rest)) (length rest))) e;
      digits_full = λ e. ap digits whole ∙ ap (λ t. cond t (digits rest) (kind c * 4 ^ held rest + digits rest)) e;
      digits_none = λ e. ap digits whole ∙ ap (λ t. cond t (digits rest) (kind c * 4 ^ held rest + digits rest)) e;
      rest = subst (λ m. later rest < choose (held rest) m) few (later-lt rest);
    }

pascal : (a m : ℕ) → 0 < a → choose a (suc m) ≡ choose (a - 1) m + choose a m
unfolding choose
pascal zero m h = absurd (omega arith)
pascal (suc a) m h = let e : suc a - 1 ≡ a = omega arith in ap (λ n. choose n m + choose (suc a) m) (sym e)

split : (a i : ℕ) → 0 < a → i < 32 → choose a (32 - i) ≡ choose (a - 1) (31 - i) + choose a (31 - i)
split a i h l = let e : 32 - i ≡ suc (31 - i) = omega arith in ap (choose a) e ∙ pascal a (31 - i) h

-- a piece stands at place i exactly where the choice lies among those that begin there
pub full-from_place : (all : List Cell) (i a b k : ℕ) (cells : List Cell) → IsBuilt all i a b k cells → 0 < a → i < 32 → b < choose (a - 1) (31 - i) → is_empty (get_or all i Empty) ≡ false
full-from_place all i a b k cells built some h below =
    let n = next all i built.long h in
    let place = built.place in
    let count = built.count in
    let both = split a i some h in
    let rest = n.rest in
    ⊎_elim
    (λ (e : is_empty (get_or all i Empty) ≡ true).
    let x = n.held_none e in
    let y = n.later_none e in
    let same : choose a (31 - i) ≡ choose (held (drop (i + 1) all)) (31 - i) = ap (λ m. choose m (31 - i)) (count ∙ x) in
    absurd (omega arith))
    (λ (e : is_empty (get_or all i Empty) ≡ false). e)
    (cases_Bool (is_empty (get_or all i Empty)))

pub none-from_place : (all : List Cell) (i a b k : ℕ) (cells : List Cell) → IsBuilt all i a b k cells → 0 < a → i < 32 → choose (a - 1) (31 - i) ≤ b → is_empty (get_or all i Empty) ≡ true
none-from_place all i a b k cells built some h least =
    let n = next all i built.long h in
    let place = built.place in
    let count = built.count in
    let both = split a i some h in
    ⊎_elim
    (λ (e : is_empty (get_or all i Empty) ≡ true). e)
    (λ (e : is_empty (get_or all i Empty) ≡ false).
    let x = n.held_full e in
    let y = n.later_full e in
    let same : choose a (31 - i) ≡ choose (suc (held (drop (i + 1) all))) (31 - i) = ap (λ m. choose m (31 - i)) (count ∙ x) in
    absurd (omega arith))
    (cases_Bool (is_empty (get_or all i Empty)))

-- the cell at place i put where it stands
front-more : (all : List Cell) (i : ℕ) → length all ≡ 32 → i < 32
    → set (take i all ++ replicate (32 - i) Empty) i (get_or all i Empty) ≡ take (i + 1) all ++ replicate (32 - (i + 1)) Empty
front-more all i long h =
    let c = get_or all i Empty in
    let e : 32 - i ≡ suc (32 - (i + 1)) = omega arith in
    ap (λ m. set (take i all ++ replicate m Empty) i c) e
    ∙ set_at (take i all) Empty (replicate (32 - (i + 1)) Empty) c i (length-take-le i all (omega arith))
    ∙ sym (append_assoc (take i all) (c ∷ []) (replicate (32 - (i + 1)) Empty))
    ∙ ap (λ l. l ++ replicate (32 - (i + 1)) Empty) (sym (take_more all i Empty (omega arith)))

-- an empty cell at place i stands already
front-none : (all : List Cell) (i : ℕ) → length all ≡ 32 → i < 32 → get_or all i Empty ≡ Empty
    → take i all ++ replicate (32 - i) Empty ≡ take (i + 1) all ++ replicate (32 - (i + 1)) Empty
front-none all i long h none =
    let e : 32 - i ≡ suc (32 - (i + 1)) = omega arith in
    ap (λ m. take i all ++ replicate m Empty) e
    ∙ sym (append_assoc (take i all) (Empty ∷ []) (replicate (32 - (i + 1)) Empty))
    ∙ ap (λ c. (take i all ++ c ∷ []) ++ replicate (32 - (i + 1)) Empty) (sym none)
    ∙ ap (λ l. l ++ replicate (32 - (i + 1)) Empty) (sym (take_more all i Empty (omega arith)))

empty-is : (c : Cell) → is_empty c ≡ true → c ≡ Empty
empty-is Empty e = refl
empty-is (Man s) e = absurd (cc)
empty-is (King s) e = absurd (cc)

allowed-more : (all : List Cell) (i : ℕ) → ((m : ℕ) → m < i → is_allowed (1 + m) (get_or all m Empty) ≡ true) → is_allowed (i + 1) (get_or all i Empty) ≡ true
    → (m : ℕ) → m < i + 1 → is_allowed (1 + m) (get_or all m Empty) ≡ true
allowed-more all i before here m h =
    ⊎_elim
    (λ (e : m ≡ i). let f : i + 1 ≡ 1 + m = omega arith in subst (λ n. is_allowed (1 + m) (get_or all n Empty) ≡ true) (sym e) (subst (λ n. is_allowed n (get_or all i Empty) ≡ true) f here))
    (λ (e : m ≡ i → ⊥). before m (omega arith))
    (cases_eq m i)

-- the piece at place i, and what is left behind it
pub record IsPieceStep (all : List Cell) (i a k : ℕ) : Type 0 where
  pub piece : piece_numbered (k / 4 ^ (a - 1)) ≡ get_or all i Empty
  pub digit : k / 4 ^ (a - 1) < 4
  pub rest : k % 4 ^ (a - 1) ≡ digits (drop (i + 1) all)

pub piece-step : (all : List Cell) (i a b k : ℕ) (cells : List Cell) → IsBuilt all i a b k cells → 0 < a → i < 32 → b < choose (a - 1) (31 - i) → IsPieceStep all i a k
piece-step all i a b k cells built some h below =
    let n = next all i built.long h in
    let e = full-from_place all i a b k cells built some h below in
    let c = get_or all i Empty in
    let rest = drop (i + 1) all in
    let count = built.count in
    let more = n.held_full e in
    let less : a - 1 ≡ held rest = omega arith in
    let whole = built.kinds ∙ n.digits_full e in
    let first : k / 4 ^ (a - 1) ≡ kind c = ap₂ (λ x m. x / 4 ^ m) whole less ∙ div-mul-add (kind c) (4 ^ held rest) (digits rest) (digits-lt rest) in
    record {
      piece = ap piece_numbered first ∙ piece-of_kind c e;
      digit = subst (λ x. x < 4) (sym first) (kind-lt c);
      rest = ap₂ (λ x m. x % 4 ^ m) whole less ∙ mod-mul-add (kind c) (4 ^ held rest) (digits rest) (digits-lt rest);
    }

pub built-piece : (all : List Cell) (i a b k : ℕ) (cells : List Cell) → IsBuilt all i a b k cells → 0 < a → i < 32 → b < choose (a - 1) (31 - i)
    → is_allowed (i + 1) (piece_numbered (k / 4 ^ (a - 1))) ≡ true
    → IsBuilt all (i + 1) (a - 1) b (k % 4 ^ (a - 1)) (set cells i (piece_numbered (k / 4 ^ (a - 1))))
built-piece all i a b k cells built some h below fine =
    let n = next all i built.long h in
    let e = full-from_place all i a b k cells built some h below in
    let step = piece-step all i a b k cells built some h below in
    let count = built.count in
    let place = built.place in
    let few = built.few in
    let more = n.held_full e in
    let farther = n.later_full e in
    let both = split a i some h in
    let same : choose a (31 - i) ≡ choose (suc (held (drop (i + 1) all))) (31 - i) = ap (λ m. choose m (31 - i)) (count ∙ more) in
    let end : choose (a - 1) (32 - (i + 1)) ≡ choose (a - 1) (31 - i) = ap (choose (a - 1)) (omega arith) in
    record {
      long = built.long;
      few = omega arith;
      whole = built.whole;
      front = ap₂ (λ l c. set l i c) built.front step.piece ∙ front-more all i built.long h;
      count = omega arith;
      place = omega arith;
      kinds = step.rest;
      allowed = allowed-more all i built.allowed (subst (λ c. is_allowed (i + 1) c ≡ true) step.piece fine);
    }

pub built-none : (all : List Cell) (i a b k : ℕ) (cells : List Cell) → IsBuilt all i a b k cells → 0 < a → i < 32 → choose (a - 1) (31 - i) ≤ b
    → IsBuilt all (i + 1) a (b - choose (a - 1) (31 - i)) k cells
built-none all i a b k cells built some h least =
    let n = next all i built.long h in
    let e = none-from_place all i a b k cells built some h least in
    let none = empty-is (get_or all i Empty) e in
    let place = built.place in
    let farther = n.later_none e in
    let both = split a i some h in
    let end : choose a (32 - (i + 1)) ≡ choose a (31 - i) = ap (choose a) (omega arith) in
    record {
      long = built.long;
      few = built.few;
      whole = built.whole;
      front = built.front ∙ front-none all i built.long h none;
      count = built.count ∙ n.held_none e;
      place = omega arith;
      kinds = built.kinds ∙ n.digits_none e;
      allowed = allowed-more all i built.allowed (subst (λ c. is_allowed (i + 1) c ≡ true) (sym none) refl);
    }

pub refused : (all : List Cell) (i a b k : ℕ) (cells : List Cell) → IsBuilt all i a b k cells → 0 < a → i < 32 → b < choose (a - 1) (31 - i)
    → is_allowed (i + 1) (piece_numbered (k / 4 ^ (a - 1))) ≡ false → all_allowed 1 all ≡ false
refused all i a b k cells built some h below bad =
    let step = piece-step all i a b k cells built some h below in
    let long = built.long in
    let here : is_allowed (i + 1) (get_or all i Empty) ≡ false = subst (λ c. is_allowed (i + 1) c ≡ false) step.piece bad in
    let e : 1 + i ≡ i + 1 = omega arith in
    false_from_ne_true (all_allowed 1 all) (λ t.
    let there = subst (λ n. is_allowed n (get_or all i Empty) ≡ true) e (allowed_at 1 all i t (omega arith)) in
    absurd (cc))

none-held : (cells : List Cell) → held cells ≡ 0 → cells ≡ replicate (length cells) Empty
none-held [] h = refl
none-held (Empty ∷ cells) h = ap (λ l. Empty ∷ l) (none-held cells h)
none-held (Man s ∷ cells) h = absurd (omega arith)
none-held (King s ∷ cells) h = absurd (omega arith)

pub built-end : (all : List Cell) (i a b k : ℕ) (cells : List Cell) → IsBuilt all i a b k cells → i ≤ 32 → a ≡ 0 → (cells ≡ all) × (all_allowed 1 all ≡ true)
built-end all i a b k cells built h none =
    let long = built.long in
    let part : length (drop i all) ≡ 32 - i = length-drop i all ∙ ap (λ m. m - i) long in
    let rest : drop i all ≡ replicate (32 - i) Empty = none-held (drop i all) (sym built.count ∙ none) ∙ ap (λ m. replicate m Empty) part in (
      built.front ∙ ap (λ l. take i all ++ l) (sym rest) ∙ take-append-drop i all,
      allowed_from 1 all (λ m l.
          ⊎_elim (λ (x : m < i). built.allowed m x)
          (λ (x : i ≤ m).
          let e : i + (m - i) ≡ m = omega arith in
          let empty : get_or all m Empty ≡ Empty =
          ap (λ j. get_or all j Empty) (sym e) ∙ sym (get_or-drop i all (m - i) Empty) ∙ ap (λ l. get_or l (m - i) Empty) rest
          ∙ get_or-replicate (32 - i) (m - i) Empty Empty (omega arith) in
          subst (λ c. is_allowed (1 + m) c ≡ true) (sym empty) refl)
          (cases_lt m i)),
    )

-- at the last place no piece is left
pub built-last : (all : List Cell) (i a b k : ℕ) (cells : List Cell) → IsBuilt all i a b k cells → 32 ≤ i → a ≡ 0
built-last all i a b k cells built h = let long = built.long in built.count ∙ ap held (drop_all i all (omega arith))

-- ---- what stands is a position

none-allowed : (n m : ℕ) → all_allowed n (replicate m Empty) ≡ true
none-allowed n zero = refl
none-allowed n (suc m) = none-allowed (n + 1) m

front-allowed : (n i m : ℕ) (all : List Cell) → ((k : ℕ) → k < i → is_allowed (n + k) (get_or all k Empty) ≡ true) → all_allowed n (take i all ++ replicate m Empty) ≡ true
front-allowed n zero m all each = none-allowed n m
front-allowed n (suc i) m [] each = none-allowed n m
front-allowed n (suc i) m (c ∷ all) each =
    let e : n + 0 ≡ n = omega arith in
    both_true (subst (λ k. is_allowed k c ≡ true) e (each 0 (omega arith)))
    (front-allowed (n + 1) i m all (λ k l. let f : n + suc k ≡ n + 1 + k = omega arith in subst (λ j. is_allowed j (get_or all k Empty) ≡ true) f (each (suc k) (omega arith))))

none-more : (m : ℕ) → held (replicate m Empty) ≡ 0
none-more zero = refl
none-more (suc m) = none-more m

held-front : (i m : ℕ) (all : List Cell) → held (take i all ++ replicate m Empty) ≤ held all
held-front zero m all = let none = none-more m in omega arith
held-front (suc i) m [] = let none = none-more m in omega arith
held-front (suc i) m (Empty ∷ all) = held-front i m all
held-front (suc i) m (Man s ∷ all) = let rest = held-front i m all in omega arith
held-front (suc i) m (King s ∷ all) = let rest = held-front i m all in omega arith

length-front : (i : ℕ) (all : List Cell) → length all ≡ 32 → i ≤ 32 → length (take i all ++ replicate (32 - i) Empty) ≡ 32
length-front i all long h =
    let first = length-take-le i all (omega arith) in
    length-append (take i all) (replicate (32 - i) Empty) ∙ omega (arith, length-replicate (32 - i) Empty)

pub built-lawful : (all : List Cell) (i a b k : ℕ) (cells : List Cell) (s : Side) → IsBuilt all i a b k cells → i ≤ 32 → IsLawful (record { cells = cells; to_move = s })
built-lawful all i a b k cells s built h =
    let both = pieces-held cells in
    let front = held-front i (32 - i) all in
    let same = ap held built.front in
    let few = built.whole in
    record {
      squares = ap length built.front ∙ length-front i all built.long h;
      black = omega arith;
      white = omega arith;
      men = ap (all_allowed 1) built.front ∙ front-allowed 1 i (32 - i) all built.allowed;
    }

-- the piece put on the square of place i
pub put-there : (cells : List Cell) (i x : ℕ) (c : Cell) → x ≡ i + 1 → put cells x c ≡ set cells i c
put-there cells i x c e = let there : x - 1 ≡ i = omega arith in ap (λ n. set cells n c) there

-- ---- the same by the names that the code has

pub rebuilt : (all : List Cell) (i a b k x y z : ℕ) (cells found : List Cell) → IsBuilt all i a b k cells → x ≡ a → y ≡ b → z ≡ k → found ≡ cells → IsBuilt all i x y z found
rebuilt all i a b k x y z cells found built e f g h =
    subst (λ m. IsBuilt all i m y z found) (sym e) (subst (λ m. IsBuilt all i a m z found) (sym f) (subst (λ m. IsBuilt all i a b m found) (sym g) (subst (IsBuilt all i a b k) (sym h) built)))

-- the piece that the code makes of the kinds' first digit
pub code-piece : (k a weight : ℕ) (piece : Cell) → weight ≡ 4 ^ (a - 1) → piece ≡ piece_numbered (k / weight) → piece ≡ piece_numbered (k / 4 ^ (a - 1))
code-piece k a weight piece w e = e ∙ ap (λ m. piece_numbered (k / m)) w

-- ---- the last piece: each square that is left is a choice of its own

-- the next d squares, behind each of which a choice is left, stay empty
built-skip : (all : List Cell) (d i b k : ℕ) (cells : List Cell) → IsBuilt all i 1 (d + b) k cells → IsBuilt all (i + d) 1 b k cells
built-skip all zero i b k cells built =
    let here : i ≡ i + 0 = omega arith in
    let left : 0 + b ≡ b = omega arith in
    subst (λ m. IsBuilt all m 1 b k cells) here (subst (λ m. IsBuilt all i 1 m k cells) left built)
built-skip all (suc d) i b k cells built =
    let place = built.place in
    let left = choose-one (32 - i) (omega arith) in
    let one = choose-none (31 - i) in
    let next = built-none all i 1 (suc d + b) k cells built (omega arith) (omega arith) (omega arith) in
    let less : suc d + b - choose 0 (31 - i) ≡ d + b = omega arith in
    let on : i + suc d ≡ i + 1 + d = omega arith in
    subst (λ m. IsBuilt all m 1 b k cells) (sym on)
    (built-skip all d (i + 1) b k cells (subst (λ m. IsBuilt all (i + 1) 1 m k cells) less next))

-- where the last piece is put, and what stands then
pub record IsLastStep (all : List Cell) (i b k : ℕ) (cells : List Cell) : Type 0 where
  pub inside : i + b < 32
  pub digit : k < 4
  pub lawful : is_allowed (i + b + 1) (piece_numbered k) ≡ true → (s : Side)
      → IsLawful (record { cells = put cells (i + b + 1) (piece_numbered k); to_move = s })
  pub done : is_allowed (i + b + 1) (piece_numbered k) ≡ true
      → (put cells (i + b + 1) (piece_numbered k) ≡ all) × (all_allowed 1 all ≡ true)
  pub bad : is_allowed (i + b + 1) (piece_numbered k) ≡ false → all_allowed 1 all ≡ false

pub last-step : (all : List Cell) (i a b k : ℕ) (cells : List Cell) → IsBuilt all i a b k cells → a ≡ 1 → IsLastStep all i b k cells
last-step all i a b k cells built one =
    let first : IsBuilt all i 1 (b + 0) k cells = subst (λ m. IsBuilt all i m (b + 0) k cells) one (subst (λ m. IsBuilt all i a m k cells) (omega arith) built) in
    let place = first.place in
    let left = choose-one (32 - i) (omega arith) in
    let here = built-skip all b i 0 k cells first in
    let inside : i + b < 32 = omega arith in
    let none = choose-none (31 - (i + b)) in
    let below : 0 < choose (1 - 1) (31 - (i + b)) = omega arith in
    let step = piece-step all (i + b) 1 0 k cells here (omega arith) inside below in
    let whole : k / 4 ^ (1 - 1) ≡ k = omega arith in
    let piece = ap piece_numbered whole in
    let fine = λ (e : is_allowed (i + b + 1) (piece_numbered k) ≡ true).
    built-piece all (i + b) 1 0 k cells here (omega arith) inside below (subst (λ c. is_allowed (i + b + 1) c ≡ true) (sym piece) e) in
    let there : put cells (i + b + 1) (piece_numbered k) ≡ set cells (i + b) (piece_numbered (k / 4 ^ (1 - 1))) =
    put-there cells (i + b) (i + b + 1) (piece_numbered k) refl ∙ ap (set cells (i + b)) (sym piece) in
    record {
      inside = inside;
      digit = subst (λ m. m < 4) whole step.digit;
      lawful = λ e s. subst (λ all. IsLawful (record { cells = all; to_move = s })) (sym there)
          (built-lawful _ _ _ _ _ _ s (fine e) (omega arith));
      done = λ e. let end = built-end _ _ _ _ _ _ (fine e) (omega arith) refl in (there ∙ end.0, end.1);
      bad = λ e. refused all (i + b) 1 0 k cells here (omega arith) inside below (subst (λ c. is_allowed (i + b + 1) c ≡ false) (sym piece) e);
    }

-- what the last piece's test tells of the whole choice
pub last-result : (o : Option Board) (all : List Cell) (i b k : ℕ) (cells : List Cell) (piece : Cell) (s : Side) → IsLastStep all i b k cells → piece ≡ piece_numbered k
    → MatchOption o (IsFalse (is_allowed (i + b + 1) piece)) (λ q. (q ≡ record { cells = put cells (i + b + 1) piece; to_move = s }) × IsTrue (is_allowed (i + b + 1) piece))
    → MatchOption o (IsFalse (all_allowed 1 all)) (λ q. (q ≡ record { cells = all; to_move = s }) × IsTrue (all_allowed 1 all))
last-result None all i b k cells piece s step e got = step.bad (ap (is_allowed (i + b + 1)) (sym e) ∙ got)
last-result (Some q) all i b k cells piece s step e got =
    let fine = ap (is_allowed (i + b + 1)) (sym e) ∙ got.1 in
    let end = step.done fine in
    let cells : put cells (i + b + 1) piece ≡ all = ap (put cells (i + b + 1)) e ∙ end.0 in
    (got.0 ∙ (λ j. record { cells = cells j; to_move = s }), end.1)

-- ---- what stands at an index, by the numbers that the code has of it

pub block-at : (i : ℕ) → i < entry_count 3 → IsInBlock 3 i (block_of i)
block-at i below =
    let found = find-block 3 i below in
    subst (IsInBlock 3 i) (sym (block-is found.0 i found.1.few found.1.least found.1.most)) found.1

-- n is the block of index i, f its first index and w the number of its kinds
pub record IsFound (i n f w : ℕ) (chosen : List ℕ) : Type 0 where
  pub few : n ≤ 3
  pub choice : (i - f) / 2 / w < choose n 32
  pub kinds : (i - f) / 2 % w < 4 ^ n
  pub there : slice_get (choices n squares) ((i - f) / 2 / w) ≡ Some chosen
  pub at : position_at i ≡ if_lawful (board_of chosen ((i - f) / 2 % w) (side_numbered ((i - f) % 2)))

found-in : (i n : ℕ) → IsInBlock 3 i n → (chosen : List ℕ) × IsFound i n (first_index n) (4 ^ n) chosen
found-in i n among =
    let j : ℕ = i - first_index n in
    let step = block-step n in
    let least = among.least in
    let most = among.most in
    let below = place-below n j (omega arith) in
    let got = choice-at n (j / 2 / 4 ^ n) below in (
      got.0,
      record {
        few = among.few;
        choice = below;
        kinds = kinds-below n j;
        there = got.1;
        at = at-index n i among.few least most ∙ ap (option_and_then (λ choice. if_lawful (board_of choice (j / 2 % 4 ^ n) (side_numbered (j % 2))))) got.1;
      },
    )

pub found : (i n f w : ℕ) → i < entry_count 3 → n ≡ block_of i → f ≡ first_index n → w ≡ 4 ^ n → (chosen : List ℕ) × IsFound i n f w chosen
found i n f w below block first weight =
    let those = found-in i n (subst (IsInBlock 3 i) (sym block) (block-at i below)) in
    (those.0, subst (λ x. IsFound i n x w those.0) (sym first) (subst (λ x. IsFound i n (first_index n) x those.0) (sym weight) those.1))

-- the board of a choice is no position where a man stands on its farthest row, and else it is one
pub none-lawful : (p : Board) → all_allowed 1 p.cells ≡ false → if_lawful p ≡ None
none-lawful p h = ap (λ b. cond b (Some p) None) (and_right (length p.cells == 32 && nat_le (pieces Black p.cells) 12 && nat_le (pieces White p.cells) 12) (all_allowed 1 p.cells) h)

pub few-lawful : (i n f w : ℕ) (chosen : List ℕ) → IsFound i n f w chosen → let b = board_of chosen ((i - f) / 2 % w) (side_numbered ((i - f) % 2)) in all_allowed 1 b.cells ≡ true → IsLawful b
few-lawful i n f w chosen is h =
    let board : Board = board_of chosen ((i - f) / 2 % w) (side_numbered ((i - f) % 2)) in
    let are = cells-of_choice n ((i - f) / 2 / w) ((i - f) / 2 % w) chosen is.there is.kinds in
    let both = pieces-held board.cells in
    let count = are.count in
    let few = is.few in
    record { squares = are.long; black = omega arith; white = omega arith; men = h }

pub first-least : (i n f : ℕ) → i < entry_count 3 → n ≡ block_of i → f ≡ first_index n → f ≤ i
first-least i n f below block first = subst (λ x. x ≤ i) (sym (first ∙ ap first_index block)) (block-at i below).least

-- what the code made of the choice is what stands at the index
pub made-is : (i n f w : ℕ) (chosen : List ℕ) (s : Side) (r : Option Board) → IsFound i n f w chosen → s ≡ side_numbered ((i - f) % 2)
    → (let cells = with_pieces_on (replicate 32 Empty) chosen ((i - f) / 2 % w) in
    MatchOption r (IsFalse (all_allowed 1 cells)) (λ p. (p ≡ record { cells = cells; to_move = s }) × IsTrue (all_allowed 1 cells)))
    → r ≡ position_at i
made-is i n f w chosen s None is side h = sym (is.at ∙ none-lawful (board_of chosen ((i - f) / 2 % w) (side_numbered ((i - f) % 2))) h)
made-is i n f w chosen s (Some p) is side h =
    let cells : List Cell = with_pieces_on (replicate 32 Empty) chosen ((i - f) / 2 % w) in
    let board : Board = board_of chosen ((i - f) / 2 % w) (side_numbered ((i - f) % 2)) in
    ap Some (h.0 ∙ ap (λ (m : Side). record { cells = cells; to_move = m }) side) ∙ sym (is.at ∙ if-lawful board (few-lawful i n f w chosen is h.1))

pub record IsHeld (i : ℕ) (r : Option Board) : Type 0 where
  pub lawful : IfSome r (λ p. IsLawful p)
  pub few : (k : ℕ) → k ≤ 3 → i < entry_count k → IfSome r (λ p. piece_count p ≤ k)
  pub index : IfSome r (λ p. index_of p ≡ i)

pub is-held : (i : ℕ) (r : Option Board) → i < entry_count 3 → r ≡ position_at i → IsHeld i r
is-held i None below e = record { lawful = tt; few = λ k most less. tt; index = tt }
is-held i (Some p) below e =
    let here = indices_hold_positions 3 i p (omega arith) below (sym e) in
    record { lawful = here.lawful; few = λ k most less. (indices_hold_positions k i p most less (sym e)).few; index = here.index }
