-- A text is compared with a printed FEN, piece by piece.
use Rattle.std.proofs.Common.{◌≡◌, ℕ, zero, suc, ◌+◌, ◌-◌, ◌<◌, ◌==◌, Bool, true, false, cond, ◌||◌, List, [], ◌∷◌, ◌++◌, length, filter, get_or, refl, sym, ap, subst, ◌∙◌, arith, inl, inr, append-nil}
use Rattle.std.specs.Prelude.{◌↔◌, IsTrue, Option, Some, None, option_and_then, slice_index}
use Rattle.std.specs.List.{flat_map}
use Rattle.std.specs.Int.Bits.{bit_or}
use Rattle.std.proofs.lemmas.Option.{same_Some}
use Rattle.std.proofs.lemmas.Bool.{cases_Bool, eqb-true, eq-eqb, false≢true}
use Rattle.draughts_board.specs.Geometry.{squares}
use Rattle.draughts_board.specs.Board.{Board, IsLawful, belongs, same_cell, cell_at}
use Rattle.draughts_board.specs.Masks.{IsMaskOf, AreMasksOf, squares_of}
use Rattle.draughts_board.specs.declared.pieces.Side.{Side}
use Rattle.draughts_board.specs.declared.pieces.Side.TheVariants.{Black, White}
use Rattle.draughts_board.specs.declared.pieces.Cell.{Cell}
use Rattle.draughts_board.specs.declared.pieces.Cell.TheVariants.{Empty, Man, King}
use Rattle.draughts_board.proofs.Bits.{stands_in-or}
use Rattle.draughts_board.proofs.OnSquares.{squares_of-test}
use Rattle.fen_text.specs.Behind.{behind, items_text}
use Rattle.fen_text.specs.Grammar.{Item, list_text, further_text, opening_text, turn_text}
use Rattle.fen_text.specs.Printed.{next_text, printed_item, printed_items, fen_of}

-- ---- fronts

behind-append : (a b text : List ℕ) → behind (a ++ b) text ≡ option_and_then (behind b) (behind a text)
behind-append [] b text = refl
behind-append (x ∷ a) b [] = refl
behind-append (x ∷ a) b (c ∷ text) =
    elim (cases_Bool (c == x)) [
      | inl on ↦ rw on (behind-append a b text)
      | inr off ↦ rw off refl
    ]

-- first the one front, then the other
pub behind-both : (a b text rest : List ℕ) (end : Option (List ℕ)) → Some rest ≡ behind a text → end ≡ behind b rest → end ≡ behind (a ++ b) text
behind-both a b text rest end first second = second ∙ ap (option_and_then (behind b)) first ∙ sym (behind-append a b text)

pub behind-none : (a b text : List ℕ) → None ≡ behind a text → None ≡ behind (a ++ b) text
behind-none a b text first = ap (option_and_then (behind b)) first ∙ sym (behind-append a b text)

pub behind-self : (a : List ℕ) → behind a a ≡ Some []
behind-self [] = refl
behind-self (x ∷ a) = ap (λ t. cond t (behind a a) None) (eq-eqb x x refl) ∙ behind-self a

pub behind-some : (a text rest : List ℕ) → Some rest ≡ behind a text → text ≡ a ++ rest
behind-some [] text rest e = cc
behind-some (x ∷ a) [] rest e = absurd cc
behind-some (x ∷ a) (c ∷ text) rest e =
    elim (cases_Bool (c == x)) [
      | inl on ↦ (let same = eqb-true c x on in let more = behind-some a text rest (e ∙ ap (λ t. cond t (behind a text) None) on) in cc)
      | inr off ↦ (let none : Some rest ≡ None = e ∙ ap (λ t. cond t (behind a text) None) off in absurd cc)
    ]

-- a text is the front where nothing stands behind it
pub front-alone : (a text rest : List ℕ) (b : Bool) → Some rest ≡ behind a text → b ≡ (length rest == 0) → IsTrue b ↔ (text ≡ a)
front-alone a text rest b e is =
    let there = behind-some a text rest e in (
      λ t. ends rest (sym is ∙ t) there,
      λ same. let whole : Some rest ≡ Some [] = e ∙ ap (behind a) same ∙ behind-self a in is ∙ eq-eqb (length rest) 0 (none whole),
    )
  where
    ends : (xs : List ℕ) → (length xs == 0) ≡ true → text ≡ a ++ xs → text ≡ a
    ends [] t there = there ∙ append-nil a
    ends (x ∷ xs) t there = absurd (let z = eqb-true (length (x ∷ xs)) 0 t in omega arith)

    none : Some rest ≡ Some [] → length rest ≡ 0
    none whole = ap length (same_Some rest [] whole)

pub no-front : (a text : List ℕ) → None ≡ behind a text → IsTrue false ↔ (text ≡ a)
no-front a text e = (
  λ t. absurd (false≢true t),
  λ same. let clash : None ≡ Some [] = e ∙ ap (behind a) same ∙ behind-self a in absurd cc,
)

-- ---- a side's list, by the squares of its pieces

abbrev from : ℕ → ℕ → List ℕ
from n zero = []
from n (suc m) = n ∷ from (n + 1) m

squares-from : squares ≡ from 1 32
unfolding squares
squares-from = refl

-- items of which the first may be the first of its list
abbrev list_from : Bool → List Item → List ℕ
list_from true items = list_text items
list_from false items = flat_map further_text items

list_from-next : (is_first : Bool) (i : Item) (items : List Item) → i.blanks ≡ 0 → next_text is_first i ++ flat_map further_text items ≡ list_from is_first (i ∷ items)
list_from-next true i items e = refl
list_from-next false i items e = rw e refl

items-from : (side : Side) (p : Board) (is_first : Bool) (n : ℕ) (cells : List Cell) → ((k : ℕ) → k < length cells → cell_at p (n + k) ≡ get_or cells k Empty)
    → items_text p is_first (filter (λ m. belongs side (cell_at p m)) (from n (length cells))) ≡ list_from is_first (printed_items side n cells)
items-from side p true n [] each = refl
items-from side p false n [] each = refl
items-from side p is_first n (c ∷ cells) each =
    let first : n + 0 ≡ n = omega arith in
    let here : cell_at p n ≡ c = subst (λ m. cell_at p m ≡ c) first (each 0 (omega arith)) in
    let others : List ℕ = filter (λ m. belongs side (cell_at p m)) (from (n + 1) (length cells)) in
    let behind_it : (k : ℕ) → k < length cells → cell_at p (n + 1 + k) ≡ get_or cells k Empty =
    λ k h. let m : n + suc k ≡ n + 1 + k = omega arith in subst (λ m. cell_at p m ≡ get_or cells k Empty) m (each (suc k) (omega arith)) in
    elim (cases_Bool (belongs side c)) [
      | inl on ↦ (
          ap (λ t. items_text p is_first (cond t (n ∷ others) others)) (ap (belongs side) here ∙ on)
          ∙ ap (λ d. next_text is_first (printed_item n d) ++ items_text p false others) here
          ∙ ap (λ t. next_text is_first (printed_item n c) ++ t) (items-from side p false (n + 1) cells behind_it)
          ∙ list_from-next is_first (printed_item n c) (printed_items side (n + 1) cells) refl
          ∙ sym (ap (λ t. list_from is_first (cond t (printed_item n c ∷ printed_items side (n + 1) cells) (printed_items side (n + 1) cells))) on))
      | inr off ↦ (
          ap (λ t. items_text p is_first (cond t (n ∷ others) others)) (ap (belongs side) here ∙ off)
          ∙ items-from side p is_first (n + 1) cells behind_it
          ∙ sym (ap (λ t. list_from is_first (cond t (printed_item n c ∷ printed_items side (n + 1) cells) (printed_items side (n + 1) cells))) off))
    ]

pub list-items : (side : Side) (p : Board) (mask : ℕ) → IsLawful p → IsMaskOf (λ n. belongs side (cell_at p n)) mask
    → items_text p true (squares_of mask) ≡ list_text (printed_items side 1 p.cells)
list-items side p mask lawful is =
    let count : from 1 32 ≡ from 1 (length p.cells) = ap (from 1) (sym lawful.squares) in
    ap (items_text p true) (squares_of-test (λ n. belongs side (cell_at p n)) mask is ∙ ap (filter (λ n. belongs side (cell_at p n))) (squares-from ∙ count))
    ∙ items-from side p true 1 p.cells (λ k h. let place : 1 + k - 1 ≡ k = omega arith in ap (λ m. get_or p.cells m Empty) place)

squares_of-zero : squares_of 0 ≡ []
unfolding squares_of squares
squares_of-zero = refl

pub none-left : (p : Board) (is_first : Bool) (left : ℕ) → left ≡ 0 → items_text p is_first (squares_of left) ≡ []
none-left p is_first left end = ap (λ m. items_text p is_first (squares_of m)) end ∙ ap (items_text p is_first) squares_of-zero

-- the first square that is left, and those behind it
module _ (p : Board) (is_first : Bool) (left x later : ℕ) (cell : Cell) (rest : List ℕ) (first : squares_of left ≡ x ∷ squares_of later) (here : cell ≡ cell_at p x) where
  next-left : behind (next_text is_first (printed_item x cell) ++ items_text p false (squares_of later)) rest ≡ behind (items_text p is_first (squares_of left)) rest
  next-left =
      ap (λ c. behind (next_text is_first (printed_item x c) ++ items_text p false (squares_of later)) rest) here
      ∙ ap (λ squares. behind (items_text p is_first squares) rest) (sym first)

  pub next-none : None ≡ behind (next_text is_first (printed_item x cell)) rest → None ≡ behind (items_text p is_first (squares_of left)) rest
  next-none none = behind-none (next_text is_first (printed_item x cell)) (items_text p false (squares_of later)) rest none ∙ next-left

  pub next-some : (more : List ℕ) → Some more ≡ behind (next_text is_first (printed_item x cell)) rest
      → behind (items_text p false (squares_of later)) more ≡ behind (items_text p is_first (squares_of left)) rest
  next-some more some =
      behind-both (next_text is_first (printed_item x cell)) (items_text p false (squares_of later)) rest more (behind (items_text p false (squares_of later)) more) some refl ∙ next-left

-- ---- the squares of a side, by the masks

belongs_by-tests : (side : Side) (c : Cell) → (same_cell (Man side) c || same_cell (King side) c) ≡ belongs side c
belongs_by-tests Black Empty = refl
belongs_by-tests Black (Man Black) = refl
belongs_by-tests Black (Man White) = refl
belongs_by-tests Black (King Black) = refl
belongs_by-tests Black (King White) = refl
belongs_by-tests White Empty = refl
belongs_by-tests White (Man Black) = refl
belongs_by-tests White (Man White) = refl
belongs_by-tests White (King Black) = refl
belongs_by-tests White (King White) = refl

pub black-mask : (p : Board) (masks : List ℕ) → AreMasksOf p masks → IsMaskOf (λ n. belongs Black (cell_at p n)) (bit_or (slice_index masks 0) (slice_index masks 1))
black-mask p masks h x s = stands_in-or (slice_index masks 0) (slice_index masks 1) x ∙ (λ i. h.black_men x s i || h.black_kings x s i) ∙ belongs_by-tests Black (cell_at p x)

pub white-mask : (p : Board) (masks : List ℕ) → AreMasksOf p masks → IsMaskOf (λ n. belongs White (cell_at p n)) (bit_or (slice_index masks 2) (slice_index masks 3))
white-mask p masks h x s = stands_in-or (slice_index masks 2) (slice_index masks 3) x ∙ (λ i. h.white_men x s i || h.white_kings x s i) ∙ belongs_by-tests White (cell_at p x)

-- ---- the whole, part by part

module _ (p : Board) (text : List ℕ) (m : Side) (e : m ≡ p.to_move) where
  abbrev white : List ℕ
  white = list_text (printed_items White 1 p.cells)

  abbrev black : List ℕ
  black = list_text (printed_items Black 1 p.cells)

  abbrev rest_of_fen : List ℕ
  rest_of_fen = turn_text White ++ (black ++ [])

  whole : behind (opening_text m White ++ (white ++ rest_of_fen)) text ≡ behind (fen_of p) text
  unfolding fen_of
  whole = ap (λ s. behind (opening_text s White ++ (white ++ rest_of_fen)) text) e

  pub no-opening : None ≡ behind (opening_text m White) text → None ≡ behind (fen_of p) text
  no-opening none = behind-none (opening_text m White) (white ++ rest_of_fen) text none ∙ whole

  pub no-white : (first : List ℕ) → Some first ≡ behind (opening_text m White) text → None ≡ behind white first → None ≡ behind (fen_of p) text
  no-white first e1 none = behind-both (opening_text m White) (white ++ rest_of_fen) text first None e1 (behind-none white rest_of_fen first none) ∙ whole

  pub no-turn : (first second : List ℕ) → Some first ≡ behind (opening_text m White) text → Some second ≡ behind white first → None ≡ behind (turn_text White) second → None ≡ behind (fen_of p) text
  no-turn first second e1 e2 none =
      behind-both (opening_text m White) (white ++ rest_of_fen) text first None e1
      (behind-both white rest_of_fen first second None e2 (behind-none (turn_text White) (black ++ []) second none))
      ∙ whole

  pub all-parts : (first second third : List ℕ) (end : Option (List ℕ)) → Some first ≡ behind (opening_text m White) text → Some second ≡ behind white first
      → Some third ≡ behind (turn_text White) second → end ≡ behind black third → end ≡ behind (fen_of p) text
  all-parts first second third end e1 e2 e3 e4 =
      behind-both (opening_text m White) (white ++ rest_of_fen) text first end e1
      (behind-both white rest_of_fen first second end e2
      (behind-both (turn_text White) (black ++ []) second third end e3 (e4 ∙ ap (λ front. behind front third) (sym (append-nil black)))))
      ∙ whole
