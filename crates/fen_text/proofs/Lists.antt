-- A side's printed list, item by item.
use Rattle.std.proofs.Common.{◌≡◌, ℕ, suc, ◌+◌, ◌-◌, ◌*◌, ◌<◌, ◌≤◌, Bool, true, false, cond, List, [], ◌∷◌, ◌++◌, length, get_or, take, drop, refl, sym, ◌∙◌, ap, arith, inl, inr, append_assoc, append-nil, length-append, length-take, add-zero, eqb}
use Rattle.std.specs.List.{flat_map}
use Rattle.std.proofs.lemmas.Bool.{cases_Bool, eqb-true, agree_below_at}
use Rattle.std.proofs.lemmas.List.{get_or_default, take_more, take-append-drop}
use Rattle.std.proofs.lemmas.List.Sums.{sum_by-append}
use Rattle.std.proofs.lemmas.List.Concat.{flat_map-append}
use Rattle.draughts_board.specs.Geometry.{squares}
use Rattle.draughts_board.specs.Board.{Board, IsLawful, pieces, belongs}
use Rattle.draughts_board.specs.declared.pieces.Side.{Side}
use Rattle.draughts_board.specs.declared.pieces.Side.TheVariants.{Black, White}
use Rattle.draughts_board.specs.declared.pieces.Cell.{Cell}
use Rattle.draughts_board.specs.declared.pieces.Cell.TheVariants.{Empty}
use Rattle.fen_text.specs.Grammar.{Item, item_text, further_text, list_text}
use Rattle.fen_text.specs.Printed.{printed_item, next_text, printed_items}

abbrev pub is_none : List Item → Bool
is_none [] = true
is_none (i ∷ items) = false

abbrev pub new_item : Side → ℕ → Cell → List Item
new_item side n c = cond (belongs side c) (printed_item n c ∷ []) []

printed_items-push : (side : Side) (n : ℕ) (cells : List Cell) (c : Cell) → printed_items side n (cells ++ c ∷ []) ≡ printed_items side n cells ++ new_item side (n + length cells) c
printed_items-push side n [] c = rw add-zero (elim (cases_Bool (belongs side c)) [
  | inl on ↦ rw on refl
  | inr off ↦ rw off refl
])
printed_items-push side n (b ∷ cells) c =
    let rest = printed_items-push side (n + 1) cells c in
    let e : n + 1 + length cells ≡ n + suc (length cells) = omega arith in
    elim (cases_Bool (belongs side b)) [
      | inl on ↦ rw (on, rest, e) refl
      | inr off ↦ rw (off, rest, e) refl
    ]

list_text-push : (items : List Item) (n : ℕ) (c : Cell) → list_text (items ++ printed_item n c ∷ []) ≡ list_text items ++ next_text (is_none items) (printed_item n c)
list_text-push [] n c = append-nil (item_text (printed_item n c))
list_text-push (i ∷ items) n c =
    let e : flat_map further_text (items ++ printed_item n c ∷ []) ≡ flat_map further_text items ++ further_text (printed_item n c) = flat_map-append further_text items (printed_item n c ∷ []) ∙ ap (λ t. flat_map further_text items ++ t) (append-nil (further_text (printed_item n c))) in
    rw e (sym (append_assoc (item_text i) (flat_map further_text items) (further_text (printed_item n c))))

length-printed_items : (side : Side) (n : ℕ) (cells : List Cell) → length (printed_items side n cells) ≡ pieces side cells
length-printed_items side n [] = refl
length-printed_items side n (c ∷ cells) =
    let rest = length-printed_items side (n + 1) cells in
    let e = sum_by-append (λ (x : Cell). cond {A = ℕ} (belongs side x) 1 0) (c ∷ []) cells in
    elim (cases_Bool (belongs side c)) [
      | inl on ↦ (let one : cond {A = ℕ} (belongs side c) 1 0 ≡ 1 = rw on refl in let l : length (printed_items side n (c ∷ cells)) ≡ suc (length (printed_items side (n + 1) cells)) = rw on refl in omega (arith, rest, e, one, l))
      | inr off ↦ (let none : cond {A = ℕ} (belongs side c) 1 0 ≡ 0 = rw off refl in let l : length (printed_items side n (c ∷ cells)) ≡ length (printed_items side (n + 1) cells) = rw off refl in omega (arith, rest, e, none, l))
    ]

pieces-take : (side : Side) (i : ℕ) (cells : List Cell) → pieces side (take i cells) ≤ pieces side cells
pieces-take side i cells =
    let e = sum_by-append (λ (x : Cell). cond {A = ℕ} (belongs side x) 1 0) (take i cells) (drop i cells) in
    let whole = ap (pieces side) (take-append-drop i cells) in
    omega (arith, e, whole)

most : (side : Side) (p : Board) → IsLawful p → pieces side p.cells ≤ 12
most Black p lawful = lawful.black
most White p lawful = lawful.white

pub most_items : (side : Side) (p : Board) (i : ℕ) → IsLawful p → length (printed_items side 1 (take i p.cells)) ≤ 12
most_items side p i lawful = omega (arith, length-printed_items side 1 (take i p.cells), pieces-take side i p.cells, most side p lawful)

-- ---- one turn of the loop

next_items : (side : Side) (p : Board) (i : ℕ) → IsLawful p → i < 32 → printed_items side 1 (take (i + 1) p.cells) ≡ printed_items side 1 (take i p.cells) ++ new_item side (i + 1) (get_or p.cells i Empty)
next_items side p i lawful lt =
    let full = lawful.squares in
    let within : i < length p.cells = omega arith in
    let n : 1 + length (take i p.cells) ≡ i + 1 = omega (arith, length-take i p.cells) in
    ap (printed_items side 1) (take_more p.cells i Empty within) ∙ printed_items-push side 1 (take i p.cells) (get_or p.cells i Empty) ∙ ap (λ k. printed_items side 1 (take i p.cells) ++ new_item side k (get_or p.cells i Empty)) n

-- the square's cell belongs to the side
pub items_more : (side : Side) (p : Board) (i : ℕ) → IsLawful p → i < 32 → belongs side (get_or p.cells i Empty) ≡ true
    → printed_items side 1 (take (i + 1) p.cells) ≡ printed_items side 1 (take i p.cells) ++ printed_item (i + 1) (get_or p.cells i Empty) ∷ []
items_more side p i lawful lt on = next_items side p i lawful lt ∙ ap (λ b. printed_items side 1 (take i p.cells) ++ cond b (printed_item (i + 1) (get_or p.cells i Empty) ∷ []) []) on

-- or it does not
pub items_same : (side : Side) (p : Board) (i : ℕ) → IsLawful p → i < 32 → belongs side (get_or p.cells i Empty) ≡ false
    → printed_items side 1 (take (i + 1) p.cells) ≡ printed_items side 1 (take i p.cells)
items_same side p i lawful lt off = next_items side p i lawful lt ∙ ap (λ b. printed_items side 1 (take i p.cells) ++ cond b (printed_item (i + 1) (get_or p.cells i Empty) ∷ []) []) off ∙ append-nil _

pub text_more : (old : List ℕ) (items : List Item) (n : ℕ) (c : Cell) → (old ++ list_text items) ++ next_text (is_none items) (printed_item n c) ≡ old ++ list_text (items ++ printed_item n c ∷ [])
text_more old items n c = append_assoc old (list_text items) (next_text (is_none items) (printed_item n c)) ∙ ap (λ t. old ++ t) (sym (list_text-push items n c))

pub is_none-push : (items : List Item) (i : Item) → is_none (items ++ i ∷ []) ≡ false
is_none-push [] i = refl
is_none-push (j ∷ items) i = refl

pub squares_at : (i : ℕ) → i < 32 → get_or squares i 0 ≡ i + 1
unfolding squares
squares_at i lt = eqb-true _ _ (agree_below_at (λ k. eqb (get_or squares k 0) (k + 1)) (λ k. true) 32 i refl lt)

pub squares-length : length squares ≡ 32
unfolding squares
squares-length = refl

-- the square at place i is i + 1
pub square_is : (all : List ℕ) (i d : ℕ) → all ≡ squares → i < 32 → get_or all i d ≡ i + 1
square_is all i d e lt =
    let size : length all ≡ 32 = ap length e ∙ squares-length in
    get_or_default all i d 0 (omega arith) ∙ ap (λ xs. get_or xs i 0) e ∙ squares_at i lt

-- what stands there
pub cell_is : (p : Board) (i n : ℕ) (c : Cell) → n ≡ i + 1 → c ≡ get_or p.cells (n - 1) Empty → c ≡ get_or p.cells i Empty
cell_is p i n c e read = (let k : n - 1 ≡ i = omega arith in read ∙ ap (λ j. get_or p.cells j Empty) k)

-- the text, whether it is still the first item, and the room taken, once the items are known
pub record ListSoFar (old text : List ℕ) (is_first : Bool) (items : List Item) : Type 0 where
  pub bytes : text ≡ old ++ list_text items
  pub first : is_first ≡ is_none items
  pub room : length text ≤ length old + (4 * length items - 1)

pub so_far-push : (old text new : List ℕ) (is_first : Bool) (items : List Item) (n : ℕ) (c : Cell) → ListSoFar old text is_first items
    → new ≡ text ++ next_text is_first (printed_item n c) → length new ≤ length text + cond {A = ℕ} is_first 3 4 → ListSoFar old new false (items ++ printed_item n c ∷ [])
so_far-push old text new is_first items n c held e room = record {
  bytes = e ∙ rw (held.bytes, held.first) (text_more old items n c);
  first = sym (is_none-push items (printed_item n c));
  room = (let r = held.room in let l = length-append items (printed_item n c ∷ []) in room_more items is_first held.first room r l);
}
  where
    room_more : (xs : List Item) (b : Bool) → b ≡ is_none xs → length new ≤ length text + cond {A = ℕ} b 3 4 → length text ≤ length old + (4 * length xs - 1) → length (xs ++ printed_item n c ∷ []) ≡ length xs + 1
        → length new ≤ length old + (4 * length (xs ++ printed_item n c ∷ []) - 1)
    room_more [] true e grown r l = omega (arith, grown, r, l)
    room_more [] false e grown r l = absurd cc
    room_more (x ∷ xs) true e grown r l = absurd cc
    room_more (x ∷ xs) false e grown r l = omega (arith, grown, r, l)

-- the whole text, piece by piece
pub printed_text : (m : ℕ) (white black t1 t2 t3 t4 t5 : List ℕ) → t1 ≡ m ∷ [] → t2 ≡ t1 ++ 58 ∷ 87 ∷ [] → t3 ≡ t2 ++ white → t4 ≡ t3 ++ 58 ∷ 66 ∷ [] → t5 ≡ t4 ++ black
    → t5 ≡ m ∷ 58 ∷ 87 ∷ (white ++ 58 ∷ 66 ∷ (black ++ []))
printed_text m white black t1 t2 t3 t4 t5 e1 e2 e3 e4 e5 =
    let e13 : t3 ≡ m ∷ 58 ∷ 87 ∷ white = e3 ∙ ap (λ t. t ++ white) (e2 ∙ ap (λ t. t ++ 58 ∷ 87 ∷ []) e1) in
    let e15 : t5 ≡ m ∷ 58 ∷ 87 ∷ ((white ++ 58 ∷ 66 ∷ []) ++ black) = e5 ∙ ap (λ t. t ++ black) (e4 ∙ ap (λ t. t ++ 58 ∷ 66 ∷ []) e13) in
    e15 ∙ ap (λ t. m ∷ 58 ∷ 87 ∷ t) (append_assoc white (58 ∷ 66 ∷ []) black ∙ ap (λ t. white ++ 58 ∷ 66 ∷ t) (sym (append-nil black)))
