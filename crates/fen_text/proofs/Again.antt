-- What is spelled by the grammar is read again: squares, items, lists and whole texts.
use Rattle.std.proofs.Common.{◌≡◌, ℕ, ◌-◌, Bool, true, false, cond, ◌&&◌, ◌==◌, leb, List, [], ◌∷◌, ◌++◌, length, map, Option, Some, None, Result, Ok, Err, refl, sym, ◌∙◌, ap, subst, arith, append_assoc, append-nil}
use Rattle.std.specs.Prelude.{IfSome}
use Rattle.std.specs.Option.{option_map_or}
use Rattle.std.proofs.lemmas.List.{map-append}
use Rattle.std.proofs.lemmas.Bool.{le-leb, and_parts, not-true}
use Rattle.draughts_board.specs.Board.{other}
use Rattle.draughts_board.specs.declared.pieces.Side.{Side}
use Rattle.draughts_board.specs.declared.pieces.Side.TheVariants.{Black, White}
use Rattle.fen_text.specs.declared.fault.Fault.{Fault}
use Rattle.fen_text.specs.declared.fault.Fault.TheVariants.{Number}
use Rattle.fen_text.specs.Grammar.{letter_of, Numeral, one, two, numeral_text, are_digits, value, IsSquareFrom, Item, mark, range_text, item_text, IsItem, comma, list_text, AreItems, Draft, stop_text, opening_text, turn_text, draft_text, HasForm}
use Rattle.std.specs.Char.{is_ascii_digit}
use Rattle.fen_text.specs.Spelled.{Group, last_of, group_of, groups_of}
use Rattle.fen_text.specs.Faults.{ends_before, lead_text, second_list, opening_front}
use Rattle.fen_text.specs.Reading.{◌>>=◌, byte_at, side_at, second_digit, square_at, king_at, last_at, item_at, items_at, begins_item, list_at, without_stop, end_at, form_at}
use Rattle.fen_text.proofs.Items.{then_items, items_at-step, with_front, with_no_front}
use Rattle.fen_text.proofs.Parts.{begins, digit_above, stops, stops_at_comma, closes, stops_where_closed, no_comma_where_closed, no_item_where_closed, ends_at_range, comma_again, no_comma, item_begins, list_text-last, list_text-cons, last_item}

-- ---- squares

abbrev pub tens : Numeral → ℕ
tens (one a) = a
tens (two a b) = a

-- the digits behind the first
abbrev pub behind_first : Numeral → List ℕ
behind_first (one a) = []
behind_first (two a b) = b ∷ []

pub number_again : (n : Numeral) (rest : List ℕ) → are_digits n ≡ true → ends_before n rest ≡ true → second_digit (tens n - 48) (behind_first n ++ rest) ≡ (value n, rest)
number_again (one a) [] digits ends = refl
number_again (one a) (b ∷ rest) digits ends = (let e : is_ascii_digit b ≡ false = not-true (is_ascii_digit b) ends in rw e refl)
number_again (two a b) rest digits ends = (let e : is_ascii_digit b ≡ true = (and_parts _ _ digits).1 in rw e refl)

pub first_digit : (n : Numeral) → are_digits n ≡ true → is_ascii_digit (tens n) ≡ true
first_digit (one a) d = d
first_digit (two a b) d = (and_parts _ _ d).0

-- a number in front, whether or not it is a square's
pub square_at-number : (least : ℕ) (n : Numeral) (rest : List ℕ) → are_digits n ≡ true → ends_before n rest ≡ true
    → square_at least (numeral_text n ++ rest) ≡ cond (leb least (value n) && leb (value n) 32) (Ok (value n, rest)) (Err (Number (length (numeral_text n ++ rest))))
unfolding square_at
square_at-number least (one a) rest digits ends = rw (number_again (one a) rest digits ends, digits) refl
square_at-number least (two a b) rest digits ends = rw (number_again (two a b) rest digits ends, first_digit (two a b) digits) refl

pub square_again : (least : ℕ) (n : Numeral) (rest : List ℕ) → IsSquareFrom least n → ends_before n rest ≡ true → square_at least (numeral_text n ++ rest) ≡ Ok (value n, rest)
square_again least n rest square ends =
    square_at-number least n rest square.digits ends ∙ rw (le-leb least (value n) square.low, le-leb (value n) 32 square.high) refl

-- ---- items

pub king_again : (king : Bool) (n : Numeral) (rest : List ℕ) → are_digits n ≡ true → king_at (mark king ++ (numeral_text n ++ rest)) ≡ (king, numeral_text n ++ rest)
king_again true n rest digits = refl
king_again false (one a) rest digits = rw (digit_above a 75 digits (omega arith)) refl
king_again false (two a b) rest digits = rw (digit_above a 75 (and_parts _ _ digits).0 (omega arith)) refl

last_again : (first : Numeral) (last : Option Numeral) (rest : List ℕ) → IfSome last (IsSquareFrom (value first)) → stops first last rest ≡ true → last_at (value first) (range_text last ++ rest) ≡ Ok (last_of first last, rest)
unfolding last_at
last_again first None [] square ends = refl
last_again first None (b ∷ rest) square ends = (let e : (b == 45) ≡ false = not-true (b == 45) (and_parts _ _ ends).1 in rw e refl)
last_again first (Some last) rest square ends = square_again (value first) last rest square ends

ends_at_last : (first : Numeral) (last : Option Numeral) (rest : List ℕ) → stops first last rest ≡ true → ends_before first (range_text last ++ rest) ≡ true
ends_at_last first None rest ends = (and_parts _ _ ends).0
ends_at_last first (Some last) rest ends = ends_at_range first (numeral_text last ++ rest)

pub item_text-parts : (i : Item) (rest : List ℕ) → item_text i ++ rest ≡ mark i.king ++ (numeral_text i.first ++ (range_text i.last ++ rest))
item_text-parts i rest = append_assoc (mark i.king) (numeral_text i.first ++ range_text i.last) rest ∙ ap (λ t. mark i.king ++ t) (append_assoc (numeral_text i.first) (range_text i.last) rest)

pub item_again : (side : Side) (i : Item) (rest : List ℕ) → IsItem i → stops i.first i.last rest ≡ true → item_at side (item_text i ++ rest) ≡ Ok (group_of side i, rest)
unfolding item_at
item_again side i rest is ends =
    let behind : List ℕ = range_text i.last ++ rest in
    let king = king_again i.king i.first behind is.0.digits in
    let first : square_at 1 (numeral_text i.first ++ behind) ≡ Ok (value i.first, behind) = square_again 1 i.first behind is.0 (ends_at_last i.first i.last rest ends) in
    let last = last_again i.first i.last rest is.1 ends in
    ap (item_at side) (item_text-parts i rest) ∙ rw (king, first, last) refl

-- ---- lists

-- an item and a comma in front
pub one_more : (side : Side) (i : Item) (blanks : ℕ) (rest : List ℕ) → IsItem i → begins 32 rest ≡ false
    → items_at side (item_text i ++ (comma blanks ++ rest)) ≡ with_front (group_of side i ∷ []) (items_at side rest)
one_more side i blanks rest is begin =
    let read = item_again side i (comma blanks ++ rest) is (stops_at_comma i.first i.last _) in
    items_at-step side (item_text i ++ (comma blanks ++ rest)) ∙ ap (λ r. r >>= then_items (items_at side)) read
    ∙ ap (λ o. option_map_or {U = Result (List Group × List ℕ) Fault} (λ next. items_at side next >>= λ more. Ok (group_of side i ∷ more.0, more.1)) o (Ok (group_of side i ∷ [], comma blanks ++ rest))) (comma_again blanks rest begin)

with_front-twice : (g : Group) (gs : List Group) (read : Result (List Group × List ℕ) Fault) → with_front (g ∷ []) (with_front gs read) ≡ with_front (g ∷ gs) read
with_front-twice g gs (Ok x) = refl
with_front-twice g gs (Err f) = refl

items_lead : (side : Side) (i : Item) (items : List Item) (blanks : ℕ) (rest : List ℕ) → AreItems (i ∷ items) → begins 32 rest ≡ false
    → items_at side (list_text (i ∷ items) ++ (comma blanks ++ rest)) ≡ with_front (map (group_of side) (i ∷ items)) (items_at side rest)
items_lead side i [] blanks rest all begin = ap (λ t. items_at side (t ++ (comma blanks ++ rest))) (append-nil (item_text i)) ∙ one_more side i blanks rest all.0 begin
items_lead side i (j ∷ items) blanks rest all begin =
    let next : List ℕ = list_text (j ∷ items) ++ (comma blanks ++ rest) in
    let next_begins : begins 32 next ≡ false = ap (begins 32) (append_assoc (item_text j) _ (comma blanks ++ rest)) ∙ (item_begins j _ all.1.0.0.digits).1 in
    ap (items_at side) (list_text-cons i j items (comma blanks ++ rest)) ∙ one_more side i j.blanks next all.0 next_begins
    ∙ ap (with_front (group_of side i ∷ [])) (items_lead side j items blanks rest all.1 begin)
    ∙ with_front-twice (group_of side i) (map (group_of side) (j ∷ items)) (items_at side rest)

-- the items before an item are read, and then that item
pub items_before : (side : Side) (items : List Item) (blanks : ℕ) (rest : List ℕ) → AreItems items → begins 32 rest ≡ false
    → items_at side (lead_text items blanks ++ rest) ≡ with_front (map (group_of side) items) (items_at side rest)
items_before side [] blanks rest all begin = sym (with_no_front (items_at side rest))
items_before side (i ∷ items) blanks rest all begin = ap (items_at side) (append_assoc (list_text (i ∷ items)) (comma blanks) rest) ∙ items_lead side i items blanks rest all begin

-- a list up to its last item
pub items_again : (side : Side) (items : List Item) (item : Item) (rest : List ℕ) → AreItems items → IsItem item → stops item.first item.last rest ≡ true → begins 44 rest ≡ false
    → items_at side (list_text (items ++ item ∷ []) ++ rest) ≡ Ok (map (group_of side) (items ++ item ∷ []), rest)
items_again side items item rest all is ends none =
    let alone : items_at side (item_text item ++ rest) ≡ Ok (group_of side item ∷ [], rest) = items_at-step side (item_text item ++ rest) ∙ ap (λ r. r >>= then_items (items_at side)) (item_again side item rest is ends)
    ∙ ap (λ o. option_map_or {U = Result (List Group × List ℕ) Fault} (λ next. items_at side next >>= λ more. Ok (group_of side item ∷ more.0, more.1)) o (Ok (group_of side item ∷ [], rest))) (no_comma rest none) in
    ap (λ t. items_at side (t ++ rest)) (list_text-last items item) ∙ ap (items_at side) (append_assoc (lead_text items item.blanks) (item_text item) rest)
    ∙ items_before side items item.blanks (item_text item ++ rest) all (item_begins item rest is.0.digits).1
    ∙ ap (with_front (map (group_of side) items)) alone
    ∙ ap (λ gs. Ok (gs, rest)) (sym (map-append (group_of side) items (item ∷ [])))

pub list_begins : (i : Item) (items : List Item) (rest : List ℕ) → IsItem i → begins_item (list_text (i ∷ items) ++ rest) ≡ true
list_begins i items rest is = ap begins_item (append_assoc (item_text i) _ rest) ∙ (item_begins i _ is.0.digits).0

pub list_at-items : (side : Side) (bytes : List ℕ) → begins_item bytes ≡ true → list_at side bytes ≡ items_at side bytes
unfolding list_at
list_at-items side bytes e = rw e refl

pub list_at-none : (side : Side) (bytes : List ℕ) → begins_item bytes ≡ false → list_at side bytes ≡ Ok ([], bytes)
unfolding list_at
list_at-none side bytes e = rw e refl

pub list_again : (side : Side) (items : List Item) (rest : List ℕ) → AreItems items → closes rest ≡ true → list_at side (list_text items ++ rest) ≡ Ok (map (group_of side) items, rest)
list_again side [] rest all closed = list_at-none side rest (no_item_where_closed rest closed)
list_again side (i ∷ items) rest all closed =
    let last = last_item i items all in
    let stop = stops_where_closed last.1.first last.1.last rest closed in
    let read = items_again side last.0 last.1 rest last.3 last.4 stop (no_comma_where_closed rest closed) in
    list_at-items side (list_text (i ∷ items) ++ rest) (list_begins i items rest all.0)
    ∙ subst (λ xs. items_at side (list_text xs ++ rest) ≡ Ok (map (group_of side) xs, rest)) (sym last.2) read

-- ---- the whole text

-- what is read behind the second list, and behind the first
abbrev pub after_second : Side → List Group → List Group × List ℕ → Result (Side × List Group) Fault
after_second mover groups back = end_at (without_stop back.1) >>= λ over. Ok (mover, groups ++ back.0)

abbrev pub after_first : Side → Side → List Group × List ℕ → Result (Side × List Group) Fault
after_first mover colour front =
    byte_at 58 front.1 >>= λ turned. byte_at (letter_of (other colour)) turned >>= λ second. list_at (other colour) second >>= after_second mover front.0

pub form_at-first : (mover colour : Side) (rest : List ℕ) → form_at (opening_text mover colour ++ rest) ≡ (list_at colour rest >>= after_first mover colour)
unfolding form_at side_at byte_at
form_at-first Black Black rest = refl
form_at-first Black White rest = refl
form_at-first White Black rest = refl
form_at-first White White rest = refl

turned : (mover colour : Side) (groups : List Group) (rest : List ℕ) → after_first mover colour (groups, turn_text colour ++ rest) ≡ (list_at (other colour) rest >>= after_second mover groups)
unfolding byte_at
turned mover Black groups rest = refl
turned mover White groups rest = refl

pub form_at-second : (mover colour : Side) (items : List Item) (rest : List ℕ) → AreItems items
    → form_at (opening_front (second_list mover colour items) ++ rest) ≡ (list_at (other colour) rest >>= after_second mover (map (group_of colour) items))
form_at-second mover colour items rest all =
    let parted : opening_front (second_list mover colour items) ++ rest ≡ opening_text mover colour ++ (list_text items ++ (turn_text colour ++ rest)) =
    append_assoc (opening_text mover colour) (list_text items ++ turn_text colour) rest ∙ ap (λ t. opening_text mover colour ++ t) (append_assoc (list_text items) (turn_text colour) rest) in
    ap form_at parted ∙ form_at-first mover colour (list_text items ++ (turn_text colour ++ rest))
    ∙ ap (λ r. r >>= after_first mover colour) (list_again colour items (turn_text colour ++ rest) all refl)
    ∙ turned mover colour (map (group_of colour) items) rest

stop_closes : (stop : Bool) → closes (stop_text stop) ≡ true
stop_closes true = refl
stop_closes false = refl

stopped : (mover : Side) (groups more : List Group) (stop : Bool) → after_second mover groups (more, stop_text stop) ≡ Ok (mover, groups ++ more)
stopped mover groups more true = refl
stopped mover groups more false = refl

pub form_again : (d : Draft) → AreItems d.first → AreItems d.second → form_at (draft_text d) ≡ Ok (d.to_move, groups_of d)
form_again d first second =
    let parted : draft_text d ≡ opening_front (second_list d.to_move d.colour d.first) ++ (list_text d.second ++ stop_text d.stop) =
    sym (append_assoc (opening_text d.to_move d.colour) (list_text d.first ++ turn_text d.colour) _ ∙ ap (λ t. opening_text d.to_move d.colour ++ t) (append_assoc (list_text d.first) (turn_text d.colour) _)) in
    ap form_at parted ∙ form_at-second d.to_move d.colour d.first (list_text d.second ++ stop_text d.stop) first
    ∙ ap (λ r. r >>= after_second d.to_move (map (group_of d.colour) d.first)) (list_again (other d.colour) d.second (stop_text d.stop) second (stop_closes d.stop))
    ∙ stopped d.to_move (map (group_of d.colour) d.first) (map (group_of (other d.colour)) d.second) d.stop

pub text_again : (text : List ℕ) (d : Draft) → HasForm text d → form_at text ≡ Ok (d.to_move, groups_of d)
text_again text d form = ap form_at form.spelled ∙ form_again d form.first form.second
