-- A text that cannot go on at a place is refused there.
use Rattle.std.proofs.Common.{◌≡◌, ℕ, suc, Bool, true, false, cond, not, ◌&&◌, ◌==◌, leb, List, [], ◌∷◌, ◌++◌, length, map, Option, Some, None, Ok, Err, refl, sym, ◌∙◌, ap, subst, arith, append_assoc, append-nil, inl, inr}
use Rattle.std.proofs.lemmas.Bool.{lt-leb, and_parts, and_left, and_right, not-true, or_parts}
use Rattle.draughts_board.specs.Board.{other}
use Rattle.draughts_board.specs.declared.pieces.Side.{Side}
use Rattle.draughts_board.specs.declared.pieces.Side.TheVariants.{Black, White}
use Rattle.fen_text.specs.declared.fault.Fault.{Fault}
use Rattle.fen_text.specs.declared.fault.Fault.TheVariants.{Letter, Number, End}
use Rattle.fen_text.specs.Grammar.{letter_of, Numeral, one, two, numeral_text, are_digits, value, Item, mark, IsItem, comma, list_text, AreItems, opening_text}
use Rattle.std.specs.Char.{is_ascii_digit}
use Rattle.fen_text.specs.Spelled.{Group, group_of}
use Rattle.fen_text.specs.Faults.{lead_text, Introduction, first_list, second_list, opening_front, IsIntroduction, Started, nothing, king_mark, range_sign, started_text, HasStarted, least_started, FenPlace, at_side, at_colon, at_colour, at_other_colour, at_list, in_item, behind_item, at_end, text_before, IsPlace, closing, carries_on, may_end, is_square_due, least_square, StandsWrong, NumberWrong}
use Rattle.fen_text.specs.Reading.{◌>>=◌, byte_at, side_at, square_at, king_at, last_at, item_at, items_at, begins_item, list_at, end_at, form_at}
use Rattle.fen_text.proofs.Items.{then_items, items_at-step, with_front}
use Rattle.fen_text.proofs.Parts.{begins, digit_below, digit_above, stops, stops_at_end, ends_at_range}
use Rattle.fen_text.proofs.Again.{square_at-number, square_again, king_again, items_before, items_again, list_begins, list_at-items, list_at-none, list_again, after_first, after_second, form_at-first, form_at-second}

-- ---- squares

-- a number that is no square's, or that of a square before the least
square_wrong : (least : ℕ) (rest : List ℕ) → NumberWrong least rest → square_at least rest ≡ Err (Number (length rest))
square_wrong least rest wrong =
    let out : (leb least (value wrong.number) && leb (value wrong.number) 32) ≡ false = elim wrong.wrong [
      | inl low ↦ and_left _ _ (lt-leb least (value wrong.number) low)
      | inr high ↦ and_right _ _ (lt-leb (value wrong.number) 32 high)
    ] in
    ap (square_at least) wrong.stands ∙ square_at-number least wrong.number wrong.behind wrong.digits wrong.whole
    ∙ ap (λ b. cond b (Ok (value wrong.number, wrong.behind)) (Err (Number (length (numeral_text wrong.number ++ wrong.behind))))) out
    ∙ ap (λ (t : List ℕ). Err (Number (length t))) (sym wrong.stands)

no_square : (least b : ℕ) (behind : List ℕ) → is_ascii_digit b ≡ false → square_at least (b ∷ behind) ≡ Err (Number (suc (length behind)))
unfolding square_at
no_square least b behind e = rw e refl

no_more : (least : ℕ) → square_at least [] ≡ Err End
unfolding square_at
no_more least = refl

-- ---- an item, once it has come so far

-- nothing of the item stands yet, and no `K` and no blank follows
abbrev pub is_ready : Started → List ℕ → Bool
is_ready nothing rest = not (begins 75 rest) && not (begins 32 rest)
is_ready king_mark rest = true
is_ready (range_sign king first) rest = true

no_mark : (rest : List ℕ) → begins 75 rest ≡ false → king_at rest ≡ (false, rest)
no_mark [] e = refl
no_mark (b ∷ rest) e = rw e refl

at_range : (first : ℕ) (rest : List ℕ) → last_at first (45 ∷ rest) ≡ square_at first rest
unfolding last_at
at_range first rest = refl

range_parts : (king : Bool) (first : Numeral) (rest : List ℕ) → started_text (range_sign king first) ++ rest ≡ mark king ++ (numeral_text first ++ (45 ∷ rest))
range_parts king first rest = append_assoc (mark king) (numeral_text first ++ 45 ∷ []) rest ∙ ap (λ t. mark king ++ t) (append_assoc (numeral_text first) (45 ∷ []) rest)

-- the square that is due there fails
item_fails : (side : Side) (items : List Item) (started : Started) (rest : List ℕ) (f : Fault) → HasStarted items started → is_ready started rest ≡ true
    → square_at (least_started started) rest ≡ Err f → item_at side (started_text started ++ rest) ≡ Err f
unfolding item_at
item_fails side items nothing rest f has ready e = (let k : king_at rest ≡ (false, rest) = no_mark rest (not-true _ (and_parts _ _ ready).0) in rw (k, e) refl)
item_fails side items king_mark rest f has ready e = rw e refl
item_fails side items (range_sign king first) rest f has ready e =
    let k = king_again king first (45 ∷ rest) has.digits in
    let s = square_again 1 first (45 ∷ rest) has (ends_at_range first rest) in
    let l : last_at (value first) (45 ∷ rest) ≡ Err f = at_range (value first) rest ∙ e in
    ap (item_at side) (range_parts king first rest) ∙ rw (k, s, l) refl

digits_begin : (n : Numeral) (rest : List ℕ) → are_digits n ≡ true → (begins_item (numeral_text n ++ rest) ≡ true) × (begins 32 (numeral_text n ++ rest) ≡ false) × (begins 75 (numeral_text n ++ rest) ≡ false)
digits_begin (one a) rest d = (rw (d, digit_above a 75 d (omega arith)) refl, digit_below a 32 d (omega arith), digit_above a 75 d (omega arith))
digits_begin (two a b) rest d = (let e : is_ascii_digit a ≡ true = (and_parts _ _ d).0 in (rw (e, digit_above a 75 e (omega arith)) refl, digit_below a 32 e (omega arith), digit_above a 75 e (omega arith)))

mark_begins : (king : Bool) (n : Numeral) (rest : List ℕ) → are_digits n ≡ true → (begins_item (mark king ++ (numeral_text n ++ rest)) ≡ true) × (begins 32 (mark king ++ (numeral_text n ++ rest)) ≡ false)
mark_begins true n rest d = (refl, refl)
mark_begins false n rest d = ((digits_begin n rest d).0, (digits_begin n rest d).1)

started_begins : (items : List Item) (started : Started) (rest : List ℕ) → HasStarted items started → is_ready started rest ≡ true → begins 32 (started_text started ++ rest) ≡ false
started_begins items nothing rest has ready = not-true _ (and_parts _ _ ready).1
started_begins items king_mark rest has ready = refl
started_begins items (range_sign king first) rest has ready = ap (begins 32) (range_parts king first rest) ∙ (mark_begins king first (45 ∷ rest) has.digits).1

first_begins : (started : Started) (rest : List ℕ) → HasStarted [] started → begins_item (started_text started ++ rest) ≡ true
first_begins nothing rest has = absurd (has refl)
first_begins king_mark rest has = refl
first_begins (range_sign king first) rest has = ap begins_item (range_parts king first rest) ∙ (mark_begins king first (45 ∷ rest) has.digits).0

-- ---- lists

abbrev pub colour_of : Introduction → Side
colour_of (first_list mover colour) = colour
colour_of (second_list mover colour items) = other colour

list_fails : (opening : Introduction) (rest : List ℕ) (f : Fault) → IsIntroduction opening → list_at (colour_of opening) rest ≡ Err f → form_at (opening_front opening ++ rest) ≡ Err f
list_fails (first_list mover colour) rest f is e = form_at-first mover colour rest ∙ ap (λ r. r >>= after_first mover colour) e
list_fails (second_list mover colour items) rest f is e = form_at-second mover colour items rest is ∙ ap (λ r. r >>= after_second mover (map (group_of colour) items)) e

first_item_fails : (side : Side) (bytes : List ℕ) (f : Fault) → item_at side bytes ≡ Err f → items_at side bytes ≡ Err f
first_item_fails side bytes f e = items_at-step side bytes ∙ ap (λ r. r >>= then_items (items_at side)) e

lead_begins : (items : List Item) (blanks : ℕ) (started : Started) (rest : List ℕ) → AreItems items → HasStarted items started → begins_item (lead_text items blanks ++ (started_text started ++ rest)) ≡ true
lead_begins [] blanks started rest all has = first_begins started rest has
lead_begins (i ∷ items) blanks started rest all has = ap begins_item (append_assoc (list_text (i ∷ items)) (comma blanks) (started_text started ++ rest)) ∙ list_begins i items _ all.0

in_item_fails : (opening : Introduction) (items : List Item) (blanks : ℕ) (started : Started) (rest : List ℕ) (f : Fault) → IsPlace (in_item opening items blanks started) → is_ready started rest ≡ true
    → square_at (least_started started) rest ≡ Err f → form_at (text_before (in_item opening items blanks started) ++ rest) ≡ Err f
in_item_fails opening items blanks started rest f is ready e =
    let side = colour_of opening in
    let tail : List ℕ = started_text started ++ rest in
    let parted : text_before (in_item opening items blanks started) ++ rest ≡ opening_front opening ++ (lead_text items blanks ++ tail) =
    append_assoc (opening_front opening) (lead_text items blanks ++ started_text started) rest ∙ ap (λ t. opening_front opening ++ t) (append_assoc (lead_text items blanks) (started_text started) rest) in
    let item : items_at side tail ≡ Err f = first_item_fails side tail f (item_fails side items started rest f is.2 ready e) in
    let whole : items_at side (lead_text items blanks ++ tail) ≡ Err f = items_before side items blanks tail is.1 (started_begins items started rest is.2 ready) ∙ ap (with_front (map (group_of side) items)) item in
    ap form_at parted ∙ list_fails opening (lead_text items blanks ++ tail) f is.0 (list_at-items side (lead_text items blanks ++ tail) (lead_begins items blanks started rest is.1 is.2) ∙ whole)

-- a list was read, and a byte stands behind it that does not close it
not_closed : (opening : Introduction) (rest : List ℕ) (groups : List Group) (b : ℕ) (behind : List ℕ) → IsIntroduction opening → list_at (colour_of opening) rest ≡ Ok (groups, b ∷ behind) → (b == closing opening) ≡ false
    → form_at (opening_front opening ++ rest) ≡ Err (Letter (suc (length behind)))
unfolding byte_at
not_closed (first_list mover colour) rest groups b behind is read wrong =
    form_at-first mover colour rest ∙ ap (λ r. r >>= after_first mover colour) read ∙ rw wrong refl
not_closed (second_list mover colour items) rest groups b behind is read wrong =
    form_at-second mover colour items rest is ∙ ap (λ r. r >>= after_second mover (map (group_of colour) items)) read ∙ rw wrong refl

-- an item is not carried on
carries_not : (first : Numeral) (last : Option Numeral) (b : ℕ) (behind : List ℕ) → carries_on first last b ≡ false → stops first last (b ∷ behind) ≡ true
carries_not (one a) None b behind e = (let p = or_parts _ _ e in let d : is_ascii_digit b ≡ false = p.0 in let s : (b == 45) ≡ false = p.1 in rw (d, s) refl)
carries_not (two x y) None b behind e = (let s : (b == 45) ≡ false = e in rw s refl)
carries_not first (Some (one a)) b behind e = (let d : is_ascii_digit b ≡ false = e in rw d refl)
carries_not first (Some (two x y)) b behind e = refl

snoc_begins : (items : List Item) (item : Item) (rest : List ℕ) → AreItems items → IsItem item → begins_item (list_text (items ++ item ∷ []) ++ rest) ≡ true
snoc_begins [] item rest all is = list_begins item [] rest is
snoc_begins (i ∷ items) item rest all is = list_begins i (items ++ item ∷ []) rest all.0

behind_parts : (opening : Introduction) (items : List Item) (item : Item) (rest : List ℕ) → text_before (behind_item opening items item) ++ rest ≡ opening_front opening ++ (list_text (items ++ item ∷ []) ++ rest)
behind_parts opening items item rest = append_assoc (opening_front opening) (list_text (items ++ item ∷ [])) rest

behind_read : (opening : Introduction) (items : List Item) (item : Item) (rest : List ℕ) → IsPlace (behind_item opening items item) → stops item.first item.last rest ≡ true → begins 44 rest ≡ false
    → list_at (colour_of opening) (list_text (items ++ item ∷ []) ++ rest) ≡ Ok (map (group_of (colour_of opening)) (items ++ item ∷ []), rest)
behind_read opening items item rest is ends none =
    list_at-items (colour_of opening) (list_text (items ++ item ∷ []) ++ rest) (snoc_begins items item rest is.1 is.2) ∙ items_again (colour_of opening) items item rest is.1 is.2 ends none

-- ---- a byte that may not stand there, and no square is due

other_colour_due : (mover colour : Side) (items : List Item) (rest : List ℕ) → AreItems items
    → form_at (text_before (at_other_colour mover colour items) ++ rest) ≡ (byte_at (letter_of (other colour)) rest >>= λ second. list_at (other colour) second >>= after_second mover (map (group_of colour) items))
unfolding byte_at
other_colour_due mover colour items rest all =
    let parted : text_before (at_other_colour mover colour items) ++ rest ≡ opening_text mover colour ++ (list_text items ++ (58 ∷ rest)) =
    append_assoc (opening_text mover colour) (list_text items ++ 58 ∷ []) rest ∙ ap (λ t. opening_text mover colour ++ t) (append_assoc (list_text items) (58 ∷ []) rest) in
    ap form_at parted ∙ form_at-first mover colour (list_text items ++ (58 ∷ rest)) ∙ ap (λ r. r >>= after_first mover colour) (list_again colour items (58 ∷ rest) all refl)

end_due : (mover colour : Side) (first second : List Item) (rest : List ℕ) → AreItems first → AreItems second
    → form_at (text_before (at_end mover colour first second) ++ rest) ≡ (end_at rest >>= λ over. Ok (mover, map (group_of colour) first ++ map (group_of (other colour)) second))
end_due mover colour first second rest all_first all_second =
    let opening : Introduction = second_list mover colour first in
    let parted : text_before (at_end mover colour first second) ++ rest ≡ opening_front opening ++ (list_text second ++ (46 ∷ rest)) =
    append_assoc (opening_front opening) (list_text second ++ 46 ∷ []) rest ∙ ap (λ t. opening_front opening ++ t) (append_assoc (list_text second) (46 ∷ []) rest) in
    ap form_at parted ∙ form_at-second mover colour first (list_text second ++ (46 ∷ rest)) all_first
    ∙ ap (λ r. r >>= after_second mover (map (group_of colour) first)) (list_again (other colour) second (46 ∷ rest) all_second refl)

pub letter_refused : (place : FenPlace) (rest : List ℕ) → IsPlace place → is_square_due place ≡ false → StandsWrong place rest → form_at (text_before place ++ rest) ≡ Err (Letter (length rest))
unfolding form_at byte_at side_at
letter_refused place [] is due wrong = absurd wrong
letter_refused at_side (b ∷ behind) is due wrong = (let p = or_parts _ _ wrong in let x : (b == 66) ≡ false = p.0 in let y : (b == 87) ≡ false = p.1 in rw (x, y) refl)
letter_refused (at_colon Black) (b ∷ behind) is due wrong = (let x : (b == 58) ≡ false = wrong in rw x refl)
letter_refused (at_colon White) (b ∷ behind) is due wrong = (let x : (b == 58) ≡ false = wrong in rw x refl)
letter_refused (at_colour Black) (b ∷ behind) is due wrong = (let p = or_parts _ _ wrong in let x : (b == 66) ≡ false = p.0 in let y : (b == 87) ≡ false = p.1 in rw (x, y) refl)
letter_refused (at_colour White) (b ∷ behind) is due wrong = (let p = or_parts _ _ wrong in let x : (b == 66) ≡ false = p.0 in let y : (b == 87) ≡ false = p.1 in rw (x, y) refl)
letter_refused (at_other_colour mover colour items) (b ∷ behind) is due wrong =
    other_colour_due mover colour items (b ∷ behind) is ∙ (let x : (b == letter_of (other colour)) ≡ false = wrong in rw x refl)
letter_refused (at_list opening) (b ∷ behind) is due wrong =
    let p = or_parts _ _ wrong in
    let q = or_parts _ _ p.0 in
    let digit : is_ascii_digit b ≡ false = q.0 in
    let king : (b == 75) ≡ false = q.1 in
    not_closed opening (b ∷ behind) [] b behind is (list_at-none (colour_of opening) (b ∷ behind) (rw (king, digit) refl)) p.1
letter_refused (in_item opening items blanks started) (b ∷ behind) is due wrong = absurd (let h : true ≡ false = due in cc)
letter_refused (behind_item opening items item) (b ∷ behind) is due wrong =
    let p = or_parts _ _ wrong in
    let q = or_parts _ _ p.0 in
    let stop = carries_not item.first item.last b behind q.0 in
    ap form_at (behind_parts opening items item (b ∷ behind)) ∙ not_closed opening (list_text (items ++ item ∷ []) ++ (b ∷ behind)) (map (group_of (colour_of opening)) (items ++ item ∷ [])) b behind is.0 (behind_read opening items item (b ∷ behind) is stop q.1) p.1
letter_refused (at_end mover colour first second) (b ∷ behind) is due wrong = end_due mover colour first second (b ∷ behind) is.0 is.1

-- ---- a square is due

pub square_refused : (place : FenPlace) (rest : List ℕ) → IsPlace place → is_square_due place ≡ true → StandsWrong place rest → form_at (text_before place ++ rest) ≡ Err (Number (length rest))
square_refused place [] is due wrong = absurd wrong
square_refused (in_item opening items blanks nothing) (b ∷ behind) is due wrong =
    let p = or_parts _ _ wrong in
    let q = or_parts _ _ p.0 in
    let ready : (not (b == 75) && not (b == 32)) ≡ true = (let x : (b == 75) ≡ false = q.1 in let y : (b == 32) ≡ false = p.1 in rw (x, y) refl) in
    in_item_fails opening items blanks nothing (b ∷ behind) (Number (suc (length behind))) is ready (no_square 1 b behind q.0)
square_refused (in_item opening items blanks king_mark) (b ∷ behind) is due wrong = in_item_fails opening items blanks king_mark (b ∷ behind) (Number (suc (length behind))) is refl (no_square 1 b behind wrong)
square_refused (in_item opening items blanks (range_sign king first)) (b ∷ behind) is due wrong = in_item_fails opening items blanks (range_sign king first) (b ∷ behind) (Number (suc (length behind))) is refl (no_square (value first) b behind wrong)
square_refused at_side (b ∷ behind) is due wrong = absurd (let h : false ≡ true = due in cc)
square_refused (at_colon mover) (b ∷ behind) is due wrong = absurd (let h : false ≡ true = due in cc)
square_refused (at_colour mover) (b ∷ behind) is due wrong = absurd (let h : false ≡ true = due in cc)
square_refused (at_other_colour mover colour items) (b ∷ behind) is due wrong = absurd (let h : false ≡ true = due in cc)
square_refused (at_list opening) (b ∷ behind) is due wrong = absurd (let h : false ≡ true = due in cc)
square_refused (behind_item opening items item) (b ∷ behind) is due wrong = absurd (let h : false ≡ true = due in cc)
square_refused (at_end mover colour first second) (b ∷ behind) is due wrong = absurd (let h : false ≡ true = due in cc)

number_ready : (started : Started) (least : ℕ) (rest : List ℕ) → NumberWrong least rest → is_ready started rest ≡ true
number_ready nothing least rest wrong =
    let d = digits_begin wrong.number wrong.behind wrong.digits in
    let k : begins 75 rest ≡ false = ap (begins 75) wrong.stands ∙ d.2 in
    let b : begins 32 rest ≡ false = ap (begins 32) wrong.stands ∙ d.1 in
    rw (k, b) refl
number_ready king_mark least rest wrong = refl
number_ready (range_sign king first) least rest wrong = refl

some_is : (x y : ℕ) → Some x ≡ Some y → x ≡ y
some_is x y e = cc

pub number_refused : (place : FenPlace) (rest : List ℕ) (least : ℕ) → IsPlace place → least_square place ≡ Some least → NumberWrong least rest → form_at (text_before place ++ rest) ≡ Err (Number (length rest))
number_refused (at_list opening) rest least is due wrong =
    let side = colour_of opening in
    let one_least : NumberWrong 1 rest = subst (λ k. NumberWrong k rest) (sym (some_is 1 least due)) wrong in
    let d = digits_begin wrong.number wrong.behind wrong.digits in
    let begin : begins_item rest ≡ true = ap begins_item wrong.stands ∙ d.0 in
    let item = item_fails side (record { blanks = 0; king = false; first = one 49; last = None } ∷ []) nothing rest (Number (length rest)) (λ e. cc) (number_ready nothing 1 rest one_least) (square_wrong 1 rest one_least) in
    list_fails opening rest (Number (length rest)) is (list_at-items side rest begin ∙ first_item_fails side rest (Number (length rest)) item)
number_refused (in_item opening items blanks started) rest least is due wrong =
    let here : NumberWrong (least_started started) rest = subst (λ k. NumberWrong k rest) (sym (some_is (least_started started) least due)) wrong in
    in_item_fails opening items blanks started rest (Number (length rest)) is (number_ready started (least_started started) rest here) (square_wrong (least_started started) rest here)
number_refused at_side rest least is due wrong = absurd (let h : None ≡ Some least = due in cc)
number_refused (at_colon mover) rest least is due wrong = absurd (let h : None ≡ Some least = due in cc)
number_refused (at_colour mover) rest least is due wrong = absurd (let h : None ≡ Some least = due in cc)
number_refused (at_other_colour mover colour items) rest least is due wrong = absurd (let h : None ≡ Some least = due in cc)
number_refused (behind_item opening items item) rest least is due wrong = absurd (let h : None ≡ Some least = due in cc)
number_refused (at_end mover colour first second) rest least is due wrong = absurd (let h : None ≡ Some least = due in cc)

-- ---- the text breaks off

ready_at_end : (started : Started) → is_ready started [] ≡ true
ready_at_end nothing = refl
ready_at_end king_mark = refl
ready_at_end (range_sign king first) = refl

list_then_end : (mover colour : Side) (rest : List ℕ) (groups : List Group) → list_at colour rest ≡ Ok (groups, []) → form_at (opening_text mover colour ++ rest) ≡ Err End
unfolding byte_at
list_then_end mover colour rest groups read = form_at-first mover colour rest ∙ ap (λ r. r >>= after_first mover colour) read

pub end_refused : (place : FenPlace) → IsPlace place → may_end place ≡ false → form_at (text_before place) ≡ Err End
unfolding form_at byte_at side_at
end_refused at_side is due = refl
end_refused (at_colon Black) is due = refl
end_refused (at_colon White) is due = refl
end_refused (at_colour Black) is due = refl
end_refused (at_colour White) is due = refl
end_refused (at_other_colour mover colour items) is due = ap form_at (sym (append-nil (text_before (at_other_colour mover colour items)))) ∙ other_colour_due mover colour items [] is
end_refused (at_list (first_list mover colour)) is due = ap form_at (sym (append-nil (opening_text mover colour))) ∙ list_then_end mover colour [] [] (list_at-none colour [] refl)
end_refused (at_list (second_list mover colour items)) is due = absurd (let h : true ≡ false = due in cc)
end_refused (in_item opening items blanks started) is due = ap form_at (sym (append-nil (text_before (in_item opening items blanks started)))) ∙ in_item_fails opening items blanks started [] End is (ready_at_end started) (no_more (least_started started))
end_refused (behind_item (first_list mover colour) items item) is due =
    let text : List ℕ = list_text (items ++ item ∷ []) in
    let read : list_at colour text ≡ Ok (map (group_of colour) (items ++ item ∷ []), []) = ap (list_at colour) (sym (append-nil text)) ∙ behind_read (first_list mover colour) items item [] is (stops_at_end item.first item.last) refl in
    list_then_end mover colour text (map (group_of colour) (items ++ item ∷ [])) read
end_refused (behind_item (second_list mover colour before) items item) is due = absurd (let h : true ≡ false = due in cc)
end_refused (at_end mover colour first second) is due = absurd (let h : true ≡ false = due in cc)
