-- What is read keeps to the grammar, and where reading fails the text cannot go on: whole texts.
use Rattle.std.proofs.Common.{◌≡◌, ℕ, suc, Bool, true, false, cond, ◌||◌, ◌==◌, List, [], ◌∷◌, ◌++◌, length, map, Option, Some, None, Result, Ok, Err, refl, sym, ◌∙◌, ap, subst, append_assoc, ◌⊎◌, inl, inr}
use Rattle.std.proofs.lemmas.Bool.{cases_Bool, eqb-true, or_parts, or_from, and_parts, not-true}
use Rattle.draughts_board.specs.Board.{other}
use Rattle.draughts_board.specs.declared.pieces.Side.{Side}
use Rattle.draughts_board.specs.declared.pieces.Side.TheVariants.{Black, White}
use Rattle.fen_text.specs.declared.fault.Fault.{Fault}
use Rattle.fen_text.specs.declared.fault.Fault.TheVariants.{Letter, Number, End}
use Rattle.fen_text.specs.Grammar.{letter_of, Numeral, one, two, Item, list_text, AreItems, Draft, stop_text, opening_text, turn_text, HasForm}
use Rattle.std.specs.Char.{is_ascii_digit}
use Rattle.fen_text.specs.Spelled.{Group, group_of, groups_of}
use Rattle.fen_text.specs.Faults.{Introduction, first_list, second_list, opening_front, IsIntroduction, Started, nothing, king_mark, range_sign, started_text, least_started, FenPlace, at_side, at_colon, at_colour, at_other_colour, at_list, in_item, behind_item, at_end, text_before, IsPlace, closing, carries_on, may_stand, may_end, ends_second, is_square_due, least_square, StandsWrong, NumberWrong, lead_text}
use Rattle.fen_text.specs.Reading.{◌>>=◌, byte_at, side_at, begins_item, list_at, without_stop, end_at, form_at}
use Rattle.fen_text.proofs.Parts.{begins, stops, not_both}
use Rattle.fen_text.proofs.Read.{SquareFails, too_short, no_digit, wrong_number, NoDigit, IsStarted}
use Rattle.fen_text.proofs.ReadList.{ListEnds, no_item, behind_last, ListFails, ListRead, list_read}

-- why a text cannot go on at a place, `rest` being what stands there
abbrev pub PlaceFails : FenPlace → List ℕ → Fault → Type 0
PlaceFails place rest End = (rest ≡ []) × (may_end place ≡ false)
PlaceFails place rest (Letter left) = (left ≡ length rest) × (is_square_due place ≡ false) × StandsWrong place rest
PlaceFails place rest (Number left) = (left ≡ length rest)
    × (((is_square_due place ≡ true) × StandsWrong place rest) ⊎ ((least : ℕ) × (least_square place ≡ Some least) × NumberWrong least rest))

pub record TextFails (text : List ℕ) (f : Fault) : Type 0 where
  pub place : FenPlace
  pub rest : List ℕ
  pub sound : IsPlace place
  pub parts : text ≡ text_before place ++ rest
  pub fails : PlaceFails place rest f

-- ---- one byte

-- why no byte that passes the test was read
pub data ByteFails (test : ℕ → Bool) (bytes : List ℕ) : Fault → Type 0 where
  too_early : bytes ≡ [] → ByteFails test bytes End
  other_byte : (b : ℕ) (behind : List ℕ) → bytes ≡ b ∷ behind → test b ≡ false → ByteFails test bytes (Letter (suc (length behind)))

abbrev pub ByteRead : ℕ → List ℕ → Result (List ℕ) Fault → Type 0
ByteRead due bytes (Ok rest) = bytes ≡ due ∷ rest
ByteRead due bytes (Err f) = ByteFails (λ b. b == due) bytes f

byte_read : (due : ℕ) (bytes : List ℕ) → ByteRead due bytes (byte_at due bytes)
unfolding byte_at
byte_read due [] = too_early refl
byte_read due (b ∷ behind) =
    elim (cases_Bool (b == due)) [
      | inl e ↦ subst (λ t. ByteRead due (b ∷ behind) (cond t (Ok behind) (Err (Letter (suc (length behind)))))) (sym e) (ap (λ k. k ∷ behind) (eqb-true b due e))
      | inr e ↦ subst (λ t. ByteRead due (b ∷ behind) (cond t (Ok behind) (Err (Letter (suc (length behind)))))) (sym e) (other_byte b behind refl e)
    ]

abbrev pub SideRead : List ℕ → Result (Side × List ℕ) Fault → Type 0
SideRead bytes (Ok x) = bytes ≡ letter_of x.0 ∷ x.1
SideRead bytes (Err f) = ByteFails (λ b. b == 66 || b == 87) bytes f

side_read : (bytes : List ℕ) → SideRead bytes (side_at bytes)
unfolding side_at
side_read [] = too_early refl
side_read (b ∷ behind) =
    let wrong : Result (Side × List ℕ) Fault = Err (Letter (suc (length behind))) in
    elim (cases_Bool (b == 66)) [
      | inl e ↦ subst (λ t. SideRead (b ∷ behind) (cond t (Ok (Black, behind)) (cond (b == 87) (Ok (White, behind)) wrong))) (sym e) (ap (λ k. k ∷ behind) (eqb-true b 66 e))
      | inr e ↦ elim (cases_Bool (b == 87)) [
        | inl w ↦ subst (λ t. SideRead (b ∷ behind) (cond t (Ok (Black, behind)) (cond (b == 87) (Ok (White, behind)) wrong))) (sym e)
            (subst (λ t. SideRead (b ∷ behind) (cond t (Ok (White, behind)) wrong)) (sym w) (ap (λ k. k ∷ behind) (eqb-true b 87 w)))
        | inr w ↦ subst (λ t. SideRead (b ∷ behind) (cond t (Ok (Black, behind)) (cond (b == 87) (Ok (White, behind)) wrong))) (sym e)
            (subst (λ t. SideRead (b ∷ behind) (cond t (Ok (White, behind)) wrong)) (sym w) (other_byte b behind refl (or_from _ _ e w)))
      ]
    ]

-- a byte that was due at the place was not read
byte_fails : (text : List ℕ) (place : FenPlace) (rest : List ℕ) (f : Fault) (test : ℕ → Bool) → IsPlace place → text ≡ text_before place ++ rest → may_end place ≡ false → is_square_due place ≡ false
    → ((b : ℕ) (behind : List ℕ) → rest ≡ b ∷ behind → test b ≡ false → may_stand place b ≡ false) → ByteFails test rest f → TextFails text f
byte_fails text place rest End test is parts no_end no_square others (too_early e) = record { place = place; rest = rest; sound = is; parts = parts; fails = (e, no_end) }
byte_fails text place rest (Number left) test is parts no_end no_square others e = elim e [ ]
byte_fails text place rest (Letter left) test is parts no_end no_square others (other_byte b behind e wrong) = record {
  place = place;
  rest = rest;
  sound = is;
  parts = parts;
  fails = (ap length (sym e), no_square, subst (StandsWrong place) (sym e) (others b behind e wrong));
}

-- ---- a list

stands_at_nothing : (rest : List ℕ) → NoDigit rest → begins 75 rest ≡ false → begins 32 rest ≡ false → (opening : Introduction) (items : List Item) (more : ℕ) → StandsWrong (in_item opening items more nothing) rest
stands_at_nothing [] digit king blank opening items more = absurd digit
stands_at_nothing (b ∷ behind) digit king blank opening items more = or_from _ _ (or_from _ _ digit king) blank

stands_at_mark : (rest : List ℕ) → NoDigit rest → (opening : Introduction) (items : List Item) (more : ℕ) → StandsWrong (in_item opening items more king_mark) rest
stands_at_mark [] digit opening items more = absurd digit
stands_at_mark (b ∷ behind) digit opening items more = digit

stands_at_range : (king : Bool) (first : Numeral) (rest : List ℕ) → NoDigit rest → (opening : Introduction) (items : List Item) (more : ℕ) → StandsWrong (in_item opening items more (range_sign king first)) rest
stands_at_range king first [] digit opening items more = absurd digit
stands_at_range king first (b ∷ behind) digit opening items more = digit

-- the square that is due in an item was not read
square_fails : (opening : Introduction) (items : List Item) (more : ℕ) (started : Started) (rest : List ℕ) (f : Fault) → SquareFails (least_started started) rest f
    → (started ≡ nothing → begins 75 rest ≡ false) → (started ≡ nothing → begins 32 rest ≡ false) → PlaceFails (in_item opening items more started) rest f
square_fails opening items more started rest End (too_short e) king blank = (e, refl)
square_fails opening items more started rest (Letter left) e king blank = elim e [ ]
square_fails opening items more nothing rest (Number left) (no_digit e) king blank = (refl, inl (refl, stands_at_nothing rest e (king refl) (blank refl) opening items more))
square_fails opening items more king_mark rest (Number left) (no_digit e) king blank = (refl, inl (refl, stands_at_mark rest e opening items more))
square_fails opening items more (range_sign k first) rest (Number left) (no_digit e) king blank = (refl, inl (refl, stands_at_range k first rest e opening items more))
square_fails opening items more started rest (Number left) (wrong_number e) king blank = (refl, inr (least_started started, refl, e))

in_item_parts : (opening : Introduction) (items : List Item) (more : ℕ) (started : Started) (rest : List ℕ)
    → opening_front opening ++ (lead_text items more ++ (started_text started ++ rest)) ≡ text_before (in_item opening items more started) ++ rest
in_item_parts opening items more started rest =
    sym (append_assoc (opening_front opening) (lead_text items more ++ started_text started) rest ∙ ap (λ t. opening_front opening ++ t) (append_assoc (lead_text items more) (started_text started) rest))

begins_byte : (rest : List ℕ) → begins_item rest ≡ true → NoDigit rest → begins 75 rest ≡ false → ⊥
begins_byte [] begin digit king = digit
begins_byte (b ∷ behind) begin digit king = not_both _ begin (or_from _ _ king digit)

-- a list's first item has not begun, so its number is wrong
first_number_fails : (text : List ℕ) (opening : Introduction) (rest : List ℕ) (f : Fault) → IsIntroduction opening → text ≡ opening_front opening ++ rest → begins_item rest ≡ true → begins 75 rest ≡ false → SquareFails 1 rest f → TextFails text f
first_number_fails text opening rest End is parts begin king (too_short e) = absurd (not_both _ begin (ap begins_item e))
first_number_fails text opening rest (Letter left) is parts begin king e = elim e [ ]
first_number_fails text opening rest (Number left) is parts begin king (no_digit e) = absurd (begins_byte rest begin e king)
first_number_fails text opening rest (Number left) is parts begin king (wrong_number e) = record { place = at_list opening; rest = rest; sound = is; parts = parts; fails = (refl, inr (1, refl, e)) }

item_text_fails : (text : List ℕ) (opening : Introduction) (bytes : List ℕ) (f : Fault) → IsIntroduction opening → text ≡ opening_front opening ++ bytes → begins_item bytes ≡ true
    → (items : List Item) (more : ℕ) (started : Started) (rest : List ℕ) → AreItems items → IsStarted started → bytes ≡ lead_text items more ++ (started_text started ++ rest)
    → SquareFails (least_started started) rest f → (started ≡ nothing → begins 75 rest ≡ false) → (started ≡ nothing → begins 32 rest ≡ false) → TextFails text f
item_text_fails text opening bytes f is parts begin [] more nothing rest all sound bytes_are fails king blank =
    first_number_fails text opening rest f is (parts ∙ ap (λ t. opening_front opening ++ t) bytes_are) (sym (ap begins_item bytes_are) ∙ begin) (king refl) fails
item_text_fails text opening bytes f is parts begin (i ∷ items) more nothing rest all sound bytes_are fails king blank = record {
  place = in_item opening (i ∷ items) more nothing;
  rest = rest;
  sound = (is, all, λ e. cc);
  parts = parts ∙ ap (λ t. opening_front opening ++ t) bytes_are ∙ in_item_parts opening (i ∷ items) more nothing rest;
  fails = square_fails opening (i ∷ items) more nothing rest f fails king blank;
}
item_text_fails text opening bytes f is parts begin items more king_mark rest all sound bytes_are fails king blank = record {
  place = in_item opening items more king_mark;
  rest = rest;
  sound = (is, all, tt);
  parts = parts ∙ ap (λ t. opening_front opening ++ t) bytes_are ∙ in_item_parts opening items more king_mark rest;
  fails = square_fails opening items more king_mark rest f fails king blank;
}
item_text_fails text opening bytes f is parts begin items more (range_sign k first) rest all sound bytes_are fails king blank = record {
  place = in_item opening items more (range_sign k first);
  rest = rest;
  sound = (is, all, sound);
  parts = parts ∙ ap (λ t. opening_front opening ++ t) bytes_are ∙ in_item_parts opening items more (range_sign k first) rest;
  fails = square_fails opening items more (range_sign k first) rest f fails king blank;
}

list_fails : (text : List ℕ) (opening : Introduction) (bytes : List ℕ) (f : Fault) → IsIntroduction opening → text ≡ opening_front opening ++ bytes → ListFails bytes f → TextFails text f
list_fails text opening bytes f is parts e =
    item_text_fails text opening bytes f is parts e.begins e.fails.items e.fails.more e.fails.started e.fails.rest e.fails.sound e.fails.sound_start e.fails.parts e.fails.fails e.fails.no_king e.fails.no_blank

-- ---- behind a list

no_carry : (first : Numeral) (last : Option Numeral) (b : ℕ) (behind : List ℕ) → stops first last (b ∷ behind) ≡ true → carries_on first last b ≡ false
no_carry (one a) None b behind e = (let p = and_parts _ _ e in or_from _ _ (not-true _ p.0) (not-true _ p.1))
no_carry (two x y) None b behind e = not-true _ e
no_carry first (Some (one a)) b behind e = not-true _ e
no_carry first (Some (two x y)) b behind e = refl

-- the place behind a list: only what closes the list may stand there
record ListPlace (text : List ℕ) (opening : Introduction) (rest : List ℕ) : Type 0 where
  place : FenPlace
  sound : IsPlace place
  parts : text ≡ text_before place ++ rest
  ends : may_end place ≡ ends_second opening
  no_square : is_square_due place ≡ false
  others : (b : ℕ) (behind : List ℕ) → rest ≡ b ∷ behind → (b == closing opening) ≡ false → may_stand place b ≡ false

begins_no_item : (rest : List ℕ) (b : ℕ) (behind : List ℕ) → rest ≡ b ∷ behind → begins_item rest ≡ false → (is_ascii_digit b || b == 75) ≡ false
begins_no_item rest b behind e none = (let h : (b == 75 || is_ascii_digit b) ≡ false = sym (ap begins_item e) ∙ none in let p = or_parts (b == 75) (is_ascii_digit b) h in or_from (is_ascii_digit b) (b == 75) p.1 p.0)

list_place : (text : List ℕ) (opening : Introduction) (items : List Item) (rest : List ℕ) → IsIntroduction opening → text ≡ opening_front opening ++ (list_text items ++ rest) → ListEnds items rest → ListPlace text opening rest
list_place text opening items rest is parts (no_item e none) = record {
  place = at_list opening;
  sound = is;
  parts = parts ∙ ap (λ xs. opening_front opening ++ (list_text xs ++ rest)) e;
  ends = refl;
  no_square = refl;
  others = λ b behind stands wrong. or_from _ _ (begins_no_item rest b behind stands none) wrong;
}
list_place text opening items rest is parts (behind_last before item e all last stop none) = record {
  place = behind_item opening before item;
  sound = (is, all, last);
  parts = parts ∙ ap (λ xs. opening_front opening ++ (list_text xs ++ rest)) e ∙ sym (append_assoc (opening_front opening) (list_text (before ++ item ∷ [])) rest);
  ends = refl;
  no_square = refl;
  others = λ b behind stands wrong.
      let carry = no_carry item.first item.last b behind (sym (ap (stops item.first item.last) stands) ∙ stop) in
      let comma : (b == 44) ≡ false = sym (ap (begins 44) stands) ∙ none in
      or_from _ _ (or_from _ _ carry comma) wrong;
}

-- ---- the whole text

pub record FormFound (text : List ℕ) (mover : Side) (groups : List Group) : Type 0 where
  pub draft : Draft
  pub form : HasForm text draft
  pub mover_is : draft.to_move ≡ mover
  pub groups_are : groups_of draft ≡ groups

abbrev pub FormRead : List ℕ → Result (Side × List Group) Fault → Type 0
FormRead text (Ok x) = FormFound text x.0 x.1
FormRead text (Err f) = TextFails text f

second_parts : (mover colour : Side) (items : List Item) (rest : List ℕ) → opening_front (second_list mover colour items) ++ rest ≡ opening_text mover colour ++ (list_text items ++ (turn_text colour ++ rest))
second_parts mover colour items rest =
    append_assoc (opening_text mover colour) (list_text items ++ turn_text colour) rest ∙ ap (λ t. opening_text mover colour ++ t) (append_assoc (list_text items) (turn_text colour) rest)

module _ (text : List ℕ) (mover colour : Side) (first : List Item) (all_first : AreItems first) (bytes : List ℕ) (parts : text ≡ opening_front (second_list mover colour first) ++ bytes) where
  -- the second list was read too
  whole : (second : List Item) (stop : Bool) → AreItems second → bytes ≡ list_text second ++ stop_text stop → FormFound text mover (map (group_of colour) first ++ map (group_of (other colour)) second)
  whole second stop all bytes_are = record {
    draft = record { to_move = mover; colour = colour; first = first; second = second; stop = stop };
    form = record { first = all_first; second = all; spelled = parts ∙ ap (λ t. opening_front (second_list mover colour first) ++ t) bytes_are ∙ second_parts mover colour first (list_text second ++ stop_text stop) };
    mover_is = refl;
    groups_are = refl;
  }

  -- something stands behind the full stop
  after_stop : (second : List Item) (rest : List ℕ) → AreItems second → bytes ≡ list_text second ++ (46 ∷ rest)
      → FormRead text (end_at rest >>= λ over. Ok (mover, map (group_of colour) first ++ map (group_of (other colour)) second))
  after_stop second [] all bytes_are = whole second true all bytes_are
  after_stop second (b ∷ behind) all bytes_are = record {
    place = at_end mover colour first second;
    rest = b ∷ behind;
    sound = (all_first, all);
    parts = parts ∙ ap (λ t. opening_front (second_list mover colour first) ++ t) bytes_are
        ∙ sym (append_assoc (opening_front (second_list mover colour first)) (list_text second ++ 46 ∷ []) (b ∷ behind) ∙ ap (λ t. opening_front (second_list mover colour first) ++ t) (append_assoc (list_text second) (46 ∷ []) (b ∷ behind)));
    fails = (refl, refl, refl);
  }

  behind_second : (second : List Item) (rest : List ℕ) → AreItems second → bytes ≡ list_text second ++ rest → ListEnds second rest
      → FormRead text (end_at (without_stop rest) >>= λ over. Ok (mover, map (group_of colour) first ++ map (group_of (other colour)) second))
  behind_second second [] all bytes_are ends = whole second false all bytes_are
  behind_second second (b ∷ behind) all bytes_are ends =
      let groups : List Group = map (group_of colour) first ++ map (group_of (other colour)) second in
      elim (cases_Bool (b == 46)) [
        | inl e ↦ subst (λ t. FormRead text (end_at (cond t behind (b ∷ behind)) >>= λ over. Ok (mover, groups))) (sym e)
            (after_stop second behind all (bytes_are ∙ ap (λ k. list_text second ++ (k ∷ behind)) (eqb-true b 46 e)))
        | inr e ↦ subst (λ t. FormRead text (end_at (cond t behind (b ∷ behind)) >>= λ over. Ok (mover, groups))) (sym e)
            (let here = list_place text (second_list mover colour first) second (b ∷ behind) all_first (parts ∙ ap (λ t. opening_front (second_list mover colour first) ++ t) bytes_are) ends in
            record { place = here.place; rest = b ∷ behind; sound = here.sound; parts = here.parts; fails = (refl, here.no_square, here.others b behind refl e) })
      ]

  second_read : (r : Result (List Group × List ℕ) Fault) → ListRead (other colour) bytes r
      → FormRead text (r >>= λ back. end_at (without_stop back.1) >>= λ over. Ok (mover, map (group_of colour) first ++ back.0))
  second_read (Err f) e = list_fails text (second_list mover colour first) bytes f all_first parts e
  second_read (Ok x) found =
      subst (λ gs. FormRead text (end_at (without_stop x.1) >>= λ over. Ok (mover, map (group_of colour) first ++ gs))) (sym found.groups_are) (behind_second found.items x.1 found.sound found.parts found.ends)

module _ (text : List ℕ) (mover colour : Side) (first : List Item) (all_first : AreItems first) where
  -- what the second letter of colour leads to
  abbrev from_second : List ℕ → Result (Side × List Group) Fault
  from_second second = list_at (other colour) second >>= λ back. end_at (without_stop back.1) >>= λ over. Ok (mover, map (group_of colour) first ++ back.0)

  letter_read : (bytes : List ℕ) → text ≡ opening_text mover colour ++ (list_text first ++ (58 ∷ bytes)) → (r : Result (List ℕ) Fault) → ByteRead (letter_of (other colour)) bytes r → FormRead text (r >>= from_second)
  letter_read bytes parts (Ok rest) e =
      second_read text mover colour first all_first rest (parts ∙ ap (λ t. opening_text mover colour ++ (list_text first ++ (58 ∷ t))) e ∙ sym (second_parts mover colour first rest)) (list_at (other colour) rest) (list_read (other colour) rest)
  letter_read bytes parts (Err f) e =
      byte_fails text (at_other_colour mover colour first) bytes f (λ b. b == letter_of (other colour)) all_first
      (parts ∙ sym (append_assoc (opening_text mover colour) (list_text first ++ 58 ∷ []) bytes ∙ ap (λ t. opening_text mover colour ++ t) (append_assoc (list_text first) (58 ∷ []) bytes)))
      refl refl (λ b behind stands wrong. wrong) e

  colon_read : (bytes : List ℕ) → text ≡ opening_text mover colour ++ (list_text first ++ bytes) → ListEnds first bytes → (r : Result (List ℕ) Fault) → ByteRead 58 bytes r
      → FormRead text (r >>= λ turned. byte_at (letter_of (other colour)) turned >>= from_second)
  colon_read bytes parts ends (Ok rest) e =
      letter_read rest (parts ∙ ap (λ t. opening_text mover colour ++ (list_text first ++ t)) e) (byte_at (letter_of (other colour)) rest) (byte_read (letter_of (other colour)) rest)
  colon_read bytes parts ends (Err f) e =
      let here = list_place text (first_list mover colour) first bytes tt parts ends in
      byte_fails text here.place bytes f (λ b. b == 58) here.sound here.parts here.ends here.no_square here.others e

first_read : (text : List ℕ) (mover colour : Side) (bytes : List ℕ) → text ≡ opening_text mover colour ++ bytes → (r : Result (List Group × List ℕ) Fault) → ListRead colour bytes r
    → FormRead text (r >>= λ front. byte_at 58 front.1 >>= λ turned. byte_at (letter_of (other colour)) turned >>= λ second. list_at (other colour) second >>= λ back. end_at (without_stop back.1) >>= λ over. Ok (mover, front.0 ++ back.0))
first_read text mover colour bytes parts (Err f) e = list_fails text (first_list mover colour) bytes f tt parts e
first_read text mover colour bytes parts (Ok x) found =
    subst (λ gs. FormRead text (byte_at 58 x.1 >>= λ turned. byte_at (letter_of (other colour)) turned >>= λ second. list_at (other colour) second >>= λ back. end_at (without_stop back.1) >>= λ over. Ok (mover, gs ++ back.0))) (sym found.groups_are)
    (colon_read text mover colour found.items found.sound x.1 (parts ∙ ap (λ t. opening_text mover colour ++ t) found.parts) found.ends (byte_at 58 x.1) (byte_read 58 x.1))

module _ (text : List ℕ) (mover : Side) where
  -- what the first letter of colour leads to
  abbrev from_first : Side × List ℕ → Result (Side × List Group) Fault
  from_first colour = list_at colour.0 colour.1 >>= λ front. byte_at 58 front.1 >>= λ turned. byte_at (letter_of (other colour.0)) turned >>= λ second. list_at (other colour.0) second >>= λ back. end_at (without_stop back.1) >>= λ over. Ok (mover, front.0 ++ back.0)

  colour_read : (bytes : List ℕ) → text ≡ letter_of mover ∷ 58 ∷ bytes → (r : Result (Side × List ℕ) Fault) → SideRead bytes r → FormRead text (r >>= from_first)
  colour_read bytes parts (Ok x) e = first_read text mover x.0 x.1 (parts ∙ ap (λ t. letter_of mover ∷ 58 ∷ t) e) (list_at x.0 x.1) (list_read x.0 x.1)
  colour_read bytes parts (Err f) e = byte_fails text (at_colour mover) bytes f (λ b. b == 66 || b == 87) tt parts refl refl (λ b behind stands wrong. wrong) e

  opened_read : (bytes : List ℕ) → text ≡ letter_of mover ∷ bytes → (r : Result (List ℕ) Fault) → ByteRead 58 bytes r → FormRead text (r >>= λ opened. side_at opened >>= from_first)
  opened_read bytes parts (Ok rest) e = colour_read rest (parts ∙ ap (λ t. letter_of mover ∷ t) e) (side_at rest) (side_read rest)
  opened_read bytes parts (Err f) e = byte_fails text (at_colon mover) bytes f (λ b. b == 58) tt parts refl refl (λ b behind stands wrong. wrong) e

mover_read : (text : List ℕ) (r : Result (Side × List ℕ) Fault) → SideRead text r
    → FormRead text (r >>= λ mover. byte_at 58 mover.1 >>= λ opened. side_at opened >>= λ colour. list_at colour.0 colour.1 >>= λ front. byte_at 58 front.1 >>= λ turned. byte_at (letter_of (other colour.0)) turned >>= λ second. list_at (other colour.0) second >>= λ back. end_at (without_stop back.1) >>= λ over. Ok (mover.0, front.0 ++ back.0))
mover_read text (Ok x) e = opened_read text x.0 x.1 e (byte_at 58 x.1) (byte_read 58 x.1)
mover_read text (Err f) e = byte_fails text at_side text f (λ b. b == 66 || b == 87) tt refl refl refl (λ b behind stands wrong. wrong) e

pub form_read : (text : List ℕ) → FormRead text (form_at text)
unfolding form_at
form_read text = mover_read text (side_at text) (side_read text)
