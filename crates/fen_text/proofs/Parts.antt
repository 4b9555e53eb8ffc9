-- Small facts on the parts of a text: where a number, an item and the blanks behind a comma end.
use Rattle.std.proofs.Common.{◌≡◌, ℕ, zero, suc, ◌<◌, ◌≤◌, Bool, true, false, not, ◌&&◌, ◌||◌, ◌==◌, cond, leb, List, [], ◌∷◌, ◌++◌, Option, Some, None, refl, sym, ◌∙◌, ap, subst, arith, append_assoc, append-nil, inl, inr}
use Rattle.std.specs.Prelude.{replicate}
use Rattle.std.specs.List.{flat_map}
use Rattle.std.proofs.lemmas.Bool.{cases_Bool, leb-true, ne_eqb, eqb-true, and_parts, false≢true}
use Rattle.std.proofs.lemmas.List.Concat.{flat_map-append}
use Rattle.fen_text.specs.Grammar.{Numeral, one, two, numeral_text, are_digits, Item, mark, range_text, item_text, IsItem, comma, further_text, list_text, AreItems}
use Rattle.std.specs.Char.{is_ascii_digit}
use Rattle.fen_text.specs.Faults.{ends_before, lead_text}
use Rattle.fen_text.specs.Reading.{without_blanks, after_comma, begins_item}

-- ---- bytes

-- the byte stands in front
abbrev pub begins : ℕ → List ℕ → Bool
begins due [] = false
begins due (b ∷ behind) = b == due

-- a digit is no other sign
pub digit_below : (a k : ℕ) → is_ascii_digit a ≡ true → k < 48 → (a == k) ≡ false
digit_below a k d lt = ne_eqb a k (λ e. (let p : 48 ≤ a = leb-true 48 a (and_parts (leb 48 a) (leb a 57) d).0 in omega (arith, p, e)))

pub digit_above : (a k : ℕ) → is_ascii_digit a ≡ true → 57 < k → (a == k) ≡ false
digit_above a k d lt = ne_eqb a k (λ e. (let p : a ≤ 57 = leb-true a 57 (and_parts (leb 48 a) (leb a 57) d).1 in omega (arith, p, e)))

pub not_both : (b : Bool) → b ≡ true → b ≡ false → ⊥
not_both b t f = false≢true (sym f ∙ t)

-- ---- where an item ends

-- the item does not go on with what follows: its last number is whole, and no `-` stands behind a lone square
abbrev pub stops : Numeral → Option Numeral → List ℕ → Bool
stops first None rest = ends_before first rest && not (begins 45 rest)
stops first (Some last) rest = ends_before last rest

-- behind any item a comma ends it, and so do `:` and the full stop
pub stops_at_comma : (first : Numeral) (last : Option Numeral) (rest : List ℕ) → stops first last (44 ∷ rest) ≡ true
stops_at_comma (one a) None rest = refl
stops_at_comma (two a b) None rest = refl
stops_at_comma first (Some (one a)) rest = refl
stops_at_comma first (Some (two a b)) rest = refl

-- what may stand behind a whole list: nothing, `:` or the full stop
abbrev pub closes : List ℕ → Bool
closes [] = true
closes (b ∷ behind) = b == 58 || b == 46

stops_at_colon : (first : Numeral) (last : Option Numeral) (rest : List ℕ) → stops first last (58 ∷ rest) ≡ true
stops_at_colon (one a) None rest = refl
stops_at_colon (two a b) None rest = refl
stops_at_colon first (Some (one a)) rest = refl
stops_at_colon first (Some (two a b)) rest = refl

stops_at_stop : (first : Numeral) (last : Option Numeral) (rest : List ℕ) → stops first last (46 ∷ rest) ≡ true
stops_at_stop (one a) None rest = refl
stops_at_stop (two a b) None rest = refl
stops_at_stop first (Some (one a)) rest = refl
stops_at_stop first (Some (two a b)) rest = refl

pub stops_at_end : (first : Numeral) (last : Option Numeral) → stops first last [] ≡ true
stops_at_end (one a) None = refl
stops_at_end (two a b) None = refl
stops_at_end first (Some (one a)) = refl
stops_at_end first (Some (two a b)) = refl

-- a byte that closes a list is `:` or the full stop
pub closing_byte : (b : ℕ) (P : ℕ → Type 0) → (b == 58 || b == 46) ≡ true → P 58 → P 46 → P b
closing_byte b P e p58 p46 =
    elim (cases_Bool (b == 58)) [
      | inl x ↦ subst P (sym (eqb-true b 58 x)) p58
      | inr x ↦ subst P (sym (eqb-true b 46 (sym (ap (λ t. t || (b == 46)) x) ∙ e))) p46
    ]

pub stops_where_closed : (first : Numeral) (last : Option Numeral) (rest : List ℕ) → closes rest ≡ true → stops first last rest ≡ true
stops_where_closed first last [] e = stops_at_end first last
stops_where_closed first last (b ∷ rest) e = closing_byte b (λ k. stops first last (k ∷ rest) ≡ true) e (stops_at_colon first last rest) (stops_at_stop first last rest)

pub no_comma_where_closed : (rest : List ℕ) → closes rest ≡ true → begins 44 rest ≡ false
no_comma_where_closed [] e = refl
no_comma_where_closed (b ∷ rest) e = closing_byte b (λ k. (k == 44) ≡ false) e refl refl

pub no_item_where_closed : (rest : List ℕ) → closes rest ≡ true → begins_item rest ≡ false
no_item_where_closed [] e = refl
no_item_where_closed (b ∷ rest) e = closing_byte b (λ k. (k == 75 || is_ascii_digit k) ≡ false) e refl refl

-- a square goes before the `-` of its range
pub ends_at_range : (first : Numeral) (rest : List ℕ) → ends_before first (45 ∷ rest) ≡ true
ends_at_range (one a) rest = refl
ends_at_range (two a b) rest = refl

-- ---- commas and blanks

pub blanks_again : (n : ℕ) (rest : List ℕ) → begins 32 rest ≡ false → without_blanks (replicate n 32 ++ rest) ≡ rest
blanks_again zero [] e = refl
blanks_again zero (b ∷ rest) e = rw e refl
blanks_again (suc n) rest e = blanks_again n rest e

pub comma_again : (n : ℕ) (rest : List ℕ) → begins 32 rest ≡ false → after_comma (comma n ++ rest) ≡ Some rest
comma_again n rest e = ap (λ (x : List ℕ). Some x) (blanks_again n rest e)

pub no_comma : (rest : List ℕ) → begins 44 rest ≡ false → after_comma rest ≡ None
no_comma [] e = refl
no_comma (b ∷ rest) e = rw e refl

-- n blanks stand in front, and none follows
pub blanks_read : (bytes : List ℕ) → (n : ℕ) × (bytes ≡ replicate n 32 ++ without_blanks bytes) × (begins 32 (without_blanks bytes) ≡ false)
blanks_read [] = (0, refl, refl)
blanks_read (b ∷ behind) =
    elim (cases_Bool (b == 32)) [
      | inl e ↦ (
          let more = blanks_read behind in
          let same : b ∷ behind ≡ 32 ∷ (replicate more.0 32 ++ without_blanks behind) = ap (λ k. k ∷ behind) (eqb-true b 32 e) ∙ ap (λ t. 32 ∷ t) more.1 in
          (suc more.0, rw e same, rw e more.2))
      | inr e ↦ (0, rw e refl, rw e e)
    ]

-- what a comma was followed by
pub comma_read : (bytes next : List ℕ) → after_comma bytes ≡ Some next → (n : ℕ) × (bytes ≡ comma n ++ next) × (begins 32 next ≡ false)
comma_read [] next e = absurd cc
comma_read (b ∷ behind) next e =
    elim (cases_Bool (b == 44)) [
      | inl x ↦ (
          let is_next : without_blanks behind ≡ next = some_is (without_blanks behind) next (sym (ap (λ (t : Bool). cond t (Some (without_blanks behind)) None) x) ∙ e) in
          let found = blanks_read behind in
          (found.0, ap (λ k. k ∷ behind) (eqb-true b 44 x) ∙ ap (λ t. 44 ∷ t) (found.1 ∙ ap (λ t. replicate found.0 32 ++ t) is_next), subst (λ t. begins 32 t ≡ false) is_next found.2))
      | inr x ↦ absurd (none_is_not_some next (sym (ap (λ (t : Bool). cond t (Some (without_blanks behind)) None) x) ∙ e))
    ]
  where
    some_is : (x y : List ℕ) → Some x ≡ Some y → x ≡ y
    some_is x y h = cc

    none_is_not_some : (x : List ℕ) → None ≡ Some x → ⊥
    none_is_not_some x h = cc

pub no_comma_read : (bytes : List ℕ) → after_comma bytes ≡ None → begins 44 bytes ≡ false
no_comma_read [] e = refl
no_comma_read (b ∷ behind) e =
    elim (cases_Bool (b == 44)) [
      | inl x ↦ absurd (some_is_not_none (without_blanks behind) (sym (ap (λ (t : Bool). cond t (Some (without_blanks behind)) None) x) ∙ e))
      | inr x ↦ x
    ]
  where
    some_is_not_none : (x : List ℕ) → Some x ≡ None → ⊥
    some_is_not_none x h = cc

-- ---- lists

-- an item begins with its `K` or a digit
pub item_begins : (i : Item) (rest : List ℕ) → are_digits i.first ≡ true → (begins_item (item_text i ++ rest) ≡ true) × (begins 32 (item_text i ++ rest) ≡ false)
item_begins i rest d = at_mark i.king i.first d
  where
    at_mark : (king : Bool) (first : Numeral) → are_digits first ≡ true → (begins_item ((mark king ++ (numeral_text first ++ range_text i.last)) ++ rest) ≡ true) × (begins 32 ((mark king ++ (numeral_text first ++ range_text i.last)) ++ rest) ≡ false)
    at_mark true first d = (refl, refl)
    at_mark false (one a) d = (rw (d, digit_above a 75 d (omega arith)) refl, digit_below a 32 d (omega arith))
    at_mark false (two a b) d = (let da = (and_parts _ _ d).0 in (rw (da, digit_above a 75 da (omega arith)) refl, digit_below a 32 da (omega arith)))

-- a list whose last item is told apart
pub list_text-last : (items : List Item) (item : Item) → list_text (items ++ item ∷ []) ≡ lead_text items item.blanks ++ item_text item
list_text-last [] item = append-nil (item_text item)
list_text-last (i ∷ items) item =
    let e : flat_map further_text (items ++ item ∷ []) ≡ flat_map further_text items ++ further_text item = flat_map-append further_text items (item ∷ []) ∙ ap (λ t. flat_map further_text items ++ t) (append-nil (further_text item)) in
    ap (λ t. item_text i ++ t) e ∙ sym (append_assoc (item_text i) (flat_map further_text items) (further_text item)) ∙ sym (append_assoc (list_text (i ∷ items)) (comma item.blanks) (item_text item))

-- two items in a row
pub list_text-cons : (i j : Item) (items : List Item) (rest : List ℕ) → list_text (i ∷ j ∷ items) ++ rest ≡ item_text i ++ (comma j.blanks ++ (list_text (j ∷ items) ++ rest))
list_text-cons i j items rest =
    append_assoc (item_text i) (further_text j ++ flat_map further_text items) rest
    ∙ ap (λ t. item_text i ++ t) (ap (λ t. t ++ rest) (append_assoc (comma j.blanks) (item_text j) (flat_map further_text items)) ∙ append_assoc (comma j.blanks) (list_text (j ∷ items)) rest)

-- every list with an item has a last item
pub last_item : (i : Item) (items : List Item) → AreItems (i ∷ items) → (front : List Item) × (last : Item) × (i ∷ items ≡ front ++ last ∷ []) × AreItems front × IsItem last
last_item i [] all = ([], i, refl, tt, all.0)
last_item i (j ∷ items) all =
    let rest = last_item j items all.1 in
    (i ∷ rest.0, rest.1, ap (λ t. i ∷ t) rest.2, (all.0, rest.3), rest.4)
