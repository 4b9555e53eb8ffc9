-- What is read keeps to the grammar, and where reading fails the text cannot go on: lists.
use Rattle.std.proofs.Common.{◌≡◌, ℕ, zero, suc, ◌<◌, ◌≤◌, Bool, true, false, cond, ◌||◌, ◌==◌, List, [], ◌∷◌, ◌++◌, length, map, Option, Some, None, Result, Ok, Err, refl, sym, ◌∙◌, ap, subst, arith, append_assoc, append-nil, inl, inr}
use Rattle.std.specs.Prelude.{IfSome, IfOk}
use Rattle.std.specs.Option.{option_map_or}
use Rattle.std.proofs.lemmas.Bool.{cases_Bool, eqb-true}
use Rattle.draughts_board.specs.declared.pieces.Side.{Side}
use Rattle.fen_text.specs.declared.fault.Fault.{Fault}
use Rattle.fen_text.specs.Grammar.{Item, item_text, IsItem, comma, list_text, AreItems}
use Rattle.std.specs.Char.{is_ascii_digit}
use Rattle.fen_text.specs.Spelled.{Group, group_of}
use Rattle.fen_text.specs.Faults.{lead_text, Started, nothing, started_text, least_started}
use Rattle.fen_text.specs.Reading.{◌>>=◌, item_at, after_comma, items_within, items_at, begins_item, list_at}
use Rattle.fen_text.proofs.Items.{item-shorter, then_items, after_comma-shorter}
use Rattle.fen_text.proofs.Parts.{begins, digit_below, stops, comma_read, no_comma_read, list_text-cons}
use Rattle.fen_text.proofs.Again.{item_text-parts}
use Rattle.fen_text.proofs.Read.{SquareFails, too_short, IsStarted, ItemFails, ItemFound, ItemRead, item_read}

-- the last of these items does not go on with what follows
abbrev pub last_stops : Item → List Item → List ℕ → Bool
last_stops i [] rest = stops i.first i.last rest
last_stops i (j ∷ items) rest = last_stops j items rest

-- the first of these items, if there is one, has this number of blanks before it
abbrev pub HasBlanks : ℕ → List Item → Type 0
HasBlanks blanks [] = Unit {0}
HasBlanks blanks (i ∷ items) = i.blanks ≡ blanks

pub record ItemsFound (side : Side) (blanks : ℕ) (bytes : List ℕ) (groups : List Group) (rest : List ℕ) : Type 0 where
  pub item : Item
  pub items : List Item
  pub blanks_are : item.blanks ≡ blanks
  pub sound : AreItems (item ∷ items)
  pub groups_are : groups ≡ map (group_of side) (item ∷ items)
  pub parts : bytes ≡ list_text (item ∷ items) ++ rest
  pub stop : last_stops item items rest ≡ true
  pub no_comma : begins 44 rest ≡ false

pub record ItemsFail (blanks : ℕ) (bytes : List ℕ) (f : Fault) : Type 0 where
  pub items : List Item
  pub more : ℕ
  pub started : Started
  pub rest : List ℕ
  pub blanks_are : HasBlanks blanks items
  pub sound : AreItems items
  pub sound_start : IsStarted started
  pub parts : bytes ≡ lead_text items more ++ (started_text started ++ rest)
  pub fails : SquareFails (least_started started) rest f
  pub no_king : started ≡ nothing → begins 75 rest ≡ false
  pub no_blank : started ≡ nothing → begins 32 rest ≡ false

abbrev pub ItemsRead : Side → ℕ → List ℕ → Result (List Group × List ℕ) Fault → Type 0
ItemsRead side blanks bytes (Ok x) = ItemsFound side blanks bytes x.0 x.1
ItemsRead side blanks bytes (Err f) = ItemsFail blanks bytes f

item_of : ℕ → {side : Side} {bytes : List ℕ} {g : Group} {rest : List ℕ} → ItemFound side bytes g rest → Item
item_of blanks found = record { blanks = blanks; king = found.king; first = found.first; last = found.last }

module _ (side : Side) (blanks : ℕ) (bytes : List ℕ) (g : Group) (behind : List ℕ) (found : ItemFound side bytes g behind) where
  item_parts : bytes ≡ item_text (item_of blanks found) ++ behind
  unfolding item_of
  item_parts = found.parts ∙ sym (item_text-parts (item_of blanks found) behind)

  alone : after_comma behind ≡ None → ItemsFound side blanks bytes (g ∷ []) behind
  unfolding item_of
  alone none = record {
    item = item_of blanks found;
    items = [];
    blanks_are = refl;
    sound = ((found.square, found.range), tt);
    groups_are = ap (λ x. x ∷ []) found.group_is;
    parts = item_parts ∙ ap (λ t. t ++ behind) (sym (append-nil (item_text (item_of blanks found))));
    stop = found.stop;
    no_comma = no_comma_read behind none;
  }

  -- a comma with k blanks stands behind the item, and then `next`
  module _ (k : ℕ) (next : List ℕ) (comma_is : behind ≡ comma k ++ next) where
    more_found : (groups : List Group) (rest : List ℕ) → ItemsFound side k next groups rest → ItemsFound side blanks bytes (g ∷ groups) rest
    unfolding item_of
    more_found groups rest others = record {
      item = item_of blanks found;
      items = others.item ∷ others.items;
      blanks_are = refl;
      sound = ((found.square, found.range), others.sound);
      groups_are = ap (λ x. x ∷ groups) found.group_is ∙ ap (λ xs. group_of side (item_of blanks found) ∷ xs) others.groups_are;
      parts = item_parts ∙ ap (λ t. item_text (item_of blanks found) ++ t) (comma_is ∙ ap (λ n. comma n ++ next) (sym others.blanks_are) ∙ ap (λ t. comma others.item.blanks ++ t) others.parts)
          ∙ sym (list_text-cons (item_of blanks found) others.item others.items rest);
      stop = others.stop;
      no_comma = others.no_comma;
    }

    lead-parts : (items : List Item) (more : ℕ) (tail : List ℕ) → HasBlanks k items → next ≡ lead_text items more ++ tail
        → (b : ℕ) × (bytes ≡ lead_text (item_of blanks found ∷ items) b ++ tail)
    unfolding item_of
    lead-parts [] more tail has parts = (
      k,
      item_parts ∙ ap (λ t. item_text (item_of blanks found) ++ t) (comma_is ∙ ap (λ t. comma k ++ t) parts)
          ∙ sym (append_assoc (item_text (item_of blanks found)) (comma k) tail) ∙ ap (λ t. (t ++ comma k) ++ tail) (sym (append-nil (item_text (item_of blanks found)))),
    )
    lead-parts (j ∷ items) more tail has parts = (
      more,
      item_parts ∙ ap (λ t. item_text (item_of blanks found) ++ t) (comma_is ∙ ap (λ n. comma n ++ next) (sym has) ∙ ap (λ t. comma j.blanks ++ t) (parts ∙ append_assoc (list_text (j ∷ items)) (comma more) tail))
          ∙ sym (append_assoc (list_text (item_of blanks found ∷ j ∷ items)) (comma more) tail ∙ list_text-cons (item_of blanks found) j items (comma more ++ tail)),
    )

    more_fail : (f : Fault) → ItemsFail k next f → ItemsFail blanks bytes f
    unfolding item_of
    more_fail f others =
        let p = lead-parts others.items others.more (started_text others.started ++ others.rest) others.blanks_are others.parts in
        record {
          items = item_of blanks found ∷ others.items;
          more = p.0;
          started = others.started;
          rest = others.rest;
          blanks_are = refl;
          sound = ((found.square, found.range), others.sound);
          sound_start = others.sound_start;
          parts = p.1;
          fails = others.fails;
          no_king = others.no_king;
          no_blank = others.no_blank;
        }

    more_read : (r : Result (List Group × List ℕ) Fault) → ItemsRead side k next r → ItemsRead side blanks bytes (r >>= λ more. Ok (g ∷ more.0, more.1))
    more_read (Ok x) others = more_found x.0 x.1 others
    more_read (Err f) others = more_fail f others

first_fails : (blanks : ℕ) (bytes : List ℕ) (f : Fault) → begins 32 bytes ≡ false → ItemFails bytes f → ItemsFail blanks bytes f
first_fails blanks bytes f begin fails = record {
  items = [];
  more = 0;
  started = fails.started;
  rest = fails.rest;
  blanks_are = tt;
  sound = tt;
  sound_start = fails.sound;
  parts = fails.parts;
  fails = fails.fails;
  no_king = fails.no_king;
  no_blank = λ e. subst (λ t. begins 32 t ≡ false) (fails.parts ∙ ap (λ s. started_text s ++ fails.rest) e) begin;
}

item_then : (side : Side) (blanks : ℕ) (bytes : List ℕ) (read : List ℕ → Result (List Group × List ℕ) Fault) (o : Option (List ℕ)) (g : Group) (behind : List ℕ) → ItemFound side bytes g behind → after_comma behind ≡ o
    → ((next : List ℕ) (k : ℕ) → o ≡ Some next → begins 32 next ≡ false → ItemsRead side k next (read next))
    → ItemsRead side blanks bytes (option_map_or (λ next. read next >>= λ more. Ok (g ∷ more.0, more.1)) o (Ok (g ∷ [], behind)))
item_then side blanks bytes read None g behind found is others = alone side blanks bytes g behind found is
item_then side blanks bytes read (Some next) g behind found is others =
    let comma_is = comma_read behind next is in
    more_read side blanks bytes g behind found comma_is.0 next comma_is.1 (read next) (others next comma_is.0 refl comma_is.2)

items_then : (side : Side) (blanks : ℕ) (bytes : List ℕ) (read : List ℕ → Result (List Group × List ℕ) Fault) (r : Result (Group × List ℕ) Fault) → begins 32 bytes ≡ false → ItemRead side bytes r
    → IfOk r (λ x. length x.1 < length bytes) → ((next : List ℕ) (k : ℕ) → length next < length bytes → begins 32 next ≡ false → ItemsRead side k next (read next))
    → ItemsRead side blanks bytes (r >>= then_items read)
items_then side blanks bytes read (Err f) begin fails short others = first_fails blanks bytes f begin fails
items_then side blanks bytes read (Ok x) begin found short others =
    item_then side blanks bytes read (after_comma x.1) x.0 x.1 found refl
    (λ next k is. others next k (let s : length next < length x.1 = subst (λ o. IfSome o (λ y. length y < length x.1)) is (after_comma-shorter x.1) in omega (arith, short)))

items_read-within : (n : ℕ) (side : Side) (blanks : ℕ) (bytes : List ℕ) → length bytes ≤ n → begins 32 bytes ≡ false → ItemsRead side blanks bytes (items_within n side bytes)
unfolding items_within
items_read-within zero side blanks [] le begin = record { items = []; more = 0; started = nothing; rest = []; blanks_are = tt; sound = tt; sound_start = tt; parts = refl; fails = too_short refl; no_king = λ e. refl; no_blank = λ e. refl }
items_read-within zero side blanks (b ∷ behind) le begin = absurd (omega arith)
items_read-within (suc n) side blanks bytes le begin =
    items_then side blanks bytes (items_within n side) (item_at side bytes) begin (item_read side bytes) (item-shorter side bytes)
    (λ next k lt none. items_read-within n side k next (omega arith) none)

pub items_read : (side : Side) (bytes : List ℕ) → begins 32 bytes ≡ false → ItemsRead side 0 bytes (items_at side bytes)
items_read side bytes begin = items_read-within (length bytes) side 0 bytes (omega arith) begin

-- ---- a whole list

-- what is behind a list: no item, or what neither carries on the last item nor begins another
pub data ListEnds (items : List Item) (rest : List ℕ) : Type 0 where
  no_item : items ≡ [] → begins_item rest ≡ false → ListEnds items rest
  behind_last : (before : List Item) (item : Item) → items ≡ before ++ item ∷ [] → AreItems before → IsItem item → stops item.first item.last rest ≡ true → begins 44 rest ≡ false → ListEnds items rest

pub record ListFound (side : Side) (bytes : List ℕ) (groups : List Group) (rest : List ℕ) : Type 0 where
  pub items : List Item
  pub sound : AreItems items
  pub groups_are : groups ≡ map (group_of side) items
  pub parts : bytes ≡ list_text items ++ rest
  pub ends : ListEnds items rest

pub record ListFails (bytes : List ℕ) (f : Fault) : Type 0 where
  pub begins : begins_item bytes ≡ true
  pub fails : ItemsFail 0 bytes f

abbrev pub ListRead : Side → List ℕ → Result (List Group × List ℕ) Fault → Type 0
ListRead side bytes (Ok x) = ListFound side bytes x.0 x.1
ListRead side bytes (Err f) = ListFails bytes f

one_before : (i j : Item) (items : List Item) (rest : List ℕ) → IsItem i → ListEnds (j ∷ items) rest → ListEnds (i ∷ j ∷ items) rest
one_before i j items rest is (no_item e none) = absurd cc
one_before i j items rest is (behind_last before item e all last stop none) = behind_last (i ∷ before) item (ap (λ t. i ∷ t) e) (is, all) last stop none

-- the last item, with what is known of it
list_ends : (i : Item) (items : List Item) (rest : List ℕ) → AreItems (i ∷ items) → last_stops i items rest ≡ true → begins 44 rest ≡ false → ListEnds (i ∷ items) rest
list_ends i [] rest all stop none = behind_last [] i refl tt all.0 stop none
list_ends i (j ∷ items) rest all stop none = one_before i j items rest all.0 (list_ends j items rest all.1 stop none)

no_blank_before : (bytes : List ℕ) → begins_item bytes ≡ true → begins 32 bytes ≡ false
no_blank_before [] e = refl
no_blank_before (b ∷ behind) e =
    elim (cases_Bool (b == 75)) [
      | inl king ↦ subst (λ k. (k == 32) ≡ false) (sym (eqb-true b 75 king)) refl
      | inr other ↦ (let digit : is_ascii_digit b ≡ true = sym (ap (λ t. t || is_ascii_digit b) other) ∙ e in digit_below b 32 digit (omega arith))
    ]

items_are_list : (side : Side) (bytes : List ℕ) (r : Result (List Group × List ℕ) Fault) → begins_item bytes ≡ true → ItemsRead side 0 bytes r → ListRead side bytes r
items_are_list side bytes (Ok x) begin found = record {
  items = found.item ∷ found.items;
  sound = found.sound;
  groups_are = found.groups_are;
  parts = found.parts;
  ends = list_ends found.item found.items x.1 found.sound found.stop found.no_comma;
}
items_are_list side bytes (Err f) begin fails = record { begins = begin; fails = fails }

pub list_read : (side : Side) (bytes : List ℕ) → ListRead side bytes (list_at side bytes)
unfolding list_at
list_read side bytes =
    elim (cases_Bool (begins_item bytes)) [
      | inl e ↦ subst (λ b. ListRead side bytes (cond b (items_at side bytes) (Ok ([], bytes)))) (sym e) (items_are_list side bytes (items_at side bytes) e (items_read side bytes (no_blank_before bytes e)))
      | inr e ↦ subst (λ b. ListRead side bytes (cond b (items_at side bytes) (Ok ([], bytes)))) (sym e) (record { items = []; sound = tt; groups_are = refl; parts = refl; ends = no_item refl e })
    ]
