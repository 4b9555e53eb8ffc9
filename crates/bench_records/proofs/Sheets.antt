-- What a format spells on a sheet, and with positions in full and by their numbers.
use Rattle.std.proofs.Common.{◌≡◌, ℕ, ◌<◌, ◌≤◌, ◌^◌, true, false, List, [], ◌∷◌, ◌++◌, length, refl, sym, ◌∙◌, ap, subst, append-nil, arith, Option, Some, None, cond, inl, inr, ◌⊎◌}
use Rattle.std.specs.Prelude.{Contains, slice_get}
use Rattle.std.specs.List.{list_any, position_or_len}
use Rattle.std.proofs.lemmas.Bool.{cases_lt}
use Rattle.std.proofs.lemmas.List.{length-append}
use Rattle.std.proofs.lemmas.List.Elements.{All-contains, Contains-append_left, Contains-append_right, Contains-append_cases}
use Rattle.std.proofs.lemmas.Option.{slice_get_past, slice_get_within, slice_get-get_or, get_or_from_slice_get}
use Rattle.draughts_board.specs.Board.{Board, IsLawful, same_board, start_board}
use Rattle.draughts_board.proofs.Members.{bool_cases}
use Rattle.bench_records.specs.Positions.{short_text, long_text, position_text}
use Rattle.bench_records.specs.Formats.{Field, byte, short, long, position, place, FieldValue, IsAllowed, field_text, Format, done, field, SpellsValue}
use Rattle.bench_records.specs.Names.{Sheet, mark, name, marks, full_text, name_text, short_sheet, named_by, with_name, IsNamed, at_number, number_order, noting}
use Rattle.bench_records.proofs.Formats.{spells_then, spells_cut}
use Rattle.bench_records.proofs.Numbering.{any_absent, absent_any, number_there, number_new, number_of_there, with_name-new, with_name-there, names_grow, named_push}

-- ---- on a sheet

abbrev pub field_sheet : (f : Field) → FieldValue f → Sheet
field_sheet (byte test) n = mark n ∷ []
field_sheet short n = marks (short_text n)
field_sheet (long most) n = marks (long_text n)
field_sheet (position others) p = name p ∷ []
field_sheet (place named others) n = marks (short_text n)

-- the sheet is spelled by the format, and says this
abbrev pub SpellsSheet : {A : Type 0} → Format A → Sheet → A → Type 0
SpellsSheet (done a) sheet b = (sheet ≡ []) × (a ≡ b)
SpellsSheet (field f next) sheet b = (v : FieldValue f) × ((rest : Sheet) × ((IsAllowed f v × (sheet ≡ field_sheet f v ++ rest)) × SpellsSheet (next v) rest b))

-- ---- in full

pub full_marks : (bytes : List ℕ) (rest : Sheet) → full_text (marks bytes ++ rest) ≡ bytes ++ full_text rest
full_marks [] rest = refl
full_marks (n ∷ bytes) rest = ap (λ t. n ∷ t) (full_marks bytes rest)

full_field : (f : Field) (v : FieldValue f) (rest : Sheet) → full_text (field_sheet f v ++ rest) ≡ field_text f v ++ full_text rest
full_field (byte test) n rest = refl
full_field short n rest = full_marks (short_text n) rest
full_field (long most) n rest = full_marks (long_text n) rest
full_field (position others) p rest = refl
full_field (place named others) n rest = full_marks (short_text n) rest

pub full_spells : {A : Type 0} (f : Format A) (sheet : Sheet) (a : A) → SpellsSheet f sheet a → SpellsValue f (full_text sheet) a
full_spells (done c) sheet a (e, same) = (ap full_text e, same)
full_spells (field f next) sheet a (v, (rest, ((allowed, is), spells))) =
    (v, (full_text rest, (record { allowed = allowed; spelled = ap full_text is ∙ full_field f v rest }, full_spells (next v) rest a spells)))

-- the sheet of which the bytes are the text in full
pub record InFull {A : Type 0} (f : Format A) (bytes : List ℕ) (a : A) : Type 0 where
  pub sheet : Sheet
  pub spells : SpellsSheet f sheet a
  pub is : bytes ≡ full_text sheet

pub full_is : {A : Type 0} (f : Format A) (bytes : List ℕ) (a : A) → SpellsValue f bytes a → InFull f bytes a
full_is (done c) bytes a (e, same) = record { sheet = []; spells = (refl, same); is = e }
full_is (field f next) bytes a (v, (rest, (begins, spells))) =
    let more = full_is (next v) rest a spells in
    record {
      sheet = field_sheet f v ++ more.sheet;
      spells = (v, (more.sheet, ((begins.allowed, refl), more.spells)));
      is = begins.spelled ∙ ap (λ t. field_text f v ++ t) more.is ∙ sym (full_field f v more.sheet);
    }

-- ---- by numbers

pub short_marks : (named : List Board) (bytes : List ℕ) (rest : Sheet) → short_sheet named (marks bytes ++ rest) ≡ bytes ++ short_sheet named rest
short_marks named [] rest = refl
short_marks named (n ∷ bytes) rest = ap (λ t. n ∷ t) (short_marks named bytes rest)

pub named_marks : (named : List Board) (bytes : List ℕ) (rest : Sheet) → named_by named (marks bytes ++ rest) ≡ named_by named rest
named_marks named [] rest = refl
named_marks named (n ∷ bytes) rest = named_marks named bytes rest

-- a position by its number
number_spells : (named others : List Board) (p : Board) → IsLawful p → ¬ Contains others p → length (with_name named p) < 2 ^ 32 → SpellsValue (number_order named others) (name_text named p) (p, with_name named p)
number_spells named others p lawful new few = by (bool_cases (list_any (same_board p) named))
  where
    by : (list_any (same_board p) named ≡ true) ⊎ (list_any (same_board p) named ≡ false) → SpellsValue (number_order named others) (name_text named p) (p, with_name named p)
    by (inl some) =
        let n = position_or_len (same_board p) named in
        let at : slice_get named n ≡ Some p = number_there named p some in
        let within : n < length named = slice_get_within named n p at in
        let list = with_name-there named p some in
        let size = ap length list in (
          n,
          (
            [],
            (
              record {
                allowed = (omega arith, (omega arith, λ q here. let same : q ≡ p = cc in subst (λ r. ¬ Contains others r) (sym same) new));
                spelled = ap (λ b. short_text n ++ cond b [] (position_text p)) some;
              },
              subst (λ o. SpellsValue (at_number named others o) [] (p, with_name named p)) (sym at) (refl, λ i. (p, sym list i)),
            ),
          ),
        )
    by (inr none) =
        let n = position_or_len (same_board p) named in
        let last : n ≡ length named = number_new named p none in
        let past : slice_get named n ≡ None = slice_get_past named n (omega arith) in
        let list = with_name-new named p none in
        let size = ap length list ∙ length-append named (p ∷ []) in
        let apart : ¬ Contains (named ++ others) p = λ there. elim (Contains-append_cases named others p there) [ inl here ↦ any_absent named p none here | inr here ↦ new here ] in (
          n,
          (
            position_text p,
            (
              record {
                allowed = (omega arith, (omega arith, λ q here. absurd (cc)));
                spelled = ap (λ b. short_text n ++ cond b [] (position_text p)) none;
              },
              subst (λ o. SpellsValue (at_number named others o) (position_text p) (p, with_name named p)) (sym past)
                  (p, ([], (record { allowed = (lawful, apart); spelled = sym (append-nil (position_text p)) }, (refl, λ i. (p, sym list i))))),
            ),
          ),
        )

pub noting_spells : {A : Type 0} (named : List Board) (f : Format A) (sheet : Sheet) (a : A) → SpellsSheet f sheet a → length (named_by named sheet) < 2 ^ 32 → SpellsValue (noting named f) (short_sheet named sheet) (a, named_by named sheet)
noting_spells named (done c) sheet a (e, same) few = (ap (short_sheet named) e, λ i. (same i, named_by named (sym e i)))
noting_spells named (field (byte test) next) sheet a (v, (rest, ((allowed, is), spells))) few =
    subst (λ s. SpellsValue (noting named (field (byte test) next)) (short_sheet named s) (a, named_by named s)) (sym is)
    (v, (short_sheet named rest, (record { allowed = allowed; spelled = refl }, noting_spells named (next v) rest a spells (subst (λ s. length (named_by named s) < 2 ^ 32) is few))))
noting_spells named (field short next) sheet a (v, (rest, ((allowed, is), spells))) few =
    let after : named_by named sheet ≡ named_by named rest = ap (named_by named) is ∙ named_marks named (short_text v) rest in
    subst (λ l. SpellsValue (noting named (field short next)) (short_sheet named sheet) (a, l)) (sym after)
    (v, (short_sheet named rest, (record { allowed = allowed; spelled = ap (short_sheet named) is ∙ short_marks named (short_text v) rest }, noting_spells named (next v) rest a spells (subst (λ l. length l < 2 ^ 32) after few))))
noting_spells named (field (long most) next) sheet a (v, (rest, ((allowed, is), spells))) few =
    let after : named_by named sheet ≡ named_by named rest = ap (named_by named) is ∙ named_marks named (long_text v) rest in
    subst (λ l. SpellsValue (noting named (field (long most) next)) (short_sheet named sheet) (a, l)) (sym after)
    (v, (short_sheet named rest, (record { allowed = allowed; spelled = ap (short_sheet named) is ∙ short_marks named (long_text v) rest }, noting_spells named (next v) rest a spells (subst (λ l. length l < 2 ^ 32) after few))))
noting_spells named (field (place list others) next) sheet a (v, (rest, ((allowed, is), spells))) few =
    let after : named_by named sheet ≡ named_by named rest = ap (named_by named) is ∙ named_marks named (short_text v) rest in
    subst (λ l. SpellsValue (noting named (field (place list others) next)) (short_sheet named sheet) (a, l)) (sym after)
    (v, (short_sheet named rest, (record { allowed = allowed; spelled = ap (short_sheet named) is ∙ short_marks named (short_text v) rest }, noting_spells named (next v) rest a spells (subst (λ l. length l < 2 ^ 32) after few))))
noting_spells {A} named (field (position others) next) sheet a (p, (rest, ((allowed, is), spells))) few =
    let few_here : length (named_by (with_name named p) rest) < 2 ^ 32 = subst (λ s. length (named_by named s) < 2 ^ 32) is few in
    let grows = names_grow (with_name named p) rest in
    let behind : Board × List Board → Format (A × List Board) = λ r. noting r.1 (next r.0) in
    subst (λ s. SpellsValue (noting named (field (position others) next)) (short_sheet named s) (a, named_by named s)) (sym is)
    (spells_then (number_order named others) behind (name_text named p) (short_sheet (with_name named p) rest) (p, with_name named p) (a, named_by (with_name named p) rest)
    (number_spells named others p allowed.0 allowed.1 (omega arith)) (noting_spells (with_name named p) (next p) rest a spells few_here))

-- what a number spelled
record IsNumbered (named others : List Board) (bytes : List ℕ) (p : Board) (after : List Board) : Type 0 where
  lawful : IsLawful p
  new : ¬ Contains others p
  text : bytes ≡ name_text named p
  list : after ≡ with_name named p
  sound : IsNamed after

number_is : (named others : List Board) (bytes : List ℕ) (p : Board) (after : List Board) → IsNamed named → SpellsValue (number_order named others) bytes (p, after) → IsNumbered named others bytes p after
number_is named others bytes p after is (n, (rest, (begins, spells))) = by (slice_get named n) refl spells
  where
    by : (o : Option Board) → slice_get named n ≡ o → SpellsValue (at_number named others o) rest (p, after) → IsNumbered named others bytes p after
    by (Some q) at (none, same) =
        let own : q ≡ p = ap (λ (r : Board × List Board). r.0) same in
        let list : named ≡ after = ap (λ (r : Board × List Board). r.1) same in
        let found : slice_get named n ≡ Some p = at ∙ ap Some own in
        let number = number_of_there named p n is.distinct found in
        record {
          lawful = All-contains IsLawful named p is.lawful (n, slice_get_within named n p found, get_or_from_slice_get named n p p found);
          new = begins.allowed.1.1 p found;
          text = begins.spelled ∙ (λ i. short_text (sym number.number i) ++ none i) ∙ sym (ap (λ b. short_text (position_or_len (same_board p) named) ++ cond b [] (position_text p)) number.there);
          list = sym list ∙ sym (with_name-there named p number.there);
          sound = subst IsNamed list is;
        }
    by None at (q, (end, (spelled, (none, same)))) =
        let own : q ≡ p = ap (λ (r : Board × List Board). r.0) same in
        let list : named ++ q ∷ [] ≡ after = ap (λ (r : Board × List Board). r.1) same in
        let apart = spelled.allowed.1 in
        let absent : list_any (same_board q) named ≡ false = absent_any named q (λ there. apart (Contains-append_left named others q there)) in
        let most = begins.allowed.1.0 in
        let first = begins.allowed.0 in
        let last : n ≡ length named = at_end named n most at in
        let number : n ≡ position_or_len (same_board q) named = last ∙ sym (number_new named q absent) in
        let whole : bytes ≡ name_text named q =
        begins.spelled ∙ (λ i. short_text (number i) ++ (spelled.spelled ∙ ap (λ t. position_text q ++ t) none ∙ append-nil (position_text q)) i)
        ∙ sym (ap (λ b. short_text (position_or_len (same_board q) named) ++ cond b [] (position_text q)) absent) in
        record {
          lawful = subst IsLawful own spelled.allowed.0;
          new = subst (λ r. ¬ Contains others r) own (λ there. apart (Contains-append_right named others q there));
          text = whole ∙ ap (name_text named) own;
          list = sym list ∙ sym (with_name-new named q absent) ∙ ap (with_name named) own;
          sound = subst IsNamed list (named_push named q is spelled.allowed.0 (λ there. apart (Contains-append_left named others q there)) (omega arith));
        }
      where
        at_end : (named : List Board) (n : ℕ) → n ≤ length named → slice_get named n ≡ None → n ≡ length named
        at_end named n most none = elim (cases_end n (length named) most) [
          | inl same ↦ same
          | inr less ↦ absurd (let some = slice_get-get_or named n start_board less in cc)
        ]
          where
            cases_end : (m k : ℕ) → m ≤ k → (m ≡ k) ⊎ (m < k)
            cases_end m k most = elim (cases_lt m k) [ inl less ↦ inr less | inr more ↦ inl (omega arith) ]

-- the sheet of which the bytes are the text by numbers
pub record ByNumbers {A : Type 0} (named : List Board) (f : Format A) (bytes : List ℕ) (a : A) (after : List Board) : Type 0 where
  pub sheet : Sheet
  pub spells : SpellsSheet f sheet a
  pub is : bytes ≡ short_sheet named sheet
  pub list : after ≡ named_by named sheet
  pub sound : IsNamed after

marked : {A : Type 0} (named : List Board) (f : Field) (next : FieldValue f → Format A) (v : FieldValue f) (text : List ℕ) (bytes rest : List ℕ) (a : A) (after : List Board)
    → IsAllowed f v → field_sheet f v ≡ marks text → bytes ≡ text ++ rest → ByNumbers named (next v) rest a after → ByNumbers named (field f next) bytes a after
marked named f next v text bytes rest a after allowed sheet is more = record {
  sheet = marks text ++ more.sheet;
  spells = (v, (more.sheet, ((allowed, ap (λ s. s ++ more.sheet) (sym sheet)), more.spells)));
  is = is ∙ ap (λ t. text ++ t) more.is ∙ sym (short_marks named text more.sheet);
  list = more.list ∙ sym (named_marks named text more.sheet);
  sound = more.sound;
}

pub noting_is : {A : Type 0} (named : List Board) (f : Format A) (bytes : List ℕ) (a : A) (after : List Board) → IsNamed named → SpellsValue (noting named f) bytes (a, after) → ByNumbers named f bytes a after
noting_is {A} named (done c) bytes a after is (e, same) =
    let list : named ≡ after = ap (λ (r : A × List Board). r.1) same in
    record { sheet = []; spells = (refl, ap (λ (r : A × List Board). r.0) same); is = e; list = sym list; sound = subst IsNamed list is }
noting_is named (field (byte test) next) bytes a after is (v, (rest, (begins, spells))) =
    marked named (byte test) next v (v ∷ []) bytes rest a after begins.allowed refl begins.spelled (noting_is named (next v) rest a after is spells)
noting_is named (field short next) bytes a after is (v, (rest, (begins, spells))) =
    marked named short next v (short_text v) bytes rest a after begins.allowed refl begins.spelled (noting_is named (next v) rest a after is spells)
noting_is named (field (long most) next) bytes a after is (v, (rest, (begins, spells))) =
    marked named (long most) next v (long_text v) bytes rest a after begins.allowed refl begins.spelled (noting_is named (next v) rest a after is spells)
noting_is named (field (place list others) next) bytes a after is (v, (rest, (begins, spells))) =
    marked named (place list others) next v (short_text v) bytes rest a after begins.allowed refl begins.spelled (noting_is named (next v) rest a after is spells)
noting_is {A} named (field (position others) next) bytes a after is spells =
    let behind : Board × List Board → Format (A × List Board) = λ r. noting r.1 (next r.0) in
    let cut = spells_cut (number_order named others) behind bytes (a, after) spells in
    let p = cut.value.0 in
    let number = number_is named others cut.front p cut.value.1 is cut.first in
    let more = noting_is (with_name named p) (next p) cut.rest a after (subst IsNamed number.list number.sound) (subst (λ l. SpellsValue (noting l (next p)) cut.rest (a, after)) number.list cut.second) in
    record {
      sheet = name p ∷ more.sheet;
      spells = (p, (more.sheet, (((number.lawful, number.new), refl), more.spells)));
      is = cut.is ∙ (λ i. number.text i ++ more.is i);
      list = more.list;
      sound = more.sound;
    }
