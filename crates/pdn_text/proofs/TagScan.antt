-- The tag at the front of a text, against its grammar.
use Rattle.std.proofs.Common.{suc, take_at, ◌≡◌, ◌∙◌, ◌⊎◌, inl, inr, ℕ, ◌<◌, Bool, true, false, cond, not, ◌&&◌, ◌||◌, List, [], ◌∷◌, ◌++◌, map, length, take, drop, slice_index, Option, Some, None, refl, sym, ap, arith, eqb, append_assoc, take-append-drop}
use Rattle.std.specs.List.{flat_map, list_all, position_or_len}
use Rattle.std.proofs.lemmas.List.{drop_at}
use Rattle.std.proofs.lemmas.Bool.{eqb-true, eqb-false, ne_eqb}
use Rattle.pdn_text.specs.Bytes.{is_name_byte, is_blank, is_line_end}
use Rattle.std.specs.Char.{is_ascii_alphabetic}
use Rattle.pdn_text.specs.Scans.{tag_at, named_tag, closed_tag, name_at, name_len, value_at, with_front, behind_blanks}
use Rattle.pdn_text.specs.Tags.{BeginsWithTag, Written, Plain, Escaped, AreWritten, IsName, byte_of, as_written}
use Rattle.pdn_text.specs.declared.game.Tag.{Tag}
use Rattle.pdn_text.proofs.FirstPlaces.{and_true, run_all, behind_run, run_len}

-- values
record IsValue (text value behind : List ℕ) : Type 0 where
  written : List Written
  sound : AreWritten written
  bytes : value ≡ map byte_of written
  whole : text ≡ flat_map as_written written ++ 34 ∷ behind

-- a byte in front of a value
front_some : (b : ℕ) (value behind : List ℕ) (o : Option (List ℕ × List ℕ)) → with_front (b ∷ []) o ≡ Some (value, behind)
    → (rest : List ℕ) × (o ≡ Some (rest, behind)) × (value ≡ b ∷ rest)
front_some b value behind None e = cc
front_some b value behind (Some x) e =
    let pair : ◌≡◌ {A = List ℕ × List ℕ} (b ∷ x.0, x.1) (value, behind) = cc in
    (x.0, ap (λ (y : List ℕ × List ℕ). Some (x.0, y.1)) pair, sym (ap (λ (y : List ℕ × List ℕ). y.0) pair))

value_plain : (b : ℕ) (text value behind : List ℕ) → eqb b 34 ≡ false → eqb b 92 ≡ false → is_line_end b ≡ false → IsValue text value behind → IsValue (b ∷ text) (b ∷ value) behind
value_plain b text value behind quote slash line v = record {
  written = Plain b ∷ v.written;
  sound = ((eqb-false b 34 quote, eqb-false b 92 slash, line), v.sound);
  bytes = ap (λ x. b ∷ x) v.bytes;
  whole = ap (λ x. b ∷ x) v.whole;
}

value_escaped : (b : ℕ) (text value behind : List ℕ) → is_line_end b ≡ false → IsValue text value behind → IsValue (92 ∷ b ∷ text) (b ∷ value) behind
value_escaped b text value behind line v = record {
  written = Escaped b ∷ v.written;
  sound = (line, v.sound);
  bytes = ap (λ x. b ∷ x) v.bytes;
  whole = ap (λ x. 92 ∷ b ∷ x) v.whole;
}

-- the text with the escape before it
abbrev escaping : Bool → List ℕ → List ℕ
escaping true text = 92 ∷ text
escaping false text = text

abbrev Values : List ℕ → Type 0
Values text = (escaped : Bool) (value behind : List ℕ) → value_at escaped text ≡ Some (value, behind) → IsValue (escaping escaped text) value behind

plain_case : (b : ℕ) (text value behind : List ℕ) → Values text → (quote line slash : Bool) → eqb b 34 ≡ quote → is_line_end b ≡ line → eqb b 92 ≡ slash
    → cond (quote && true) (Some ([], text)) (cond line None (cond (slash && true) (value_at true text) (with_front (b ∷ []) (value_at false text)))) ≡ Some (value, behind)
    → IsValue (b ∷ text) value behind
plain_case b text value behind rest true line slash e e1 e2 h =
    let pair : ◌≡◌ {A = List ℕ × List ℕ} ([], text) (value, behind) = cc in
    record { written = []; sound = tt; bytes = sym (ap (λ (y : List ℕ × List ℕ). y.0) pair); whole = rw (eqb-true b 34 e) (ap (λ (y : List ℕ × List ℕ). 34 ∷ y.1) pair) }
plain_case b text value behind rest false true slash e e1 e2 h = cc
plain_case b text value behind rest false false true e e1 e2 h = rw (eqb-true b 92 e2) (rest true value behind h)
plain_case b text value behind rest false false false e e1 e2 h =
    let f = front_some b value behind (value_at false text) h in
    rw f.2 (value_plain b text f.0 behind e e2 e1 (rest false f.0 behind f.1))

escaped_case : (b : ℕ) (text value behind : List ℕ) → Values text → (quote line slash : Bool) → is_line_end b ≡ line
    → cond (quote && false) (Some ([], text)) (cond line None (cond (slash && false) (value_at true text) (with_front (b ∷ []) (value_at false text)))) ≡ Some (value, behind)
    → IsValue (92 ∷ b ∷ text) value behind
escaped_case b text value behind rest true true slash e h = cc
escaped_case b text value behind rest false true slash e h = cc
escaped_case b text value behind rest true false true e h =
    let f = front_some b value behind (value_at false text) h in
    rw f.2 (value_escaped b text f.0 behind e (rest false f.0 behind f.1))
escaped_case b text value behind rest true false false e h =
    let f = front_some b value behind (value_at false text) h in
    rw f.2 (value_escaped b text f.0 behind e (rest false f.0 behind f.1))
escaped_case b text value behind rest false false true e h =
    let f = front_some b value behind (value_at false text) h in
    rw f.2 (value_escaped b text f.0 behind e (rest false f.0 behind f.1))
escaped_case b text value behind rest false false false e h =
    let f = front_some b value behind (value_at false text) h in
    rw f.2 (value_escaped b text f.0 behind e (rest false f.0 behind f.1))

value_found : (text : List ℕ) → Values text
value_found [] escaped value behind e = cc
value_found (b ∷ text) false value behind e = plain_case b text value behind (value_found text) (eqb b 34) (is_line_end b) (eqb b 92) refl refl refl e
value_found (b ∷ text) true value behind e = escaped_case b text value behind (value_found text) (eqb b 34) (is_line_end b) (eqb b 92) refl e

escaped_only : (b : ℕ) (text value behind : List ℕ) (quote slash : Bool) → is_line_end b ≡ false → value_at false text ≡ Some (value, behind)
    → cond (quote && false) (Some ([], text)) (cond (is_line_end b) None (cond (slash && false) (value_at true text) (with_front (b ∷ []) (value_at false text)))) ≡ Some (b ∷ value, behind)
escaped_only b text value behind true true line rest = rw line (ap (with_front (b ∷ [])) rest)
escaped_only b text value behind true false line rest = rw line (ap (with_front (b ∷ [])) rest)
escaped_only b text value behind false true line rest = rw line (ap (with_front (b ∷ [])) rest)
escaped_only b text value behind false false line rest = rw line (ap (with_front (b ∷ [])) rest)

plain_only : (b : ℕ) (text value behind : List ℕ) → eqb b 34 ≡ false → eqb b 92 ≡ false → is_line_end b ≡ false → value_at false text ≡ Some (value, behind)
    → cond (eqb b 34 && true) (Some ([], text)) (cond (is_line_end b) None (cond (eqb b 92 && true) (value_at true text) (with_front (b ∷ []) (value_at false text)))) ≡ Some (b ∷ value, behind)
plain_only b text value behind quote slash line rest = rw quote (rw line (rw slash (ap (with_front (b ∷ [])) rest)))

value_only : (ws : List Written) (behind : List ℕ) → AreWritten ws → value_at false (flat_map as_written ws ++ 34 ∷ behind) ≡ Some (map byte_of ws, behind)
value_only [] behind h = refl
value_only (Plain b ∷ ws) behind h =
    plain_only b (flat_map as_written ws ++ 34 ∷ behind) (map byte_of ws) behind (ne_eqb b 34 h.0.0) (ne_eqb b 92 h.0.1) h.0.2 (value_only ws behind h.1)
value_only (Escaped b ∷ ws) behind h =
    escaped_only b (flat_map as_written ws ++ 34 ∷ behind) (map byte_of ws) behind (eqb b 34) (eqb b 92) h.0 (value_only ws behind h.1)

-- names
letter_is_name : (b : ℕ) → is_ascii_alphabetic b ≡ true → is_name_byte b ≡ true
letter_is_name b e = rw e refl

blank_cases : (b : ℕ) (space tab : Bool) → eqb b 32 ≡ space → eqb b 9 ≡ tab → (space || tab) ≡ true → (b ≡ 32) ⊎ (b ≡ 9)
blank_cases b true tab e e1 h = inl (eqb-true b 32 e)
blank_cases b false true e e1 h = inr (eqb-true b 9 e1)
blank_cases b false false e e1 h = cc

blank_is : (b : ℕ) → is_blank b ≡ true → (b ≡ 32) ⊎ (b ≡ 9)
blank_is b h = blank_cases b (eqb b 32) (eqb b 9) refl refl h

blank_no_name : (b : ℕ) → is_blank b ≡ true → is_name_byte b ≡ false
blank_no_name b h = elim (blank_is b h) [ inl e ↦ rw e refl | inr e ↦ rw e refl ]

letter_no_blank_at : (b : ℕ) (blank : Bool) → is_blank b ≡ blank → is_ascii_alphabetic b ≡ true → blank ≡ false
letter_no_blank_at b true e h = elim (blank_is b e) [ inl is ↦ (let wrong = rw is at h in cc) | inr is ↦ (let wrong = rw is at h in cc) ]
letter_no_blank_at b false e h = refl

letter_no_blank : (b : ℕ) → is_ascii_alphabetic b ≡ true → is_blank b ≡ false
letter_no_blank b h = letter_no_blank_at b (is_blank b) refl h

chosen : {A : Type 0} (b : Bool) (x y : A) → cond b (Some x) None ≡ Some y → (b ≡ true) × (x ≡ y)
chosen true x y e = (refl, cc)
chosen false x y e = cc

front_is : (xs : List ℕ) (c : ℕ) → 0 < c → slice_index xs 0 ≡ c → xs ≡ c ∷ drop 1 xs
front_is [] c some e = absurd (omega arith)
front_is (x ∷ xs) c some e = ap (λ y. y ∷ xs) e

-- a tag's name, and what stands behind the quotation mark
record IsNamed (text name quoted : List ℕ) : Type 0 where
  before : List ℕ
  between : List ℕ
  blanks_before : list_all is_blank before ≡ true
  named : IsName name
  blanks_between : list_all is_blank between ≡ true
  some_between : 0 < length between
  whole : text ≡ before ++ (name ++ (between ++ 34 ∷ quoted))

run_step : (p : ℕ → Bool) (x : ℕ) (xs : List ℕ) → p x ≡ true → position_or_len (λ b. not (p b)) (x ∷ xs) ≡ suc (position_or_len (λ b. not (p b)) xs)
run_step p x xs e = rw e (omega arith)

name_shape : (front : List ℕ) → is_ascii_alphabetic (slice_index front 0) ≡ true → IsName (take (name_len front) front)
name_shape [] e = cc
name_shape (b ∷ more) e = rw (run_step is_name_byte b more (letter_is_name b e)) (e, run_all is_name_byte more)

blanks_some : (after : List ℕ) → is_blank (slice_index after 0) ≡ true → 0 < length (take (position_or_len (λ b. not (is_blank b)) after) after)
blanks_some [] e = cc
blanks_some (b ∷ more) e = rw (run_step is_blank b more e) (omega arith)

name_found : (text name quoted : List ℕ) → name_at text ≡ Some (name, quoted) → IsNamed text name quoted
unfolding name_at
name_found text name quoted e =
    let front = behind_blanks text in
    let len = name_len front in
    let after = drop len front in
    let mark = behind_blanks after in
    let f = chosen (is_ascii_alphabetic (slice_index front 0) && is_blank (slice_index after 0) && eqb (slice_index mark 0) 34) (take len front, drop 1 mark) (name, quoted) e in
    let tests = and_true (is_ascii_alphabetic (slice_index front 0) && is_blank (slice_index after 0)) (eqb (slice_index mark 0) 34) f.0 in
    let letter_blank = and_true (is_ascii_alphabetic (slice_index front 0)) (is_blank (slice_index after 0)) tests.0 in
    let blanks = position_or_len (λ b. not (is_blank b)) in
    let is_name : take len front ≡ name = ap (λ (y : List ℕ × List ℕ). y.0) f.1 in
    let is_quoted : drop 1 mark ≡ quoted = ap (λ (y : List ℕ × List ℕ). y.1) f.1 in
    record {
      before = take (blanks text) text;
      between = take (blanks after) after;
      blanks_before = run_all is_blank text;
      named = rw (← is_name) (name_shape front letter_blank.0);
      blanks_between = run_all is_blank after;
      some_between = blanks_some after letter_blank.1;
      whole = sym (take-append-drop (blanks text) text) ∙ ap (λ x. take (blanks text) text ++ x)
          (sym (take-append-drop len front) ∙ ap (λ x. x ++ after) is_name ∙ ap (λ x. name ++ x)
          (sym (take-append-drop (blanks after) after) ∙ ap (λ x. take (blanks after) after ++ x) (front_is mark 34 (omega arith) (eqb-true (slice_index mark 0) 34 tests.1) ∙ ap (λ x. 34 ∷ x) is_quoted)));
    }

name_at_is : (text front after mark : List ℕ) (len : ℕ) → behind_blanks text ≡ front → name_len front ≡ len → drop len front ≡ after → behind_blanks after ≡ mark
    → is_ascii_alphabetic (slice_index front 0) ≡ true → is_blank (slice_index after 0) ≡ true → slice_index mark 0 ≡ 34 → name_at text ≡ Some (take len front, drop 1 mark)
unfolding name_at
name_at_is text front after mark len e1 e2 e3 e4 letter blank quote = rw e1 (rw e2 (rw e3 (rw e4 (rw letter (rw blank (rw quote refl))))))

name_only : (before name between quoted : List ℕ) → list_all is_blank before ≡ true → IsName name → list_all is_blank between ≡ true → 0 < length between
    → name_at (before ++ (name ++ (between ++ 34 ∷ quoted))) ≡ Some (name, quoted)
name_only before [] between quoted h is h1 some = absurd is
name_only before (b ∷ more) [] quoted h is h1 some = absurd (omega arith)
name_only before (b ∷ more) (x ∷ between) quoted h is h1 some =
    let rest = (x ∷ between) ++ 34 ∷ quoted in
    let blank = and_true (is_blank x) (list_all is_blank between) h1 in
    let named : list_all is_name_byte (b ∷ more) ≡ true = rw (letter_is_name b is.0) is.1 in
    let len = run_len is_name_byte (b ∷ more) x (between ++ 34 ∷ quoted) named (blank_no_name x blank.0) in
    name_at_is (before ++ (b ∷ more ++ rest)) (b ∷ more ++ rest) rest (34 ∷ quoted) (length (b ∷ more))
    (behind_run is_blank before b (more ++ rest) h (letter_no_blank b is.0)) len (drop_at (b ∷ more) rest (length (b ∷ more)) refl) (behind_run is_blank (x ∷ between) 34 quoted h1 refl)
    is.0 blank.0 refl
    ∙ ap (λ y. Some (y, quoted)) (take_at (b ∷ more) rest (length (b ∷ more)) refl)

-- the tag
closed_found : (name text : List ℕ) (tag : Tag) (behind : List ℕ) (value : List ℕ) → closed_tag name (Some (value, text)) ≡ Some (tag, behind)
    → (after : List ℕ) × (list_all is_blank after ≡ true) × (text ≡ after ++ 93 ∷ behind) × (tag.name ≡ name) × (tag.value ≡ value)
closed_found name text tag behind value e =
    let made : Tag = record { name = name; value = value } in
    let f = chosen (eqb (slice_index (behind_blanks text) 0) 93) (made, drop 1 (behind_blanks text)) (tag, behind) e in
    let blanks = position_or_len (λ b. not (is_blank b)) in
    let is_tag : made ≡ tag = ap (λ (y : Tag × List ℕ). y.0) f.1 in
    let is_behind : drop 1 (behind_blanks text) ≡ behind = ap (λ (y : Tag × List ℕ). y.1) f.1 in (
      take (blanks text) text,
      run_all is_blank text,
      sym (take-append-drop (blanks text) text) ∙ ap (λ x. take (blanks text) text ++ x) (front_is (behind_blanks text) 93 (omega arith) (eqb-true (slice_index (behind_blanks text) 0) 93 f.0) ∙ ap (λ x. 93 ∷ x) is_behind),
      sym (ap (λ (y : Tag). y.name) is_tag),
      sym (ap (λ (y : Tag). y.value) is_tag),
    )

regroup : (a b c d e f : List ℕ) → a ++ (b ++ (c ++ (d ++ (e ++ f)))) ≡ a ++ b ++ c ++ d ++ e ++ f
regroup a b c d e f = simp append_assoc

assembled : (text before name same between value after behind : List ℕ) → same ≡ name → text ≡ 91 ∷ (before ++ (name ++ (between ++ 34 ∷ (value ++ 34 ∷ (after ++ 93 ∷ behind)))))
    → text ≡ 91 ∷ before ++ same ++ between ++ 34 ∷ value ++ 34 ∷ after ++ 93 ∷ behind
assembled text before name same between value after behind e h = rw e (h ∙ regroup (91 ∷ before) name between (34 ∷ value) (34 ∷ after) (93 ∷ behind))

tag_from_value : (text rest name quoted : List ℕ) (tag : Tag) (behind : List ℕ) (o : Option (List ℕ × List ℕ)) → text ≡ 91 ∷ rest → IsNamed rest name quoted → value_at false quoted ≡ o → closed_tag name o ≡ Some (tag, behind)
    → BeginsWithTag text tag behind
tag_from_value text rest name quoted tag behind None begins n e h = cc
tag_from_value text rest name quoted tag behind (Some x) begins n e h =
    let v = value_found quoted false x.0 x.1 e in
    let c = closed_found name x.1 tag behind x.0 h in
    record {
      before = n.before;
      between = n.between;
      value = v.written;
      after = c.0;
      blanks_before = n.blanks_before;
      name = rw c.3 n.named;
      blanks_between = n.blanks_between;
      some_between = n.some_between;
      written = v.sound;
      value_of_tag = c.4 ∙ v.bytes;
      blanks_after = c.1;
      whole = assembled text n.before name tag.name n.between (flat_map as_written v.written) c.0 behind c.3 (begins ∙ ap (λ y. 91 ∷ y) (n.whole ∙ ap (λ y. n.before ++ (name ++ (n.between ++ 34 ∷ y))) (v.whole ∙ ap (λ y. flat_map as_written v.written ++ 34 ∷ y) c.2)));
    }

tag_from_name : (text rest : List ℕ) (tag : Tag) (behind : List ℕ) (o : Option (List ℕ × List ℕ)) → text ≡ 91 ∷ rest → name_at rest ≡ o → named_tag o ≡ Some (tag, behind) → BeginsWithTag text tag behind
tag_from_name text rest tag behind None begins e h = cc
tag_from_name text rest tag behind (Some x) begins e h = tag_from_value text rest x.0 x.1 tag behind (value_at false x.1) begins (name_found rest x.0 x.1 e) refl h

pub tag_found : (text : List ℕ) (tag : Tag) (behind : List ℕ) → slice_index text 0 ≡ 91 → tag_at text ≡ Some (tag, behind) → BeginsWithTag text tag behind
unfolding tag_at
tag_found text tag behind begins e = tag_from_name text (drop 1 text) tag behind (name_at (drop 1 text)) (front_is text 91 (omega arith) begins) refl e

closed_only : (name text after : List ℕ) (behind value : List ℕ) → list_all is_blank after ≡ true → text ≡ after ++ 93 ∷ behind
    → closed_tag name (Some (value, text)) ≡ Some (record { name = name; value = value }, behind)
closed_only name text after behind value h e =
    rw e (rw (behind_run is_blank after 93 behind h refl) refl)

pub tag_only : (text : List ℕ) (tag : Tag) (behind : List ℕ) → BeginsWithTag text tag behind → tag_at text ≡ Some (tag, behind)
unfolding tag_at
tag_only text tag behind is =
    let closing = is.after ++ 93 ∷ behind in
    let quoted = flat_map as_written is.value ++ 34 ∷ closing in
    let rest = is.before ++ (tag.name ++ (is.between ++ 34 ∷ quoted)) in
    let whole : text ≡ 91 ∷ rest = is.whole ∙ sym (regroup (91 ∷ is.before) tag.name is.between (34 ∷ flat_map as_written is.value) (34 ∷ is.after) (93 ∷ behind)) in
    let named = name_only is.before tag.name is.between quoted is.blanks_before is.name is.blanks_between is.some_between in
    let value = value_only is.value closing is.written in
    ap (λ x. named_tag (name_at (drop 1 x))) whole ∙ ap named_tag named ∙ ap (closed_tag tag.name) value
    ∙ closed_only tag.name closing is.after behind (map byte_of is.value) is.blanks_after refl
    ∙ ap (λ v. Some (record { name = tag.name; value = v }, behind)) (sym is.value_of_tag)
