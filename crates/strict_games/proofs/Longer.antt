-- An item stays what it is where more text follows behind the end of a line, and where text stands before a line.
use Rattle.std.proofs.Common.{◌≡◌, ◌∙◌, ℕ, ◌+◌, ◌-◌, Bool, true, false, not, ◌&&◌, cond, List, [], ◌∷◌, ◌++◌, length, take, Option, Some, None, refl, sym, ap, subst, arith, append_assoc, length-append}
use Rattle.std.specs.Char.{is_ascii_digit}
use Rattle.std.specs.List.{flat_map, position, position_or_len}
use Rattle.std.specs.Prelude.{codes, if◌then◌else◌, slice_index}
use Rattle.std.specs.Prelude.{◌==◌}
use Rattle.std.specs.Option.{option_map}
use Rattle.std.proofs.lemmas.List.{take-append-le}
use Rattle.std.proofs.lemmas.List.Folds.{prefix_len-append}
use Rattle.std.proofs.lemmas.List.Sums.{prefix_len-le-length}
use Rattle.std.proofs.lemmas.Grind.{common_steps}
use Rattle.pdn_text.specs.Bytes.{is_skipped, is_word_byte}
use Rattle.pdn_text.specs.Forms.{form_of}
use Rattle.pdn_text.specs.Grammar.{IsItemOfText, IsComment, IsTag, IsVariation, IsWordItem, digits_len, line_len, word_at, word_len}
use Rattle.pdn_text.specs.Signs.{skipped}
use Rattle.pdn_text.specs.Tags.{as_written}
use Rattle.pdn_text.specs.Variations.{variation}
use Rattle.pdn_text.specs.Words.{is_number, is_result, move_of, move_or_bad, word_of}
use Rattle.pdn_text.specs.declared.items.Item.{Item}
use Rattle.pdn_text.specs.declared.items.Sign.{Sign}
use Rattle.pdn_text.specs.declared.items.Sign.TheVariants.{Tagged, Moved, Ended}
use Rattle.strict_games.specs.GameTexts.{move_behind}

-- what an item says behind n further bytes, and the item
abbrev pub sign_behind : ℕ → Sign → Sign
sign_behind n (Tagged tag) = Tagged tag
sign_behind n (Moved written) = Moved (move_behind n written)
sign_behind n Ended = Ended

abbrev pub item_behind : ℕ → Item → Item
item_behind n item = record { end = n + item.end; sign = option_map (sign_behind n) item.sign }

-- ---- runs

-- a run that ends at the end of a line
run-stops : (p : ℕ → Bool) (front more : List ℕ) → p 10 ≡ true → position_or_len p ((front ++ 10 ∷ []) ++ more) ≡ position_or_len p (front ++ 10 ∷ [])
run-stops p [] more e = rw e refl
run-stops p (x ∷ front) more e = ap (λ k. cond (not (p x)) (1 + k) 0) (run-stops p front more e)

-- a byte that is found
found-stays : (p : ℕ → Bool) (xs more : List ℕ) (k : ℕ) → position p xs ≡ Some k → position p (xs ++ more) ≡ Some k
found-stays p xs more k e = grind (arith, common_steps, prefix_len-append (λ x. not (p x)) xs more, length-append xs more, e)

-- ---- forms

-- at a line's end and what stands before it the form does not depend on what follows
pub form-stays : (ls : Bool) (front more : List ℕ) → form_of ls ((front ++ 10 ∷ []) ++ more) ≡ form_of ls (front ++ 10 ∷ [])
unfolding form_of
form-stays true [] more = refl
form-stays false [] more = refl
form-stays ls (x ∷ []) more = refl
form-stays ls (x ∷ y ∷ front) more = refl

-- nothing stands at the end of a text
pub none_at_end : (ls : Bool) (at : ℕ) (item : Item) → IsItemOfText (form_of ls []) at [] item → ⊥
unfolding form_of
none_at_end true at item h = h
none_at_end false at item h = h

-- ---- items of each form, of which at least one byte stands before the line's end

skip_behind : (n at len len' : ℕ) (item : Item) → len' ≡ len → item ≡ skipped (at + len) → item_behind n item ≡ skipped (n + at + len')
skip_behind n at len len' item same e = ap (item_behind n) e ∙ ap skipped (let a : n + (at + len) ≡ n + at + len' = omega arith in a)

-- a word, by what it is: a result, a number, else a move or no word
word_behind : (result number : Bool) (path : Option (List ℕ)) (n at len : ℕ) (item : Item)
    → IsWordItem (if result then word_of (codes "1-0") else if number then word_of (codes "1") else move_or_bad path) at (at + len) item
    → IsWordItem (if result then word_of (codes "1-0") else if number then word_of (codes "1") else move_or_bad path) (n + at) (n + at + len) (item_behind n item)
unfolding word_of
word_behind true number path n at len item e = ap (item_behind n) e ∙ ap (λ k. record { end = k; sign = Some Ended }) (let a : n + (at + len) ≡ n + at + len = omega arith in a)
word_behind false true path n at len item e = ap (item_behind n) e ∙ ap skipped (let a : n + (at + len) ≡ n + at + len = omega arith in a)
word_behind false false (Some squares) n at len item e =
    ap (item_behind n) e ∙ ap (λ k. record { end = k; sign = Some (Moved (record { at = n + at; end = k; squares = squares })) }) (let a : n + (at + len) ≡ n + at + len = omega arith in a)
word_behind false false None n at len item e = e

word_of-behind : (w : List ℕ) (n at len : ℕ) (item : Item) → IsWordItem (word_of w) at (at + len) item → IsWordItem (word_of w) (n + at) (n + at + len) (item_behind n item)
unfolding word_of
word_of-behind w n at len item is = word_behind (is_result w) (is_number w) (move_of w) n at len item is

comment_longer : (n at : ℕ) (rest more : List ℕ) (item : Item) → IsComment at rest item → IsComment (n + at) (rest ++ more) (item_behind n item)
comment_longer n at rest more item is = record {
  closing = is.closing;
  next = found-stays (λ b. b == 125) rest more is.closing is.next;
  skips = skip_behind n at (is.closing + 1) (is.closing + 1) item refl is.skips;
}

variation_longer : (n at : ℕ) (rest more : List ℕ) (item : Item) → IsVariation at rest item → IsVariation (n + at) (rest ++ more) (item_behind n item)
variation_longer n at rest more item is = record {
  inside = is.inside;
  behind = is.behind ++ more;
  sound = is.sound;
  whole = ap (λ r. r ++ more) is.whole ∙ append_assoc (variation is.inside) is.behind more;
  skips = skip_behind n at (length (variation is.inside)) (length (variation is.inside)) item refl is.skips;
}

tag_longer : (n at : ℕ) (rest more : List ℕ) (item : Item) → IsTag at rest item → IsTag (n + at) (rest ++ more) (item_behind n item)
tag_longer n at rest more item is =
    let b = is.begins in
    record {
      tag = is.tag;
      behind = is.behind ++ more;
      begins = record {
        before = b.before;
        between = b.between;
        value = b.value;
        after = b.after;
        blanks_before = b.blanks_before;
        name = b.name;
        blanks_between = b.blanks_between;
        some_between = b.some_between;
        written = b.written;
        value_of_tag = b.value_of_tag;
        blanks_after = b.blanks_after;
        whole = ap (λ r. r ++ more) b.whole ∙ append_assoc (91 ∷ b.before ++ is.tag.name ++ b.between ++ 34 ∷ flat_map as_written b.value ++ 34 ∷ b.after) (93 ∷ is.behind) more;
      };
      says = ap (item_behind n) is.says
          ∙ ap (λ k. record { end = k; sign = Some (Tagged is.tag) })
          (let a : n + (at + (length rest - length is.behind)) ≡ n + at + (length (rest ++ more) - length (is.behind ++ more)) =
          omega (arith, length-append rest more, length-append is.behind more) in a);
    }

word_longer : (n at : ℕ) (front more : List ℕ) (item : Item) → IsWordItem (word_of (word_at (front ++ 10 ∷ []))) at (at + word_len (front ++ 10 ∷ [])) item
    → IsWordItem (word_of (word_at ((front ++ 10 ∷ []) ++ more))) (n + at) (n + at + word_len ((front ++ 10 ∷ []) ++ more)) (item_behind n item)
word_longer n at front more item is =
    let rest = front ++ 10 ∷ [] in
    let len : word_len (rest ++ more) ≡ word_len rest = run-stops (λ b. not (is_word_byte b)) front more refl in
    let least = prefix_len-le-length (λ b. not (not (is_word_byte b))) rest in
    let same : word_at (rest ++ more) ≡ word_at rest = ap (λ k. take k (rest ++ more)) len ∙ take-append-le (word_len rest) rest more least in
    subst (λ k. IsWordItem (word_of (word_at (rest ++ more))) (n + at) (n + at + k) (item_behind n item)) (sym len)
    (subst (λ w. IsWordItem (word_of w) (n + at) (n + at + word_len rest) (item_behind n item)) (sym same) (word_of-behind (word_at rest) n at (word_len rest) item is))

-- An item by the tests on its first bytes. The forms of these texts stand for all.
longer_form : (line line' blank comment nested annotation tag star word : Bool) (x : ℕ) (n at : ℕ) (front more : List ℕ) (item : Item)
    → IsItemOfText (if line then form_of false (codes ";") else if line' then form_of false (codes ";") else if blank then form_of false (codes " ")
    else if comment then form_of false (codes "{") else if nested then form_of false (codes "(") else if annotation then form_of false (codes "$1")
    else if tag then form_of false (codes "[") else if star then form_of false (codes "*") else if word then form_of false (codes "1") else form_of false (codes "a"))
    at ((x ∷ front) ++ 10 ∷ []) item
    → IsItemOfText (if line then form_of false (codes ";") else if line' then form_of false (codes ";") else if blank then form_of false (codes " ")
    else if comment then form_of false (codes "{") else if nested then form_of false (codes "(") else if annotation then form_of false (codes "$1")
    else if tag then form_of false (codes "[") else if star then form_of false (codes "*") else if word then form_of false (codes "1") else form_of false (codes "a"))
    (n + at) (((x ∷ front) ++ 10 ∷ []) ++ more) (item_behind n item)
unfolding form_of
longer_form true line' blank comment nested annotation tag star word x n at front more item is =
    skip_behind n at (1 + line_len (front ++ 10 ∷ [])) _ item (ap (λ k. 1 + k) (run-stops (λ b. b == 10) front more refl)) is
longer_form false true blank comment nested annotation tag star word x n at front more item is =
    skip_behind n at (1 + line_len (front ++ 10 ∷ [])) _ item (ap (λ k. 1 + k) (run-stops (λ b. b == 10) front more refl)) is
longer_form false false true comment nested annotation tag star word x n at front more item is = skip_behind n at 1 1 item refl is
longer_form false false false true nested annotation tag star word x n at front more item is = comment_longer n at ((x ∷ front) ++ 10 ∷ []) more item is
longer_form false false false false true annotation tag star word x n at front more item is = variation_longer n at ((x ∷ front) ++ 10 ∷ []) more item is
longer_form false false false false false true tag star word x n at front more item is =
    skip_behind n at (1 + digits_len (front ++ 10 ∷ [])) _ item (ap (λ k. 1 + k) (run-stops (λ b. not (is_ascii_digit b)) front more refl)) is
longer_form false false false false false false true star word x n at front more item is = tag_longer n at ((x ∷ front) ++ 10 ∷ []) more item is
longer_form false false false false false false false true word x n at front more item is =
    ap (item_behind n) is ∙ ap (λ k. record { end = k; sign = Some Ended }) (let a : n + (at + 1) ≡ n + at + 1 = omega arith in a)
longer_form false false false false false false false false true x n at front more item is = word_longer n at (x ∷ front) more item is
longer_form false false false false false false false false false x n at front more item is = is

-- the same of the form that the bytes tell
longer_any : (ls : Bool) (x : ℕ) (n at : ℕ) (front more : List ℕ) (item : Item) → IsItemOfText (form_of ls ((x ∷ front) ++ 10 ∷ [])) at ((x ∷ front) ++ 10 ∷ []) item
    → IsItemOfText (form_of ls ((x ∷ front) ++ 10 ∷ [])) (n + at) (((x ∷ front) ++ 10 ∷ []) ++ more) (item_behind n item)
unfolding form_of
longer_any ls x n at front more item is =
    longer_form (ls && (x == 37)) (x == 59) (is_skipped x) (x == 123) (x == 40) ((x == 36) && is_ascii_digit (slice_index (x ∷ (front ++ 10 ∷ [])) 1)) (x == 91) (x == 42) (is_ascii_digit x)
    x n at front more item is

-- ---- items of a text whose last line has an end

end_of_line : (ls : Bool) (n at : ℕ) (more : List ℕ) (item : Item) → IsItemOfText (form_of ls (10 ∷ [])) at (10 ∷ []) item
    → IsItemOfText (form_of ls (10 ∷ more)) (n + at) (10 ∷ more) (item_behind n item)
unfolding form_of
end_of_line true n at more item is = skip_behind n at 1 1 item refl is
end_of_line false n at more item is = skip_behind n at 1 1 item refl is

pub longer : (ls : Bool) (n at : ℕ) (front more : List ℕ) (item : Item) → IsItemOfText (form_of ls (front ++ 10 ∷ [])) at (front ++ 10 ∷ []) item
    → IsItemOfText (form_of ls ((front ++ 10 ∷ []) ++ more)) (n + at) ((front ++ 10 ∷ []) ++ more) (item_behind n item)
longer ls n at [] more item is = end_of_line ls n at more item is
longer ls n at (x ∷ front) more item is =
    rw (form-stays ls (x ∷ front) more) (longer_any ls x n at front more item is)
