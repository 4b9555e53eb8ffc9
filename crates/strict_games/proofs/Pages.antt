-- A text says more with each word that is appended to it.
use Rattle.std.proofs.Common.{◌≡◌, ◌∙◌, ℕ, ◌+◌, ◌-◌, ◌==◌, Bool, false, true, not, ◌&&◌, List, [], ◌∷◌, ◌++◌, length, take, drop, map, Some, refl, sym, ap, subst, arith, append_assoc, append-nil, length-append, inl, inr, ◌||◌}
use Rattle.std.specs.Prelude.{codes, option_to_list, slice_index}
use Rattle.std.specs.Char.{is_ascii_digit}
use Rattle.std.specs.List.{flat_map, list_all}
use Rattle.std.proofs.Math.Seq.{take-append_seam}
use Rattle.std.proofs.lemmas.Bool.{eqb-true, or_cases}
use Rattle.std.proofs.lemmas.List.{drop_at}
use Rattle.std.proofs.lemmas.Grind.{common_steps}
use Rattle.pdn_text.specs.Bytes.{is_line_end, is_word_byte}
use Rattle.pdn_text.specs.Forms.{form_of}
use Rattle.pdn_text.specs.Grammar.{IsItemOfText, IsWordItem, begins_line, form_at, word_at, word_len}
use Rattle.pdn_text.specs.Pdn.{AreItemsOfText}
use Rattle.pdn_text.specs.Signs.{saying, skipped}
use Rattle.pdn_text.specs.Tags.{AreWritten, IsName, IsWritten, Written, as_written, byte_of}
use Rattle.pdn_text.specs.Tags.Written.{Plain, Escaped}
use Rattle.pdn_text.specs.Words.{move_or_bad, word_of}
use Rattle.pdn_text.specs.declared.items.Item.{Item}
use Rattle.pdn_text.specs.declared.items.Sign.{Sign}
use Rattle.pdn_text.specs.declared.items.Sign.TheVariants.{Tagged, Moved, Ended}
use Rattle.pdn_text.proofs.FirstPlaces.{run_len}
use Rattle.pdn_text.proofs.Reached.{push_item, signs_push}
use Rattle.strict_games.specs.Pages.{IsClosed, IsOpen, SaysTo, is_gap}
use Rattle.strict_games.specs.Spelling.{escaped, tag_text}

-- ---- one item more, where the text goes on with p and then with more

step : (text p more : List ℕ) (said : List Sign) (item : Item) → SaysTo (text ++ (p ++ more)) (length text) said
    → ((ls : Bool) → IsItemOfText (form_of ls (p ++ more)) (length text) (p ++ more) item) → item.end ≡ length text + length p
    → SaysTo ((text ++ p) ++ more) (length (text ++ p)) (said ++ option_to_list item.sign)
step text p more said item s is end =
    let whole : List ℕ = text ++ (p ++ more) in
    let there : drop (length text) whole ≡ p ++ more = drop_at text (p ++ more) (length text) refl in
    let here : IsItemOfText (form_at whole (length text)) (length text) (drop (length text) whole) item =
    subst (λ r. IsItemOfText (form_of (begins_line whole (length text)) r) (length text) r item) (sym there) (is (begins_line whole (length text))) in
    let same : (text ++ p) ++ more ≡ whole = append_assoc text p more in
    let place : item.end ≡ length (text ++ p) = end ∙ sym (length-append text p) in
    subst (λ w. SaysTo w (length (text ++ p)) (said ++ option_to_list item.sign)) (sym same) (record {
      items = s.items ++ item ∷ [];
      are_items = subst (λ k. AreItemsOfText whole 0 (s.items ++ item ∷ []) k) place (push_item whole 0 (length text) s.items item s.are_items here);
      says = signs_push s.items item ∙ ap (λ x. x ++ option_to_list item.sign) s.says;
    })

-- ---- blanks, ends of lines and full stops

space_form : (ls : Bool) (more : List ℕ) → form_of ls (32 ∷ more) ≡ form_of false (codes " ")
unfolding form_of
space_form true more = refl
space_form false more = refl

end_form : (ls : Bool) (more : List ℕ) → form_of ls (10 ∷ more) ≡ form_of false (codes " ")
unfolding form_of
end_form true more = refl
end_form false more = refl

stop_form : (ls : Bool) (more : List ℕ) → form_of ls (46 ∷ more) ≡ form_of false (codes " ")
unfolding form_of
stop_form true more = refl
stop_form false more = refl

-- what holds of these three holds of a gap
of_gap : (P : ℕ → Type 0) (b : ℕ) → is_gap b ≡ true → P 32 → P 10 → P 46 → P b
of_gap P b gap space end stop =
    elim (or_cases (b == 32 || b == 10) (b == 46) gap) [
      | inl first ↦ elim (or_cases (b == 32) (b == 10) first) [
        | inl e ↦ subst P (sym (eqb-true b 32 e)) space
        | inr e ↦ subst P (sym (eqb-true b 10 e)) end
      ]
      | inr e ↦ subst P (sym (eqb-true b 46 e)) stop
    ]

gap_form : (ls : Bool) (b : ℕ) (more : List ℕ) → is_gap b ≡ true → form_of ls (b ∷ more) ≡ form_of false (codes " ")
gap_form ls b more gap = of_gap (λ k. form_of ls (k ∷ more) ≡ form_of false (codes " ")) b gap (space_form ls more) (end_form ls more) (stop_form ls more)

gap_stops : (b : ℕ) → is_gap b ≡ true → is_word_byte b ≡ false
gap_stops b gap = of_gap (λ k. is_word_byte k ≡ false) b gap refl refl refl

-- a gap closes
pub closes : (text : List ℕ) (said : List Sign) (gap : ℕ) → is_gap gap ≡ true → IsOpen text said → IsClosed (text ++ gap ∷ []) said
unfolding form_of
closes text said gap g opened more =
    subst (SaysTo ((text ++ gap ∷ []) ++ more) (length (text ++ gap ∷ []))) (append-nil said)
    (step text (gap ∷ []) more said (skipped (length text + 1)) (opened gap more g)
    (λ ls. subst (λ f. IsItemOfText f (length text) (gap ∷ more) (skipped (length text + 1))) (sym (gap_form ls gap more g)) refl) refl)

pub opens : (text : List ℕ) (said : List Sign) → IsClosed text said → IsOpen text said
opens text said closed gap more g = closed (gap ∷ more)

-- ---- words

digit_form : (ls : Bool) (b : ℕ) (more : List ℕ) → is_ascii_digit b ≡ true → form_of ls (b ∷ more) ≡ form_of false (codes "1")
unfolding form_of
digit_form ls b more digit = grind (arith, common_steps, digit)

word_here : (ls : Bool) (w : List ℕ) (gap : ℕ) (more : List ℕ) (at : ℕ) (item : Item) → is_ascii_digit (slice_index w 0) ≡ true → list_all is_word_byte w ≡ true → is_gap gap ≡ true
    → IsWordItem (word_of w) at (at + length w) item → IsItemOfText (form_of ls (w ++ gap ∷ more)) at (w ++ gap ∷ more) item
unfolding form_of
word_here ls [] gap more at item digit all g is = let none : is_ascii_digit 0 ≡ true = digit in cc
word_here ls (b ∷ w) gap more at item digit all g is =
    let rest : List ℕ = (b ∷ w) ++ gap ∷ more in
    let len : word_len rest ≡ length (b ∷ w) = run_len is_word_byte (b ∷ w) gap more all (gap_stops gap g) in
    let same : word_at rest ≡ b ∷ w = ap (λ k. take k rest) len ∙ take-append_seam (b ∷ w) (gap ∷ more) in
    subst (λ f. IsItemOfText f at rest item) (sym (digit_form ls b (w ++ gap ∷ more) digit))
    (subst (λ k. IsWordItem (word_of (word_at rest)) at (at + k) item) (sym len)
    (subst (λ v. IsWordItem (word_of v) at (at + length (b ∷ w)) item) (sym same) is))

word_says : (text w : List ℕ) (said : List Sign) (item : Item) → is_ascii_digit (slice_index w 0) ≡ true → list_all is_word_byte w ≡ true
    → IsWordItem (word_of w) (length text) (length text + length w) item → item.end ≡ length text + length w → IsClosed text said → IsOpen (text ++ w) (said ++ option_to_list item.sign)
word_says text w said item digit all is end closed gap more g =
    step text w (gap ∷ more) said item (closed (w ++ gap ∷ more)) (λ ls. word_here ls w gap more (length text) item digit all g is) end

pub move_says : (text w squares : List ℕ) (said : List Sign) → is_ascii_digit (slice_index w 0) ≡ true → list_all is_word_byte w ≡ true → word_of w ≡ move_or_bad (Some squares)
    → IsClosed text said → IsOpen (text ++ w) (said ++ Moved (record { at = length text; end = length text + length w; squares = squares }) ∷ [])
move_says text w squares said digit all e closed =
    let item : Item = saying (length text + length w) (Moved (record { at = length text; end = length text + length w; squares = squares })) in
    word_says text w said item digit all (subst (λ x. IsWordItem x (length text) (length text + length w) item) (sym e) refl) refl closed

pub number_says : (text w : List ℕ) (said : List Sign) → is_ascii_digit (slice_index w 0) ≡ true → list_all is_word_byte w ≡ true → word_of w ≡ word_of (codes "1")
    → IsClosed text said → IsOpen (text ++ w) said
unfolding word_of
number_says text w said digit all e closed =
    let item : Item = skipped (length text + length w) in
    subst (IsOpen (text ++ w)) (append-nil said) (word_says text w said item digit all (subst (λ x. IsWordItem x (length text) (length text + length w) item) (sym e) refl) refl closed)

pub result_says : (text w : List ℕ) (said : List Sign) → is_ascii_digit (slice_index w 0) ≡ true → list_all is_word_byte w ≡ true → word_of w ≡ word_of (codes "1-0")
    → IsClosed text said → IsOpen (text ++ w) (said ++ Ended ∷ [])
unfolding word_of
result_says text w said digit all e closed =
    let item : Item = saying (length text + length w) Ended in
    word_says text w said item digit all (subst (λ x. IsWordItem x (length text) (length text + length w) item) (sym e) refl) refl closed

star_form : (ls : Bool) (more : List ℕ) → form_of ls (42 ∷ more) ≡ form_of false (codes "*")
unfolding form_of
star_form true more = refl
star_form false more = refl

pub star_says : (text : List ℕ) (said : List Sign) → IsClosed text said → IsOpen (text ++ 42 ∷ []) (said ++ Ended ∷ [])
unfolding form_of
star_says text said closed gap more g =
    let item : Item = saying (length text + 1) Ended in
    step text (42 ∷ []) (gap ∷ more) said item (closed (42 ∷ gap ∷ more)) (λ ls. subst (λ f. IsItemOfText f (length text) (42 ∷ gap ∷ more) item) (sym (star_form ls (gap ∷ more))) refl) refl

-- ---- tags

-- a byte of a value as it is written, by whether it is `"` or `\`
abbrev written_by : Bool → ℕ → Written
written_by true b = Escaped b
written_by false b = Plain b

abbrev written_of : ℕ → Written
written_of b = written_by (b == 34 || b == 92) b

bytes-written : (value : List ℕ) → value ≡ map byte_of (map written_of value)
bytes-written [] = refl
bytes-written (b ∷ value) = one (b == 34 || b == 92) b ∙ ap (λ v. byte_of (written_of b) ∷ v) (bytes-written value)
  where
    one : (c : Bool) (b : ℕ) → b ∷ value ≡ byte_of (written_by c b) ∷ value
    one true b = refl
    one false b = refl

escaped-written : (value : List ℕ) → flat_map escaped value ≡ flat_map as_written (map written_of value)
escaped-written [] = refl
escaped-written (b ∷ value) = one (b == 34 || b == 92) refl ∙ ap (λ v. as_written (written_of b) ++ v) (escaped-written value)
  where
    one : (c : Bool) → (b == 34 || b == 92) ≡ c → escaped b ++ flat_map escaped value ≡ as_written (written_of b) ++ flat_map escaped value
    one true e = rw e refl
    one false e = rw e refl

is_written : (b : ℕ) (c : Bool) → (b == 34 || b == 92) ≡ c → is_line_end b ≡ false → IsWritten (written_by c b)
is_written b true e line = line
is_written b false e line = (
  λ is. (let wrong : true ≡ false = subst (λ n. (n == 34 || n == 92) ≡ false) is e in cc),
  λ is. (let wrong : true ≡ false = subst (λ n. (n == 34 || n == 92) ≡ false) is e in cc),
  line,
)

both : (a b : Bool) → (a && b) ≡ true → (a ≡ true) × (b ≡ true)
both true b e = (refl, e)
both false b e = cc

off : (a : Bool) → not a ≡ true → a ≡ false
off true e = sym e
off false e = refl

are_written : (value : List ℕ) → list_all (λ b. not (is_line_end b)) value ≡ true → AreWritten (map written_of value)
are_written [] e = tt
are_written (b ∷ value) e =
    let parts = both (not (is_line_end b)) (list_all (λ b. not (is_line_end b)) value) e in
    (is_written b (b == 34 || b == 92) refl (off (is_line_end b) parts.0), are_written value parts.1)

tag_form : (ls : Bool) (more : List ℕ) → form_of ls (91 ∷ more) ≡ form_of false (codes "[")
unfolding form_of
tag_form true more = refl
tag_form false more = refl

tag_here : (ls : Bool) (name value more : List ℕ) (at : ℕ) → IsName name → list_all (λ b. not (is_line_end b)) value ≡ true
    → IsItemOfText (form_of ls (tag_text name value ++ more)) at (tag_text name value ++ more) (saying (at + length (tag_text name value)) (Tagged (record { name = name; value = value })))
unfolding form_of
tag_here ls name value more at is_name line =
    let rest : List ℕ = tag_text name value ++ more in
    let item : Item = saying (at + length (tag_text name value)) (Tagged (record { name = name; value = value })) in
    let len : length (tag_text name value) ≡ length rest - length more = omega (arith, length-append (tag_text name value) more) in
    subst (λ f. IsItemOfText f at rest item) (sym (tag_form ls (((name ++ 32 ∷ 34 ∷ flat_map escaped value) ++ 34 ∷ 93 ∷ []) ++ more))) (record {
      tag = record { name = name; value = value };
      behind = more;
      begins = record {
        before = [];
        between = 32 ∷ [];
        value = map written_of value;
        after = [];
        blanks_before = refl;
        name = is_name;
        blanks_between = refl;
        some_between = omega arith;
        written = are_written value line;
        value_of_tag = bytes-written value;
        blanks_after = refl;
        whole = ap (λ f. ((91 ∷ name ++ 32 ∷ 34 ∷ f) ++ 34 ∷ 93 ∷ []) ++ more) (escaped-written value) ∙ simp append_assoc;
      };
      says = ap (λ n. saying (at + n) (Tagged (record { name = name; value = value }))) len;
    })

pub tag_says : (text name value : List ℕ) (said : List Sign) → IsName name → list_all (λ b. not (is_line_end b)) value ≡ true → IsClosed text said
    → IsClosed (text ++ tag_text name value) (said ++ Tagged (record { name = name; value = value }) ∷ [])
tag_says text name value said is_name line closed more =
    step text (tag_text name value) more said (saying (length text + length (tag_text name value)) (Tagged (record { name = name; value = value }))) (closed (tag_text name value ++ more))
    (λ ls. tag_here ls name value more (length text) is_name line) refl
