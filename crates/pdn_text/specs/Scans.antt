-- What the readers of single items answer, as functions of the bytes. `specs/Grammar.antt` says
-- what the items are, and each answer here is proved to be what it says.
use Rattle.std.specs.Prelude.{ℕ, ◌+◌, ◌-◌, List, [], ◌∷◌, ◌++◌, Bool, true, false, not, ◌&&◌, ◌==◌, nat_le, if◌then◌else◌, slice_index, length, take, drop, position, Option, Some, None, Result, Ok, Err, option_map}
use Rattle.std.specs.List.{position_or_len}
use Rattle.pdn_text.specs.Bytes.{is_name_byte, is_blank, is_line_end}
use Rattle.std.specs.Char.{is_ascii_alphabetic}
use Rattle.pdn_text.specs.Grammar.{line_len, digits_len, word_len, word_at}
use Rattle.pdn_text.specs.Signs.{skipped, saying}
use Rattle.pdn_text.specs.Words.{word_of}
use Rattle.pdn_text.specs.declared.form.Form.{Form}
use Rattle.pdn_text.specs.declared.form.Form.TheVariants as form
use Rattle.pdn_text.specs.declared.game.Tag.{Tag}
use Rattle.pdn_text.specs.declared.items.Item.{Item}
use Rattle.pdn_text.specs.declared.items.Sign.TheVariants.{Tagged, Moved, Ended}
use Rattle.pdn_text.specs.declared.refusal.PdnRefusal.{PdnRefusal}
use Rattle.pdn_text.specs.declared.refusal.PdnRefusal.TheVariants.{BadByte, OpenTag, OpenComment, OpenVariation, BadMove}
use Rattle.pdn_text.specs.declared.variations.Unclosed.{Unclosed}
use Rattle.pdn_text.specs.declared.variations.Unclosed.TheVariants as unclosed
use Rattle.pdn_text.specs.declared.words.Word.{Word}
use Rattle.pdn_text.specs.declared.words.Word.TheVariants as word

-- Where the outermost open variation ends: `depth` of them are open at `place`, and the comment
-- that began at the place in `comment`, if any.
abbrev pub variation_end : ℕ → Option ℕ → ℕ → List ℕ → Result ℕ Unclosed
variation_end depth None place [] = Err unclosed.Variation
variation_end depth (Some opened) place [] = Err (unclosed.Comment opened)
variation_end depth (Some opened) place (b ∷ rest) =
    variation_end depth (if b == 125 then None else Some opened) (place + 1) rest
variation_end depth None place (b ∷ rest) =
    if b == 123 then variation_end depth (Some place) (place + 1) rest
    else if b == 40 then variation_end (depth + 1) None (place + 1) rest
    else if b == 41
    then (if nat_le depth 1 then Ok (place + 1)
    else variation_end (depth - 1) None (place + 1) rest)
    else variation_end depth None (place + 1) rest

-- what stands behind the blanks at the front
abbrev pub behind_blanks : List ℕ → List ℕ
behind_blanks text = drop (position_or_len (λ b. not (is_blank b)) text) text

abbrev pub name_len : List ℕ → ℕ
name_len text = position_or_len (λ b. not (is_name_byte b)) text

-- the name of a tag, and what stands behind the quotation mark that opens its value
unfoldable pub name_at : List ℕ → Option (List ℕ × List ℕ)
name_at text =
    let front = behind_blanks text in
    let after = drop (name_len front) front in
    let quoted = behind_blanks after in
    if is_ascii_alphabetic (slice_index front 0) && is_blank (slice_index after 0)
    && slice_index quoted 0 == 34
    then Some (take (name_len front) front, drop 1 quoted)
    else None

-- more bytes in front of a value
abbrev pub with_front : List ℕ → Option (List ℕ × List ℕ) → Option (List ℕ × List ℕ)
with_front front found = option_map (λ x. (front ++ x.0, x.1)) found

-- The value of a tag without its escapes, and what stands behind the quotation mark that closes it.
-- `escaped` says whether a `\` stands straight before the text.
abbrev pub value_at : Bool → List ℕ → Option (List ℕ × List ℕ)
value_at escaped [] = None
value_at escaped (b ∷ text) =
    if b == 34 && not escaped then Some ([], text)
    else if is_line_end b then None
    else if b == 92 && not escaped then value_at true text
    else with_front (b ∷ []) (value_at false text)

-- the tag at the front, and what stands behind it
abbrev pub closed_tag : List ℕ → Option (List ℕ × List ℕ) → Option (Tag × List ℕ)
closed_tag name None = None
closed_tag name (Some (value, text)) =
    let after = behind_blanks text in
    if slice_index after 0 == 93 then Some (record { name = name; value = value }, drop 1 after)
    else None

abbrev pub named_tag : Option (List ℕ × List ℕ) → Option (Tag × List ℕ)
named_tag None = None
named_tag (Some (name, text)) = closed_tag name (value_at false text)

unfoldable pub tag_at : List ℕ → Option (Tag × List ℕ)
tag_at text = named_tag (name_at (drop 1 text))

-- the items and faults, as answers
abbrev pub comment_item : ℕ → Option ℕ → Result Item PdnRefusal
comment_item at None = Err (OpenComment at)
comment_item at (Some closing) = Ok (skipped (at + (closing + 1)))

abbrev pub variation_item : ℕ → Result ℕ Unclosed → Result Item PdnRefusal
variation_item at (Ok len) = Ok (skipped (at + len))
variation_item at (Err (unclosed.Comment opened)) = Err (OpenComment (at + opened))
variation_item at (Err unclosed.Variation) = Err (OpenVariation at)

abbrev pub tag_item : ℕ → ℕ → Option (Tag × List ℕ) → Result Item PdnRefusal
tag_item at len None = Err (OpenTag at)
tag_item at len (Some (tag, behind)) = Ok (saying (at + (len - length behind)) (Tagged tag))

abbrev pub word_item : ℕ → ℕ → Word → Result Item PdnRefusal
word_item at end word.Result = Ok (saying end Ended)
word_item at end word.Number = Ok (skipped end)
word_item at end (word.Move squares) =
    Ok (saying end (Moved (record { at = at; end = end; squares = squares })))
word_item at end word.Bad = Err (BadMove at)

-- the item of this form at `at`, or the fault
abbrev pub item_of : Form → ℕ → List ℕ → Result Item PdnRefusal
item_of form.Line at rest = Ok (skipped (at + (1 + line_len (drop 1 rest))))
item_of form.Blank at rest = Ok (skipped (at + 1))
item_of form.Comment at rest = comment_item at (position (λ b. b == 125) rest)
item_of form.Variation at rest = variation_item at (variation_end 0 None 0 rest)
item_of form.Annotation at rest = Ok (skipped (at + (1 + digits_len (drop 1 rest))))
item_of form.Tag at rest = tag_item at (length rest) (tag_at rest)
item_of form.Star at rest = Ok (saying (at + 1) Ended)
item_of form.Word at rest = word_item at (at + word_len rest) (word_of (word_at rest))
item_of form.Nothing at rest = Err (BadByte at)
