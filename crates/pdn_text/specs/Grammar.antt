-- The items of a text, and the faults: what stands at a place where an item is due.
use Rattle.std.specs.Prelude.{◌≡◌, ◌⊎◌, ℕ, ◌+◌, ◌-◌, Bool, not, ◌||◌, ◌==◌, List, ◌++◌, length, take, drop, slice_index, Some, None, position}
use Rattle.std.specs.List.{position_or_len}
use Rattle.pdn_text.specs.Bytes.{is_word_byte}
use Rattle.std.specs.Char.{is_ascii_digit}
use Rattle.pdn_text.specs.Forms.{form_of}
use Rattle.pdn_text.specs.Signs.{skipped, saying}
use Rattle.pdn_text.specs.Tags.{BeginsWithTag}
use Rattle.pdn_text.specs.Variations.{Inside, IsInside, variation, NeverClosed, HoldsOpenComment}
use Rattle.pdn_text.specs.Words.{word_of}
use Rattle.pdn_text.specs.declared.form.Form.{Form}
use Rattle.pdn_text.specs.declared.form.Form.TheVariants as form
use Rattle.pdn_text.specs.declared.game.Tag.{Tag}
use Rattle.pdn_text.specs.declared.items.Item.{Item}
use Rattle.pdn_text.specs.declared.items.Sign.TheVariants.{Tagged, Moved, Ended}
use Rattle.pdn_text.specs.declared.refusal.PdnRefusal.{PdnRefusal}
use Rattle.pdn_text.specs.declared.refusal.PdnRefusal.TheVariants.{BadByte, OpenTag, OpenComment, OpenVariation, BadMove}
use Rattle.pdn_text.specs.declared.words.Word.{Word}
use Rattle.pdn_text.specs.declared.words.Word.TheVariants as word

-- the longest run of digits at the front
abbrev pub digits_len : List ℕ → ℕ
digits_len rest = position_or_len (λ b. not (is_ascii_digit b)) rest

-- the longest run of digits, `-`, `x` and `/` at the front
abbrev pub word_len : List ℕ → ℕ
word_len rest = position_or_len (λ b. not (is_word_byte b)) rest

abbrev pub word_at : List ℕ → List ℕ
word_at rest = take (word_len rest) rest

-- everything up to and without the next byte 10, or up to the end
abbrev pub line_len : List ℕ → ℕ
line_len rest = position_or_len (λ b. b == 10) rest

-- a word from `at` to `end` says: a result, nothing where it is a move number, a move
abbrev pub IsWordItem : Word → ℕ → ℕ → Item → Type 0
IsWordItem word.Result at end item = item ≡ saying end Ended
IsWordItem word.Number at end item = item ≡ skipped end
IsWordItem (word.Move squares) at end item =
    item ≡ saying end (Moved (record { at = at; end = end; squares = squares }))
IsWordItem word.Bad at end item = ⊥

-- a variation stands at the front of `rest`
pub record IsVariation (at : ℕ) (rest : List ℕ) (item : Item) : Type 0 where
  pub inside : Inside
  pub behind : List ℕ
  pub sound : IsInside inside
  pub whole : rest ≡ variation inside ++ behind
  pub skips : item ≡ skipped (at + length (variation inside))

-- a tag stands at the front of `rest`
pub record IsTag (at : ℕ) (rest : List ℕ) (item : Item) : Type 0 where
  pub tag : Tag
  pub behind : List ℕ
  pub begins : BeginsWithTag rest tag behind
  pub says : item ≡ saying (at + (length rest - length behind)) (Tagged tag)

-- the next `}` closes the comment at the front of `rest`
pub record IsComment (at : ℕ) (rest : List ℕ) (item : Item) : Type 0 where
  pub closing : ℕ
  pub next : position (λ b. b == 125) rest ≡ Some closing
  pub skips : item ≡ skipped (at + (closing + 1))

-- An item of this form stands at `at`, where the text goes on with `rest`.
abbrev pub IsItemOfText : Form → ℕ → List ℕ → Item → Type 0
IsItemOfText form.Line at rest item = item ≡ skipped (at + (1 + line_len (drop 1 rest)))
IsItemOfText form.Blank at rest item = item ≡ skipped (at + 1)
IsItemOfText form.Comment at rest item = IsComment at rest item
IsItemOfText form.Variation at rest item = IsVariation at rest item
IsItemOfText form.Annotation at rest item = item ≡ skipped (at + (1 + digits_len (drop 1 rest)))
IsItemOfText form.Tag at rest item = IsTag at rest item
IsItemOfText form.Star at rest item = item ≡ saying (at + 1) Ended
IsItemOfText form.Word at rest item =
    IsWordItem (word_of (word_at rest)) at (at + word_len rest) item
IsItemOfText form.Nothing at rest item = ⊥

-- An item of this form is due at `at` and does not stand there: this is the fault. A variation is
-- not closed, or a comment in it.
abbrev pub IsPdnFault : Form → ℕ → List ℕ → PdnRefusal → Type 0
IsPdnFault form.Comment at rest fault =
    (position (λ b. b == 125) rest ≡ None) × (fault ≡ OpenComment at)
IsPdnFault form.Variation at rest fault =
    (NeverClosed rest × (fault ≡ OpenVariation at))
    ⊎ ((place : ℕ) × HoldsOpenComment rest place × (fault ≡ OpenComment (at + place)))
IsPdnFault form.Tag at rest fault =
    ((tag : Tag) (behind : List ℕ) → ¬ BeginsWithTag rest tag behind) × (fault ≡ OpenTag at)
IsPdnFault form.Word at rest fault = (word_of (word_at rest) ≡ word.Bad) × (fault ≡ BadMove at)
IsPdnFault form.Nothing at rest fault = fault ≡ BadByte at
IsPdnFault other at rest fault = ⊥

-- the place is the text's first, or stands straight behind a byte 10
abbrev pub begins_line : List ℕ → ℕ → Bool
begins_line text at = at == 0 || slice_index text (at - 1) == 10

-- the form of the item that is due at a place
abbrev pub form_at : List ℕ → ℕ → Form
form_at text at = form_of (begins_line text at) (drop at text)

-- no item stands at a place
abbrev pub IsStop : List ℕ → ℕ → Type 0
IsStop text at = (item : Item) → ¬ IsItemOfText (form_at text at) at (drop at text) item
