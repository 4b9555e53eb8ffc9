-- Markup: texts, and elements with attributes and markup within; and how it is written.
use Rattle.std.specs.Prelude.{ℕ, List, [], ◌∷◌, ◌++◌, ◌==◌, Bool, ◌&&◌, not, codes, if◌then◌else◌}
use Rattle.std.specs.List.{flat_map}
use Rattle.terminal_text.specs.Shown.{is_printable, quoted}

-- an attribute of an element; names and values are words of this crate and numbers
pub record Attribute : Type 0 where
  pub name : List ℕ
  pub value : List ℕ

-- nothing; a text; an element by its name, its attributes and what is within; the one beside the other
pub data Markup : Type 0 where
  nothing : Markup
  text_node : List ℕ → Markup
  element : List ℕ → List Attribute → Markup → Markup
  beside : Markup → Markup → Markup

-- a byte of a text: `&`, `<`, `>` and `"` by their names, others as a terminal is given them
abbrev pub escaped_byte : ℕ → List ℕ
escaped_byte b =
    (if b == 38 then codes "&amp;"
    else (if b == 60 then codes "&lt;"
    else (if b == 62 then codes "&gt;"
    else (if b == 34 then codes "&quot;" else quoted (b ∷ [])))))

unfoldable pub escaped : List ℕ → List ℕ
escaped words = flat_map escaped_byte words

-- a byte that neither begins nor ends a tag, nor ends an attribute's value, and is printable ASCII
abbrev pub is_plain : ℕ → Bool
is_plain b = is_printable b && not (b == 60) && not (b == 62) && not (b == 34)

-- each attribute behind a blank, its value between quotes
abbrev pub attributes_text : List Attribute → List ℕ
attributes_text [] = []
attributes_text (a ∷ attributes) =
    32 ∷ a.name ++ (61 ∷ 34 ∷ a.value ++ 34 ∷ attributes_text attributes)

-- texts are escaped; of each element stand its first tag, what is within, and its last tag
abbrev pub markup_text : Markup → List ℕ
markup_text nothing = []
markup_text (text_node words) = escaped words
markup_text (element name attributes within) =
    60 ∷ name ++ (attributes_text attributes ++ 62 ∷ (markup_text within ++ 60 ∷ 47 ∷ (name ++ 62 ∷ [])))
markup_text (beside one other) = markup_text one ++ markup_text other

-- an attribute of this name and this value
abbrev pub attribute : List ℕ → List ℕ → Attribute
attribute name value = record { name = name; value = value }

-- an element of this name and this class
abbrev pub classed : List ℕ → List ℕ → Markup → Markup
classed name words within = element name (attribute (codes "class") words ∷ []) within
