-- Which item begins at a place, told by the bytes there.
use Rattle.std.specs.Prelude.{ℕ, List, Bool, ◌&&◌, ◌==◌, if◌then◌else◌, slice_index}
use Rattle.pdn_text.specs.Bytes.{is_skipped}
use Rattle.std.specs.Char.{is_ascii_digit}
use Rattle.pdn_text.specs.declared.form.Form.{Form}
use Rattle.pdn_text.specs.declared.form.Form.TheVariants.{Line, Blank, Comment, Variation, Annotation, Tag, Star, Word, Nothing}

-- `;`, and `%` where a line begins: a comment to the end of the line. `{`: a comment. `(`: a
-- variation. `$` and a digit: an annotation. `[`: a tag. `*`: a result. A digit: a word.
unfoldable pub form_of : Bool → List ℕ → Form
form_of line_start rest =
    let b = slice_index rest 0 in
    if line_start && (b == 37) then Line
    else if b == 59 then Line
    else if is_skipped b then Blank
    else if b == 123 then Comment
    else if b == 40 then Variation
    else if b == 36 && is_ascii_digit (slice_index rest 1) then Annotation
    else if b == 91 then Tag
    else if b == 42 then Star
    else if is_ascii_digit b then Word
    else Nothing
