-- What the form of an item says of the bytes there.
use Rattle.std.proofs.Common.{◌≡◌, ℕ, ◌<◌, Bool, true, false, ◌&&◌, cond, List, [], ◌∷◌, slice_index, refl, arith, eqb}
use Rattle.std.proofs.lemmas.Bool.{eqb-true}
use Rattle.pdn_text.specs.Bytes.{is_skipped}
use Rattle.std.specs.Char.{is_ascii_digit}
use Rattle.pdn_text.specs.Forms.{form_of}
use Rattle.pdn_text.specs.Grammar.{word_len}
use Rattle.pdn_text.specs.declared.form.Form.{Form}
use Rattle.pdn_text.specs.declared.form.Form.TheVariants as form

-- the first test that holds, in the order of `form_of`
abbrev pub picked : Bool → Bool → Bool → Bool → Bool → Bool → Bool → Bool → Bool → Form
picked percent semicolon blank brace parenthesis annotation bracket star digit =
    cond percent form.Line (cond semicolon form.Line (cond blank form.Blank (cond brace form.Comment (cond parenthesis form.Variation
    (cond annotation form.Annotation (cond bracket form.Tag (cond star form.Star (cond digit form.Word form.Nothing))))))))

-- the test that a form goes back to
abbrev pub Passed : Form → Bool → Bool → Bool → Type 0
Passed form.Variation parenthesis bracket digit = parenthesis ≡ true
Passed form.Tag parenthesis bracket digit = bracket ≡ true
Passed form.Word parenthesis bracket digit = digit ≡ true
Passed other parenthesis bracket digit = Unit {0}

passed : (a b c d e f g h i : Bool) → Passed (picked a b c d e f g h i) e g i
passed true b c d e f g h i = tt
passed false true c d e f g h i = tt
passed false false true d e f g h i = tt
passed false false false true e f g h i = tt
passed false false false false true f g h i = refl
passed false false false false false true g h i = tt
passed false false false false false false true h i = refl
passed false false false false false false false true i = tt
passed false false false false false false false false true = refl
passed false false false false false false false false false = tt

tested : (start : Bool) (rest : List ℕ) → Passed (form_of start rest) (eqb (slice_index rest 0) 40) (eqb (slice_index rest 0) 91) (is_ascii_digit (slice_index rest 0))
unfolding form_of
tested start rest =
    let b = slice_index rest 0 in
    passed (start && eqb b 37) (eqb b 59) (is_skipped b) (eqb b 123) (eqb b 40) (eqb b 36 && is_ascii_digit (slice_index rest 1)) (eqb b 91) (eqb b 42) (is_ascii_digit b)

-- a variation begins with `(`, a tag with `[`, a word with a digit
pub begins_variation : (start : Bool) (rest : List ℕ) → form_of start rest ≡ form.Variation → slice_index rest 0 ≡ 40
begins_variation start rest e = eqb-true (slice_index rest 0) 40 (rw e at (tested start rest))

pub begins_tag : (start : Bool) (rest : List ℕ) → form_of start rest ≡ form.Tag → slice_index rest 0 ≡ 91
begins_tag start rest e = eqb-true (slice_index rest 0) 91 (rw e at (tested start rest))

pub begins_word : (start : Bool) (rest : List ℕ) → form_of start rest ≡ form.Word → is_ascii_digit (slice_index rest 0) ≡ true
begins_word start rest e = rw e at (tested start rest)

-- a word has a byte
pub word_has_byte : (start : Bool) (rest : List ℕ) → form_of start rest ≡ form.Word → 0 < word_len rest
word_has_byte start [] e = let none : is_ascii_digit 0 ≡ true = begins_word start [] e in cc
word_has_byte start (b ∷ rest) e = let digit : is_ascii_digit b ≡ true = begins_word start (b ∷ rest) e in rw digit (omega arith)
