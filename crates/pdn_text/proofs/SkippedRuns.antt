-- Bytes that are items by themselves and say nothing, one behind the other.
use Rattle.std.proofs.Common.{inl, inr, ◌≡◌, ◌∙◌, ℕ, suc, ◌+◌, ◌<◌, ◌≤◌, Bool, true, false, cond, not, ◌&&◌, ◌||◌, List, [], ◌∷◌, length, drop, slice_index, refl, sym, ap, subst, arith, eqb, length-drop}
use Rattle.std.specs.Prelude.{nat_le}
use Rattle.std.specs.List.{position_or_len}
use Rattle.std.proofs.lemmas.Bool.{eqb-true, or_cases}
use Rattle.std.proofs.lemmas.List.{drop-drop}
use Rattle.std.specs.Char.{is_ascii_digit}
use Rattle.pdn_text.specs.Bytes.{is_skipped}
use Rattle.pdn_text.specs.Forms.{form_of}
use Rattle.pdn_text.specs.Grammar.{IsItemOfText, begins_line, form_at}
use Rattle.pdn_text.specs.Signs.{skipped}
use Rattle.pdn_text.specs.declared.form.Form.TheVariants as form
use Rattle.pdn_text.proofs.FormChoice.{picked}

-- such a byte begins no comment up to the end of the line, and no word
abbrev pub IsQuiet : ℕ → Type 0
IsQuiet b = (eqb b 37 ≡ false) × (eqb b 59 ≡ false) × ((nat_le 48 b && nat_le b 57) ≡ false)

quiet_code : (b c : ℕ) → eqb b c ≡ true → IsQuiet c → IsQuiet b
quiet_code b c e h = subst IsQuiet (sym (eqb-true b c e)) h

pub quiet : (b : ℕ) → is_skipped b ≡ true → IsQuiet b
quiet b e =
    elim (or_cases (eqb b 32 || eqb b 9 || eqb b 13 || eqb b 10 || eqb b 46 || eqb b 33) (eqb b 63) e) [
      | inr h ↦ quiet_code b 63 h (refl, refl, refl)
      | inl e ↦ elim (or_cases (eqb b 32 || eqb b 9 || eqb b 13 || eqb b 10 || eqb b 46) (eqb b 33) e) [
        | inr h ↦ quiet_code b 33 h (refl, refl, refl)
        | inl e ↦ elim (or_cases (eqb b 32 || eqb b 9 || eqb b 13 || eqb b 10) (eqb b 46) e) [
          | inr h ↦ quiet_code b 46 h (refl, refl, refl)
          | inl e ↦ elim (or_cases (eqb b 32 || eqb b 9 || eqb b 13) (eqb b 10) e) [
            | inr h ↦ quiet_code b 10 h (refl, refl, refl)
            | inl e ↦ elim (or_cases (eqb b 32 || eqb b 9) (eqb b 13) e) [
              | inr h ↦ quiet_code b 13 h (refl, refl, refl)
              | inl e ↦ elim (or_cases (eqb b 32) (eqb b 9) e) [
                | inr h ↦ quiet_code b 9 h (refl, refl, refl)
                | inl h ↦ quiet_code b 32 h (refl, refl, refl)
              ]
            ]
          ]
        ]
      ]
    ]

blank_picked : (start d e f g h i : Bool) → picked (start && false) false true d e f g h i ≡ form.Blank
blank_picked true d e f g h i = refl
blank_picked false d e f g h i = refl

pub blank_form : (start : Bool) (b : ℕ) (rest : List ℕ) → is_skipped b ≡ true → form_of start (b ∷ rest) ≡ form.Blank
unfolding form_of
blank_form start b rest e =
    let q = quiet b e in
    let annotation = eqb b 36 && is_ascii_digit (slice_index (b ∷ rest) 1) in
    (λ k. picked (start && q.0 k) (q.1 k) (e k) (eqb b 123) (eqb b 40) annotation (eqb b 91) (eqb b 42) (is_ascii_digit b))
    ∙ blank_picked start (eqb b 123) (eqb b 40) annotation (eqb b 91) (eqb b 42) (is_ascii_digit b)

-- it is an item of one byte
pub blank_item : (text : List ℕ) (at b : ℕ) (rest : List ℕ) → drop at text ≡ b ∷ rest → is_skipped b ≡ true
    → IsItemOfText (form_at text at) at (drop at text) (skipped (at + 1))
blank_item text at b rest here e =
    let blank : form_at text at ≡ form.Blank = ap (form_of (begins_line text at)) here ∙ blank_form (begins_line text at) b rest e in
    subst (λ f. IsItemOfText f at (drop at text) (skipped (at + 1))) (sym blank) refl

-- What one such byte keeps, a run of them keeps.
pub along_run : (text : List ℕ) (P : ℕ → Type 0)
    → ((at b : ℕ) (rest : List ℕ) → drop at text ≡ b ∷ rest → is_skipped b ≡ true → P at → P (at + 1))
    → (at : ℕ) (rest : List ℕ) → drop at text ≡ rest → P at → P (at + position_or_len (λ b. not (is_skipped b)) rest)
along_run text P step at [] here h = subst P (omega arith) h
along_run text P step at (b ∷ rest) here h =
    by (is_skipped b) refl (λ one behind. along_run text P step (at + 1) rest behind one)
  where
    by : (s : Bool) → is_skipped b ≡ s → (P (at + 1) → drop (at + 1) text ≡ rest → P (at + 1 + position_or_len (λ x. not (is_skipped x)) rest))
        → P (at + position_or_len (λ x. not (is_skipped x)) (b ∷ rest))
    by true e further =
        let behind : drop (at + 1) text ≡ rest = sym (drop-drop 1 at text) ∙ ap (drop 1) here in
        let one : position_or_len (λ x. not (is_skipped x)) (b ∷ rest) ≡ 1 + position_or_len (λ x. not (is_skipped x)) rest = rw e refl in
        subst P (omega (arith, one)) (further (step at b rest here e h) behind)
    by false e further =
        let none : position_or_len (λ x. not (is_skipped x)) (b ∷ rest) ≡ 0 = rw e refl in
        subst P (omega (arith, none)) h

-- such a byte stands inside of the text
pub one_inside : (text : List ℕ) (at b : ℕ) (rest : List ℕ) → drop at text ≡ b ∷ rest → at + 1 ≤ length text
one_inside text at b rest here = let long : length (drop at text) ≡ suc (length rest) = ap length here in omega (arith, long, length-drop at text)
