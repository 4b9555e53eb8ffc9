-- A FEN to which a byte is appended.
use Rattle.std.proofs.Common.{◌≡◌, ◌∙◌, ℕ, ◌+◌, Bool, true, false, cond, count_by, List, [], ◌∷◌, ◌++◌, ap, append_assoc, arith, refl, sym}
use Rattle.std.specs.Prelude.{◌&&◌}
use Rattle.std.specs.List.{list_all}
use Rattle.std.proofs.lemmas.Bool.Decides.{nat_tests}
use Rattle.std.proofs.lemmas.List.Folds.{list_all-append}
use Rattle.std.proofs.lemmas.List.Sums.{sum_by-append}
use Rattle.archive_words.specs.Fens.{capital, cleaned_from, colons_with, ends_before, is_clean, is_colon, is_left_out, wants_comma, with_comma}

capital_is_clean : (b : ℕ) → is_left_out b ≡ false → is_clean (capital b) ≡ true
capital_is_clean b kept = grind (arith, nat_tests)

capital-colon : (b : ℕ) → is_colon (capital b) ≡ is_colon b
capital-colon b = grind (arith, nat_tests)

-- what is appended
abbrev appended : Bool → ℕ → List ℕ
appended comma b = cond comma (44 ∷ []) [] ++ capital b ∷ []

appended_is_clean : (comma : Bool) (b : ℕ) → is_left_out b ≡ false → list_all is_clean (appended comma b) ≡ true
appended_is_clean true b kept = rw (capital_is_clean b kept)
appended_is_clean false b kept = rw (capital_is_clean b kept)

appended_colons : (comma : Bool) (b : ℕ) → count_by is_colon (appended comma b) ≡ cond (is_colon b) 1 0
appended_colons true b = rw (capital-colon b) (omega arith)
appended_colons false b = rw (capital-colon b) (omega arith)

-- all bytes are clean
pub clean_more : (old new : List ℕ) (comma : Bool) (b : ℕ) → new ≡ old ++ (cond comma (44 ∷ []) [] ++ capital b ∷ []) → is_left_out b ≡ false → list_all is_clean old ≡ true → list_all is_clean new ≡ true
clean_more old new comma b is kept clean =
    ap (list_all is_clean) is ∙ list_all-append is_clean old (appended comma b)
    ∙ ap (λ v. v && list_all is_clean (appended comma b)) clean
    ∙ appended_is_clean comma b kept

-- a colon more, or none
pub colons_more : (old new : List ℕ) (comma : Bool) (b : ℕ) → new ≡ old ++ (cond comma (44 ∷ []) [] ++ capital b ∷ []) → count_by is_colon new ≡ count_by is_colon old + cond (is_colon b) 1 0
colons_more old new comma b is =
    ap (count_by is_colon) is ∙ sum_by-append (λ x. cond (is_colon x) 1 0) old (appended comma b)
    ∙ ap (λ n. count_by is_colon old + n) (appended_colons comma b)

-- what is made of a byte that is kept, and of those behind it
step : (last colons b : ℕ) (behind : Bool) (rest : List ℕ) → is_left_out b ≡ false → ends_before b colons ≡ false
    → cleaned_from last behind colons (b ∷ rest) ≡ with_comma (behind && wants_comma last b) b ++ cleaned_from b false (colons_with b colons) rest
step last colons b behind rest kept goes_on = rw kept (rw goes_on refl)

-- the text so far, and what is made of the bytes that are left
pub value_more : (old new all left rest : List ℕ) (last colons b : ℕ) (behind : Bool) → left ≡ b ∷ rest
    → is_left_out b ≡ false → ends_before b colons ≡ false → new ≡ old ++ with_comma (behind && wants_comma last b) b
    → old ++ cleaned_from last behind colons left ≡ all → new ++ cleaned_from b false (colons_with b colons) rest ≡ all
value_more old new all left rest last colons b behind is kept goes_on pushed so_far =
    let more : List ℕ = with_comma (behind && wants_comma last b) b in
    let after : List ℕ = cleaned_from b false (colons_with b colons) rest in
    ap (λ (text : List ℕ). text ++ after) pushed ∙ append_assoc old more after
    ∙ ap (λ (text : List ℕ). old ++ text) (sym (ap (cleaned_from last behind colons) is ∙ step last colons b behind rest kept goes_on))
    ∙ so_far
