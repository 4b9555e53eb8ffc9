-- Words of two short numbers with one separator between.
use Rattle.std.proofs.Common.{◌≡◌, ◌∙◌, ℕ, ◌+◌, ◌*◌, ◌-◌, ◌<◌, ◌≤◌, Bool, true, false, cond, not, ◌&&◌, ◌||◌, List, [], ◌∷◌, map, length, slice_index_or, refl, sym, ap, arith, eqb, Some, None, inl, inr}
use Rattle.std.specs.Cmp.Derive.{both_true}
use Rattle.std.proofs.lemmas.Bool.{eqb-true, or_cases, cases_Bool}
use Rattle.draughts_board.specs.Geometry.{is_square}
use Rattle.std.specs.Char.{is_ascii_digit}
use Rattle.pdn_text.specs.Words.{fields, number, is_number, is_crossed, is_dashed, is_result, IsPair, move_of, move_or_bad, pair_word, separated, word_of}
use Rattle.pdn_text.specs.declared.words.Word.TheVariants.{Result, Number, Move, Bad}
use Rattle.pdn_text.proofs.WordFields.{path_found, path_bad}

-- a separator is no digit
abbrev pub IsSign : ℕ → Type 0
IsSign s = (eqb s 45 || eqb s 120) ≡ true

no_digit : (s : ℕ) → IsSign s → is_ascii_digit s ≡ false
no_digit s e = elim (or_cases (eqb s 45) (eqb s 120) e) [ inl h ↦ ap is_ascii_digit (eqb-true s 45 h) | inr h ↦ ap is_ascii_digit (eqb-true s 120 h) ]

pair_2_1 : (a b s c : ℕ) → is_ascii_digit a ≡ true → is_ascii_digit b ≡ true → IsSign s → is_ascii_digit c ≡ true
    → IsPair (a ∷ b ∷ s ∷ c ∷ []) (10 * (a - 48) + (b - 48)) (c - 48)
pair_2_1 a b s c ea eb es ec =
    let no = no_digit s es in
    record {
      squares = rw ea (rw eb (rw no (rw ec refl)));
      no_number = rw ea (rw eb (rw no refl));
      one_separator = elim (or_cases (eqb s 45) (eqb s 120) es) [
        | inl h ↦ rw (eqb-true s 45 h) (rw ea (rw eb (rw ec refl)))
        | inr h ↦ rw (eqb-true s 120 h) (rw ea (rw eb (rw ec refl)))
      ];
    }

pair_2_2 : (a b s c d : ℕ) → is_ascii_digit a ≡ true → is_ascii_digit b ≡ true → IsSign s → is_ascii_digit c ≡ true → is_ascii_digit d ≡ true
    → IsPair (a ∷ b ∷ s ∷ c ∷ d ∷ []) (10 * (a - 48) + (b - 48)) (10 * (c - 48) + (d - 48))
pair_2_2 a b s c d ea eb es ec ed =
    let no = no_digit s es in
    record {
      squares = rw ea (rw eb (rw no (rw ec (rw ed refl))));
      no_number = rw ea (rw eb (rw no refl));
      one_separator = elim (or_cases (eqb s 45) (eqb s 120) es) [
        | inl h ↦ rw (eqb-true s 45 h) (rw ea (rw eb (rw ec (rw ed refl))))
        | inr h ↦ rw (eqb-true s 120 h) (rw ea (rw eb (rw ec (rw ed refl))))
      ];
    }

two_separated : (word : List ℕ) (first last : ℕ) → (is_crossed word || is_dashed word) ≡ true → separated word (Some (first ∷ last ∷ [])) ≡ Some (first ∷ last ∷ [])
two_separated word first last e = ap (λ b. cond b (Some (first ∷ last ∷ [])) None) e

-- the same by the bytes at their places
pub pair_of_four : (word : List ℕ) → length word ≡ 4 → is_ascii_digit (slice_index_or word 0 0) ≡ true → is_ascii_digit (slice_index_or word 1 0) ≡ true → IsSign (slice_index_or word 2 0)
    → is_ascii_digit (slice_index_or word 3 0) ≡ true → IsPair word (10 * (slice_index_or word 0 0 - 48) + (slice_index_or word 1 0 - 48)) (slice_index_or word 3 0 - 48)
pair_of_four [] n ea eb es ec = absurd (omega arith)
pair_of_four (a ∷ []) n ea eb es ec = absurd (omega arith)
pair_of_four (a ∷ b ∷ []) n ea eb es ec = absurd (omega arith)
pair_of_four (a ∷ b ∷ s ∷ []) n ea eb es ec = absurd (omega arith)
pair_of_four (a ∷ b ∷ s ∷ c ∷ []) n ea eb es ec = pair_2_1 a b s c ea eb es ec
pair_of_four (a ∷ b ∷ s ∷ c ∷ d ∷ more) n ea eb es ec = absurd (omega arith)

pub pair_of_five : (word : List ℕ) → length word ≡ 5 → is_ascii_digit (slice_index_or word 0 0) ≡ true → is_ascii_digit (slice_index_or word 1 0) ≡ true → IsSign (slice_index_or word 2 0)
    → is_ascii_digit (slice_index_or word 3 0) ≡ true → is_ascii_digit (slice_index_or word 4 0) ≡ true
    → IsPair word (10 * (slice_index_or word 0 0 - 48) + (slice_index_or word 1 0 - 48)) (10 * (slice_index_or word 3 0 - 48) + (slice_index_or word 4 0 - 48))
pair_of_five [] n ea eb es ec ed = absurd (omega arith)
pair_of_five (a ∷ []) n ea eb es ec ed = absurd (omega arith)
pair_of_five (a ∷ b ∷ []) n ea eb es ec ed = absurd (omega arith)
pair_of_five (a ∷ b ∷ s ∷ []) n ea eb es ec ed = absurd (omega arith)
pair_of_five (a ∷ b ∷ s ∷ c ∷ []) n ea eb es ec ed = absurd (omega arith)
pair_of_five (a ∷ b ∷ s ∷ c ∷ d ∷ []) n ea eb es ec ed = pair_2_2 a b s c d ea eb es ec ed
pair_of_five (a ∷ b ∷ s ∷ c ∷ d ∷ x ∷ more) n ea eb es ec ed = absurd (omega arith)

-- what such a word is
pair_means : (word : List ℕ) (first last : ℕ) → IsPair word first last → pair_word first last ≡ move_or_bad (move_of word)
unfolding move_of
pair_means word first last h =
    elim (cases_Bool (is_square first)) [
      | inr bad ↦ (λ i. cond (bad i && is_square last) (Move (first ∷ last ∷ [])) Bad) ∙ sym (ap (λ s. move_or_bad (separated word s)) (path_bad word [] first (last ∷ []) h.squares bad))
      | inl one ↦ elim (cases_Bool (is_square last)) [
        | inr bad ↦ (λ i. cond (one i && bad i) (Move (first ∷ last ∷ [])) Bad) ∙ sym (ap (λ s. move_or_bad (separated word s)) (path_bad word (first ∷ []) last [] h.squares bad))
        | inl two ↦
            let found = path_found word (first ∷ last ∷ []) h.squares (both_true one (both_true two refl)) (omega arith) (omega arith) in
            (λ i. cond (one i && two i) (Move (first ∷ last ∷ [])) Bad)
            ∙ sym (ap (λ s. move_or_bad (separated word s)) found ∙ ap move_or_bad (two_separated word first last h.one_separator))
      ]
    ]

pub pair_word_of : (word : List ℕ) (first last : ℕ) → is_result word ≡ false → IsPair word first last → pair_word first last ≡ word_of word
unfolding word_of
pair_word_of word first last none h =
    pair_means word first last h ∙ sym (λ i. cond (none i) Result (cond (h.no_number i) Number (move_or_bad (move_of word))))
