-- Roots found by their positions.
use Rattle.std.proofs.Common.{◌≡◌, ◌<◌, ℕ, inl, inr, Bool, true, false, List, get_or, length, cond, Option, Some, None, is_some, refl, sym, ap, ◌∙◌, ◌↔◌, arith}
use Rattle.std.specs.Prelude.{Contains, IsNone, nat_lt, slice_get, position}
use Rattle.std.specs.List.{list_any, position_or_len}
use Rattle.std.specs.Map.{keys_of}
use Rattle.std.proofs.lemmas.Bool.{cases_Bool, false≢true}
use Rattle.std.proofs.lemmas.Bool.Decides.{nat_tests}
use Rattle.std.proofs.lemmas.List.Quantifiers.{position-Some}
use Rattle.std.proofs.lemmas.Map.Views.{list_any-from_Contains}
use Rattle.std.proofs.lemmas.Option.{slice_get-get_or}
use Rattle.draughts_board.specs.Board.{Board, same_board}
use Rattle.draughts_board.specs.Same.{same_board-equivalence}
use Rattle.position_rows.proofs.ApartLemmas.{any_found, any_row, as_many, row_found, row_inside}
use Rattle.proof_tree.proofs.SoundForests.{none_any, equal_boards}

pub found-there : (p : Board) (ps : List Board) (i : ℕ) → position (same_board p) ps ≡ Some i → slice_get ps i ≡ Some p
found-there p ps i e =
    let h = position-Some (same_board p) ps i p e in
    slice_get-get_or ps i p h.0 ∙ ap Some (sym (equal_boards p (get_or ps i p) h.1))

-- a place that is found is one of the list's
pub place-inside : (p : Board) (es : List (Board × ℕ)) (i : ℕ) → Some i ≡ position (same_board p) (keys_of es) → i < length es
place-inside p es i e = row_inside es i p (row_found es i p (sym e))

module _ (p : Board) (es : List (Board × ℕ)) where
  first : ℕ
  first = position_or_len (same_board p) (keys_of es)

  place_there : list_any (same_board p) (keys_of es) ≡ true → is_some (position (same_board p) (keys_of es)) ≡ true
  unfolding first
  place_there any =
      let inside : first < length es = row_inside es first p (any_row es p any) in
      let many : length (keys_of es) ≡ length es = as_many es in
      let below : nat_lt first (length (keys_of es)) ≡ true = grind (arith, nat_tests) in
      ap (λ (b : Bool). is_some (cond b (Some first) None)) below

  place_absent : list_any (same_board p) (keys_of es) ≡ false → is_some (position (same_board p) (keys_of es)) ≡ false
  place_absent none = by (position (same_board p) (keys_of es)) refl where
    by : (o : Option ℕ) → position (same_board p) (keys_of es) ≡ o → is_some o ≡ false
    by None e = refl
    by (Some i) e = absurd (false≢true (sym none ∙ any_found es i p (row_found es i p e)))

  place_tells : is_some (position (same_board p) (keys_of es)) ≡ list_any (same_board p) (keys_of es)
  place_tells =
      elim (cases_Bool (list_any (same_board p) (keys_of es))) [
        | inl any ↦ place_there any ∙ sym any
        | inr none ↦ place_absent none ∙ sym none
      ]

-- a look-up gives none exactly where no key is the position
pub none-iff : (p : Board) (es : List (Board × ℕ)) (o : Option ℕ) → o ≡ position (same_board p) (keys_of es) → IsNone o ↔ (¬ Contains (keys_of es) p)
none-iff p es o e =
    let found : is_some o ≡ list_any (same_board p) (keys_of es) = ap is_some e ∙ place_tells p es in (
      λ none there. some_none o none (found ∙ list_any-from_Contains same_board-equivalence p (keys_of es) there),
      λ absent. none_from o (found ∙ none_any (keys_of es) p absent),
    ) where
      some_none : (o : Option ℕ) → IsNone o → is_some o ≡ true → ⊥
      some_none None n s = false≢true s
      some_none (Some k) n s = false≢true (sym n)

      none_from : (o : Option ℕ) → is_some o ≡ false → IsNone o
      none_from None s = refl
      none_from (Some k) s = absurd (false≢true (sym s))
