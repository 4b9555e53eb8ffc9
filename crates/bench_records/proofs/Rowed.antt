-- Positions that stand in rows.
use Rattle.std.proofs.Common.{◌≡◌, ℕ, ◌<◌, ◌≤◌, Bool, true, false, List, [], ◌∷◌, ◌++◌, length, sym, ◌∙◌, ap, subst, arith, Some, None, cond, not, take, inl, inr}
use Rattle.std.specs.Prelude.{◌||◌, All, nat_lt, position, is_some}
use Rattle.std.specs.List.{list_any, position_or_len}
use Rattle.std.proofs.lemmas.Bool.{cases_Bool}
use Rattle.std.proofs.lemmas.Bool.Decides.{nat_tests}
use Rattle.std.proofs.lemmas.List.{length-take, map_push, take-map}
use Rattle.std.proofs.lemmas.List.Elements.{All-take}
use Rattle.std.proofs.lemmas.List.Folds.{list_any-append}
use Rattle.std.proofs.lemmas.List.Quantifiers.{position-Some}
use Rattle.std.proofs.lemmas.Option.{slice_get_within}
use Rattle.draughts_board.specs.Board.{Board, IsLawful, same_board}
use Rattle.position_rows.specs.Rows.{AreApart, positions_of}
use Rattle.bench_records.specs.Names.{IsNamed, with_name}
use Rattle.bench_records.proofs.Numbering.{number_new, number_there}

-- ---- whether a position is found, and at which place

module _ (named : List Board) (p : Board) where
  inside_there : list_any (same_board p) named ≡ true → position_or_len (same_board p) named < length named
  inside_there some = slice_get_within named (position_or_len (same_board p) named) p (number_there named p some)

  tells_some : list_any (same_board p) named ≡ true → is_some (position (same_board p) named) ≡ true
  tells_some some =
      let inside : position_or_len (same_board p) named < length named = inside_there some in
      let below : nat_lt (position_or_len (same_board p) named) (length named) ≡ true = grind (arith, nat_tests) in
      ap (λ (b : Bool). is_some (cond b (Some (position_or_len (same_board p) named)) None)) below

  tells_none : list_any (same_board p) named ≡ false → is_some (position (same_board p) named) ≡ false
  tells_none none =
      let past : position_or_len (same_board p) named ≡ length named = number_new named p none in
      let below : nat_lt (position_or_len (same_board p) named) (length named) ≡ false = grind (arith, nat_tests) in
      ap (λ (b : Bool). is_some (cond b (Some (position_or_len (same_board p) named)) None)) below

  pub tells_there : is_some (position (same_board p) named) ≡ list_any (same_board p) named
  tells_there =
      elim (cases_Bool (list_any (same_board p) named)) [ inl some ↦ tells_some some ∙ sym some | inr none ↦ tells_none none ∙ sym none ]

  pub place_bound : position_or_len (same_board p) named ≤ length named
  place_bound =
      elim (cases_Bool (list_any (same_board p) named)) [
        | inl some ↦ (let inside = inside_there some in omega (arith, inside))
        | inr none ↦ (let past = number_new named p none in omega (arith, past))
      ]

  -- a place that is found is one of the list's
  pub place_inside : (n : ℕ) → Some n ≡ position (same_board p) named → n < length named
  place_inside n at = (position-Some (same_board p) named n p (sym at)).0

-- where neither list has a position, both have none
pub none_of_both : (xs ys : List Board) (p : Board) → list_any (same_board p) xs ≡ false → list_any (same_board p) ys ≡ false → list_any (same_board p) (xs ++ ys) ≡ false
none_of_both xs ys p first second = list_any-append (same_board p) xs ys ∙ (ap (λ b. b || list_any (same_board p) ys) first ∙ second)

-- ---- the positions of rows that change

module _ {E : Type 0} (old new : List (Board × E)) where
  -- after one more was noted
  pub names_noted : (p : Board) (e : E) (b : Bool) → b ≡ not (list_any (same_board p) (positions_of old)) → new ≡ cond b (old ++ (p, e) ∷ []) old
      → positions_of new ≡ with_name (positions_of old) p
  names_noted p e b is rows =
      elim (cases_Bool (list_any (same_board p) (positions_of old))) [
        | inl some ↦ (
            let same : new ≡ old = rows ∙ ap (λ (c : Bool). cond c (old ++ (p, e) ∷ []) old) (is ∙ ap not some) in
            ap (λ (rows : List (Board × E)). positions_of rows) same
            ∙ sym (ap (λ (c : Bool). cond c (positions_of old) (positions_of old ++ p ∷ [])) some))
        | inr none ↦ (
            let more : new ≡ old ++ (p, e) ∷ [] = rows ∙ ap (λ (c : Bool). cond c (old ++ (p, e) ∷ []) old) (is ∙ ap not none) in
            (ap (λ (rows : List (Board × E)). positions_of rows) more ∙ map_push (λ (row : Board × E). row.0) old (p, e))
            ∙ sym (ap (λ (c : Bool). cond c (positions_of old) (positions_of old ++ p ∷ [])) none))
      ]

  -- where only the first ones are kept
  pub names_taken : (n : ℕ) → new ≡ take n old → positions_of new ≡ take n (positions_of old)
  names_taken n taken =
      ap (λ (rows : List (Board × E)). positions_of rows) taken ∙ sym (take-map (λ (row : Board × E). row.0) n old)

  pub named_taken : (n : ℕ) → IsNamed (positions_of old) → new ≡ take n old → AreApart new → IsNamed (positions_of new)
  named_taken n named taken apart =
      let names : positions_of new ≡ take n (positions_of old) = names_taken n taken in
      let long : length (positions_of new) ≡ length (take n (positions_of old)) = ap length names in
      record {
        distinct = apart;
        lawful = subst (All IsLawful) (sym names) (All-take IsLawful n (positions_of old) named.lawful);
        few = omega (arith, long, length-take n (positions_of old), named.few);
      }
