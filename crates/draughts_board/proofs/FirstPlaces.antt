-- The boards at their first places, with one more board.
use Rattle.std.proofs.Common.{◌≡◌, ℕ, ◌+◌, ◌<◌, Bool, true, false, cond, not, ◌||◌, List, [], ◌∷◌, ◌++◌, length, get_or, take, refl, sym, ◌∙◌, ap, inl, inr}
use Rattle.std.proofs.lemmas.List.{take_more, map-append}
use Rattle.std.specs.Prelude.{filter, map}
use Rattle.std.specs.List.{list_any}
use Rattle.std.proofs.lemmas.Bool.{cases_Bool}
use Rattle.std.proofs.lemmas.List.Elements.{filter-append}
use Rattle.draughts_board.specs.Board.{Board, same_board}
use Rattle.draughts_board.specs.Same.{same_board-Decides}
use Rattle.draughts_board.specs.Rules.{first_places}

-- the boards that are not p
others : Board → List Board → List Board
others p ps = filter (λ q. not (same_board p q)) ps

-- taking out one board does not hide another
any-others : (p q : Board) (ps : List Board) → same_board p q ≡ false → list_any (λ y. same_board y q) (others p ps) ≡ list_any (λ y. same_board y q) ps
unfolding others
any-others p q [] h = refl
any-others p q (y ∷ ps) h = elim (cases_Bool (same_board p y)) [
  | inl e ↦
      let same : p ≡ y = (same_board-Decides p y).0 e in
      let off : same_board y q ≡ false = ap (λ b. same_board b q) (sym same) ∙ h in
      ap (λ b. list_any (λ z. same_board z q) (cond (not b) (y ∷ others p ps) (others p ps))) e
      ∙ any-others p q ps h
      ∙ ap (λ b. b || list_any (λ z. same_board z q) ps) (sym off)
  | inr e ↦
      ap (λ b. list_any (λ z. same_board z q) (cond (not b) (y ∷ others p ps) (others p ps))) e
      ∙ ap (λ b. same_board y q || b) (any-others p q ps h)
]

others-one : (p q : Board) (b : Bool) → others p (cond b [] (q ∷ [])) ≡ cond (same_board p q || b) [] (q ∷ [])
unfolding others
others-one p q true = elim (cases_Bool (same_board p q)) [ inl e ↦ ap (λ b. cond (b || true) [] (q ∷ [])) (sym e) | inr e ↦ ap (λ b. cond (b || true) [] (q ∷ [])) (sym e) ]
others-one p q false = elim (cases_Bool (same_board p q)) [
  | inl e ↦ ap (λ b. cond (not b) (q ∷ []) []) e ∙ ap (λ b. cond (b || false) [] (q ∷ [])) (sym e)
  | inr e ↦ ap (λ b. cond (not b) (q ∷ []) []) e ∙ ap (λ b. cond (b || false) [] (q ∷ [])) (sym e)
]

-- whether the board stands there already is not changed by taking out another
seen : (p q : Board) (ps : List Board) → (same_board p q || list_any (λ y. same_board y q) ps) ≡ (same_board p q || list_any (λ y. same_board y q) (others p ps))
seen p q ps = elim (cases_Bool (same_board p q)) [
  | inl e ↦ ap (λ b. b || list_any (λ y. same_board y q) ps) e ∙ ap (λ b. b || list_any (λ y. same_board y q) (others p ps)) (sym e)
  | inr e ↦ ap (λ b. same_board p q || b) (sym (any-others p q ps e))
]

-- one more board is kept where it is not there yet
pub first_places-push : (ps : List Board) (q : Board) → first_places (ps ++ q ∷ []) ≡ first_places ps ++ cond (list_any (λ y. same_board y q) (first_places ps)) [] (q ∷ [])
unfolding others
first_places-push [] q = refl
first_places-push (p ∷ ps) q =
    let there : Bool = list_any (λ y. same_board y q) (first_places ps) in
    ap (λ l. p ∷ others p l) (first_places-push ps q)
    ∙ ap (λ l. p ∷ l) (filter-append (λ y. not (same_board p y)) (first_places ps) (cond there [] (q ∷ [])))
    ∙ ap (λ l. p ∷ others p (first_places ps) ++ l) (others-one p q there ∙ ap (λ b. cond b [] (q ∷ [])) (seen p q (first_places ps)))

-- one turn of a loop that keeps each board at its first place
pub first_places-turn : (f : List ℕ → Board) (seen_before now : List Board) (paths : List (List ℕ)) (i : ℕ) (path : List ℕ) → i < length paths → path ≡ get_or paths i path
    → seen_before ≡ first_places (map f (take i paths)) → now ≡ seen_before ++ cond (list_any (λ y. same_board y (f path)) seen_before) [] (f path ∷ [])
    → now ≡ first_places (map f (take (i + 1) paths))
first_places-turn f seen_before now paths i path l at before more =
    more
    ∙ ap (λ bs. bs ++ cond (list_any (λ y. same_board y (f path)) bs) [] (f path ∷ [])) before
    ∙ sym (first_places-push (map f (take i paths)) (f path))
    ∙ ap first_places (sym (map-append f (take i paths) (path ∷ [])))
    ∙ ap (λ ps. first_places (map f ps)) (ap (λ q. take i paths ++ q ∷ []) at ∙ sym (take_more paths i path l))
