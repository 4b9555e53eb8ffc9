-- The roots: the distinct positions of the openings.
use Rattle.std.proofs.Common.{◌≡◌, ℕ, ◌+◌, ◌<◌, Bool, true, false, cond, ◌||◌, List, [], ◌∷◌, ◌++◌, refl, sym, ◌∙◌, ap, length, get_or, take}
use Rattle.std.specs.Prelude.{Contains}
use Rattle.std.specs.Cmp.{both_ways}
use Rattle.std.specs.List.{list_any}
use Rattle.std.proofs.lemmas.List.{append-nil, take_more, map-append}
use Rattle.distinct_positions.specs.Distinct.{with_position}
use Rattle.draughts_board.specs.Board.{Board, same_board}
use Rattle.draughts_board.specs.Same.{same_board-Decides}
use Rattle.draughts_board.specs.Rules.{first_places}
use Rattle.draughts_board.proofs.Members.{Contains-map}
use Rattle.draughts_board.proofs.Successors.{Contains-first_places}
use Rattle.draughts_board.proofs.FirstPlaces.{first_places-push}
use Rattle.pdn_openings.specs.declared.opening.Opening.{Opening}
use Rattle.bench_commands.specs.Solving.{opening_positions, roots_of_openings}

-- ---- distinct positions

-- one opening more
pub first_places_more : (seen now : List Board) (openings : List Opening) (i : ℕ) (o : Opening) → i < length openings → o ≡ get_or openings i o
    → seen ≡ roots_of_openings (take i openings) → now ≡ seen ++ cond (list_any (λ y. same_board y o.position) seen) [] (o.position ∷ [])
    → now ≡ roots_of_openings (take (i + 1) openings)
first_places_more seen now openings i o l at before more =
    more
    ∙ ap (λ bs. bs ++ cond (list_any (λ y. same_board y o.position) bs) [] (o.position ∷ [])) before
    ∙ sym (first_places-push (opening_positions (take i openings)) o.position)
    ∙ ap first_places (sym (map-append (λ (x : Opening). x.position) (take i openings) (o ∷ [])))
    ∙ ap roots_of_openings (ap (λ q. take i openings ++ q ∷ []) at ∙ sym (take_more openings i o l))

-- the same as a position that is added
pub first_places_added : (seen now : List Board) (openings : List Opening) (i : ℕ) (o : Opening) → i < length openings → o ≡ get_or openings i o
    → seen ≡ roots_of_openings (take i openings) → now ≡ with_position seen o.position
    → now ≡ roots_of_openings (take (i + 1) openings)
first_places_added seen now openings i o l at before more =
    first_places_more seen now openings i o l at before (more ∙ inserted seen o.position)
  where
    turned : (p q : Board) → same_board p q ≡ same_board q p
    turned p q = both_ways (same_board p q) (same_board q p)
        (λ t. (same_board-Decides q p).1 (sym ((same_board-Decides p q).0 t)))
        (λ t. (same_board-Decides p q).1 (sym ((same_board-Decides q p).0 t)))

    any : (p : Board) (bs : List Board) → list_any (same_board p) bs ≡ list_any (λ y. same_board y p) bs
    any p [] = refl
    any p (b ∷ bs) = ap (λ t. t || list_any (same_board p) bs) (turned p b) ∙ ap (λ t. same_board b p || t) (any p bs)

    pick : (t : Bool) (bs : List Board) (p : Board) → cond t bs (bs ++ p ∷ []) ≡ bs ++ cond t [] (p ∷ [])
    pick true bs p = sym (append-nil bs)
    pick false bs p = refl

    inserted : (bs : List Board) (p : Board) → with_position bs p ≡ bs ++ cond (list_any (λ y. same_board y p) bs) [] (p ∷ [])
    inserted bs p = ap (λ t. cond t bs (bs ++ p ∷ [])) (any p bs) ∙ pick (list_any (λ y. same_board y p) bs) bs p

-- each opening's position is that of a root
pub opening_root : (openings : List Opening) (o : Opening) → Contains openings o → Contains (roots_of_openings openings) o.position
opening_root openings o h = Contains-first_places (opening_positions openings) o.position (Contains-map (λ (x : Opening). x.position) openings o h)
