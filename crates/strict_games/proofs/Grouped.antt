-- One game more in its group, and the text of a group.
use Rattle.std.proofs.Common.{◌≡◌, ◌∙◌, ◌<◌, ◌≤◌, cond, length-append, not, ℕ, zero, suc, Bool, true, false, List, [], ◌∷◌, ◌++◌, Option, Some, None, Result, Ok, Err, IfOk, arith, refl, ap, length, map, get_or, set, slice_get, subst, sym, position}
use Rattle.std.specs.Prelude.{codes, ◌||◌}
use Rattle.std.specs.List.{list_any, zip}
use Rattle.std.proofs.lemmas.Bool.{true≢false}
use Rattle.std.proofs.lemmas.Grind.{common_steps}
use Rattle.std.proofs.lemmas.List.{get_or-map, length-map, map-append}
use Rattle.std.proofs.lemmas.Option.{get_or_from_slice_get, slice_get-get_or, slice_get_past, slice_get_within}
use Rattle.std.proofs.lemmas.List.Quantifiers.{position-Some}
use Rattle.std.proofs.lemmas.Slice.Zip.{get_or-zip, length-zip}
use Rattle.draughts_board.specs.Board.{Board, same_board}
use Rattle.position_rows.specs.Rows.{positions_of}
use Rattle.position_rows.proofs.ApartLemmas.{as_many}
use Rattle.strict_games.specs.Drafts.{Drafted, IsTextOf}
use Rattle.strict_games.specs.Grouping.{Group, grouped_by}
use Rattle.strict_games.specs.Groups.{IsGroupText, Lists}
use Rattle.strict_games.specs.Tags.{cleaned, tag_fault}
use Rattle.strict_games.specs.declared.tags.TagRefusal.{TagRefusal}

-- a position without a group begins one
pub begun : (same : Board → Board → Bool) (groups : List Group) (p : Board) (game : ℕ) → list_any (same p) (map (λ (group : Group). group.0) groups) ≡ false
    → groups ++ (p, game ∷ []) ∷ [] ≡ grouped_by same groups p game
begun same [] p game none = refl
begun same (group ∷ groups) p game none = by (same p group.0) refl (begun same groups p game)
  where
    others : Bool
    others = list_any (same p) (map (λ (group : Group). group.0) groups)

    by : (b : Bool) → same p group.0 ≡ b → (others ≡ false → groups ++ (p, game ∷ []) ∷ [] ≡ grouped_by same groups p game)
        → (group ∷ groups) ++ (p, game ∷ []) ∷ [] ≡ grouped_by same (group ∷ groups) p game
    by true e more = absurd (true≢false (sym (ap (λ (b : Bool). b || others) e) ∙ none))
    by false e more =
        let rest : others ≡ false = sym (ap (λ (b : Bool). b || others) e) ∙ none in
        rw e (ap (λ (gs : List Group). group ∷ gs) (more rest))

-- a search finds the first place if it passes, and else none if it finds none behind it
found : (q : Board → Bool) (p : Board) (ps : List Board) → q p ≡ true → position q (p ∷ ps) ≡ None → ⊥
found q p ps e none = let at : position q (p ∷ ps) ≡ Some 0 = grind (arith, common_steps) in absurd (cc)

none_behind : (q : Board → Bool) (p : Board) (ps : List Board) → q p ≡ false → position q (p ∷ ps) ≡ None → position q ps ≡ None
none_behind q p ps e none = grind (arith, common_steps)

-- no position passes where a search for its place finds none
pub none_passes : (q : Board → Bool) (ps : List Board) → position q ps ≡ None → list_any q ps ≡ false
none_passes q [] none = refl
none_passes q (p ∷ ps) none = by (q p) refl (none_passes q ps)
  where
    by : (b : Bool) → q p ≡ b → (position q ps ≡ None → list_any q ps ≡ false) → list_any q (p ∷ ps) ≡ false
    by true e rest = absurd (found q p ps e none)
    by false e rest = rw e (rest (none_behind q p ps e none))

-- the positions of groups
pub firsts : (ps : List Board) (games : List (List ℕ)) → length games ≡ length ps → map (λ (group : Group). group.0) (zip ps games) ≡ ps
firsts [] games same = refl
firsts (p ∷ ps) [] same = absurd (omega (arith, same))
firsts (p ∷ ps) (g ∷ games) same = ap (λ (qs : List Board). p ∷ qs) (firsts ps games (omega (arith, same)))

-- one group more at the end
pub zip_more : (ps : List Board) (games : List (List ℕ)) (p : Board) (g : List ℕ) → length games ≡ length ps
    → zip (ps ++ p ∷ []) (games ++ g ∷ []) ≡ zip ps games ++ (p, g) ∷ []
zip_more [] [] p g same = refl
zip_more [] (h ∷ games) p g same = absurd (omega (arith, same))
zip_more (q ∷ ps) [] p g same = absurd (omega (arith, same))
zip_more (q ∷ ps) (h ∷ games) p g same = ap (λ (gs : List Group). (q, h) ∷ gs) (zip_more ps games p g (omega (arith, same)))

module _ {V : Type 0} (items : V → List ℕ) where
  -- a game joins the group at the first place with its position
  pub joined : (same : Board → Board → Bool) (p : Board) (game i : ℕ) (ps : List Board) (vs : List V) (v w : V) (d : Board)
      → length vs ≡ length ps → i < length ps → same p (get_or ps i d) ≡ true → ((k : ℕ) → k < i → same p (get_or ps k d) ≡ false)
      → items v ≡ items (get_or vs i w) ++ game ∷ [] → zip ps (map items (set vs i v)) ≡ grouped_by same (zip ps (map items vs)) p game
  joined same p game i [] vs v w d long inside here before more = absurd (omega (arith, inside))
  joined same p game i (q ∷ ps) [] v w d long inside here before more = absurd (omega (arith, long))
  joined same p game zero (q ∷ ps) (u ∷ vs) v w d long inside here before more =
      rw here (ap (λ (games : List ℕ). (q, games) ∷ zip ps (map items vs)) more)
  joined same p game (suc i) (q ∷ ps) (u ∷ vs) v w d long inside here before more =
      let other : same p q ≡ false = before 0 (omega arith) in
      let longs : length vs ≡ length ps = omega (arith, long) in
      let within : i < length ps = omega (arith, inside) in
      rw other (ap (λ (gs : List Group). (q, items u) ∷ gs)
      (joined same p game i ps vs v w d longs within here (λ k lt. before (suc k) (omega (arith, lt))) more))

  -- what stands at a place of the groups
  pub group_at : (ps : List Board) (vs : List V) (i : ℕ) (p : Board) (v : V) → slice_get ps i ≡ Some p → slice_get vs i ≡ Some v
      → slice_get (zip ps (map items vs)) i ≡ Some (p, items v)
  group_at ps vs i p v first second =
      let left : i < length ps = slice_get_within ps i p first in
      let right : i < length vs = slice_get_within vs i v second in
      let lists : length (map items vs) ≡ length vs = length-map vs items in
      let inside : i < length (zip ps (map items vs)) = omega (arith, left, right, lists, length-zip ps (map items vs)) in
      slice_get-get_or (zip ps (map items vs)) i (p, items v) inside
      ∙ ap Some (get_or-zip ps (map items vs) i (p, items v) left (omega (arith, right, lists))
      ∙ (λ k. (
        get_or_from_slice_get ps i p p first k,
        (get_or-map items vs i v (items v) right ∙ ap items (get_or_from_slice_get vs i v v second)) k,
      )))

  -- as many groups as positions
  pub as_many_groups : {E : Type 0} (rows : List (Board × E)) (vs : List V) → length vs ≡ length rows → length vs ≡ length (zip (positions_of rows) (map items vs))
  as_many_groups rows vs long = omega (arith, long, as_many rows, length-map vs items, length-zip (positions_of rows) (map items vs))

-- groups as rows and the lists of their games
module _ {V E : Type 0} (items : V → List ℕ) (rows : List (Board × E)) (vs : List V) (now : List Group)
    (long : length vs ≡ length rows) (is : zip (positions_of rows) (map items vs) ≡ now) where
  as_long : length (map items vs) ≡ length (positions_of rows)
  as_long = length-map vs items ∙ long ∙ sym (as_many rows)

  pub firsts_of : map (λ (group : Group). group.0) now ≡ positions_of rows
  firsts_of = ap (map (λ (group : Group). group.0)) (sym is) ∙ firsts (positions_of rows) (map items vs) as_long

  pub count_of : length vs ≡ length now
  count_of = as_many_groups items rows vs long ∙ ap length is

  -- a position that has no place has no group
  pub none_of : (p : Board) → position (same_board p) (positions_of rows) ≡ None → list_any (same_board p) (map (λ (group : Group). group.0) now) ≡ false
  none_of p none = ap (list_any (same_board p)) firsts_of ∙ none_passes (same_board p) (positions_of rows) none

  pub past_of : (i : ℕ) → length vs ≤ i → slice_get now i ≡ None
  past_of i past = slice_get_past now i (omega (arith, past, count_of))

  pub place_of : (i : ℕ) (row : Board × E) (v : V) → slice_get rows i ≡ Some row → slice_get vs i ≡ Some v → slice_get now i ≡ Some (row.0, items v)
  place_of i row v at there =
      let inside : i < length rows = slice_get_within rows i row at in
      let first : get_or (positions_of rows) i row.0 ≡ row.0 =
      get_or-map (λ (r : Board × E). r.0) rows i row row.0 inside ∙ ap (λ (r : Board × E). r.0) (get_or_from_slice_get rows i row row at) in
      let found : slice_get (positions_of rows) i ≡ Some row.0 =
      slice_get-get_or (positions_of rows) i row.0 (omega (arith, inside, as_many rows)) ∙ ap Some first in
      ap (λ (groups : List Group). slice_get groups i) (sym is) ∙ group_at items (positions_of rows) vs i row.0 v found there

  -- a game more in the group at a place
  pub joined_at : (p : Board) (game i : ℕ) (v w : V) → position (same_board p) (positions_of rows) ≡ Some i
      → items v ≡ items (get_or vs i w) ++ game ∷ [] → zip (positions_of rows) (map items (set vs i v)) ≡ grouped_by same_board now p game
  joined_at p game i v w at more =
      let found = position-Some (same_board p) (positions_of rows) i p at in
      joined items same_board p game i (positions_of rows) vs v w p (long ∙ sym (as_many rows)) found.0 found.1 found.2 more
      ∙ ap (λ (groups : List Group). grouped_by same_board groups p game) is

  -- a group more at the end
  module _ (p : Board) (e : E) (game : ℕ) (fresh : Bool) (rows2 : List (Board × E)) (vs2 vs3 : List V) (v : V)
      (none : list_any (same_board p) (map (λ (group : Group). group.0) now) ≡ false)
      (is_fresh : fresh ≡ not (list_any (same_board p) (positions_of rows)))
      (noted : rows2 ≡ cond fresh (rows ++ (p, e) ∷ []) rows) (kept : vs2 ≡ vs) (pushed : vs3 ≡ vs2 ++ v ∷ []) (first : items v ≡ game ∷ []) where
    row_more : rows2 ≡ rows ++ (p, e) ∷ []
    row_more =
        let new : fresh ≡ true = is_fresh ∙ ap not (ap (list_any (same_board p)) (sym firsts_of) ∙ none) in
        noted ∙ ap (λ (b : Bool). cond b (rows ++ (p, e) ∷ []) rows) new

    list_more : vs3 ≡ vs ++ v ∷ []
    list_more = pushed ∙ ap (λ (ws : List V). ws ++ v ∷ []) kept

    pub still_long : length vs3 ≡ length rows2
    still_long = omega (arith, ap length list_more, ap length row_more, length-append vs (v ∷ []), length-append rows ((p, e) ∷ []), long)

    pub group_more : zip (positions_of rows2) (map items vs3) ≡ now ++ (p, game ∷ []) ∷ []
    group_more =
        let positions : positions_of rows2 ≡ positions_of rows ++ p ∷ [] =
        ap positions_of row_more ∙ map-append (λ (r : Board × E). r.0) rows ((p, e) ∷ []) in
        let lists : map items vs3 ≡ map items vs ++ (game ∷ []) ∷ [] =
        ap (map items) list_more ∙ map-append items vs (v ∷ []) ∙ ap (λ (g : List ℕ). map items vs ++ g ∷ []) first in
        ap (λ (ps : List Board). zip ps (map items vs3)) positions
        ∙ ap (λ (games : List (List ℕ)). zip (positions_of rows ++ p ∷ []) games) lists
        ∙ zip_more (positions_of rows) (map items vs) p (game ∷ []) as_long
        ∙ ap (λ (groups : List Group). groups ++ (p, game ∷ []) ∷ []) is

-- the text of the draft that a group makes
pub group_found : {V E : Type 0} (items : V → List ℕ) (r : Result V E) (p : Board) (games list : List ℕ) (draft : Drafted)
    → draft ≡ record { set_up = Some p; tags = record { name = codes "Games"; value = cleaned list } ∷ []; moves = []; here = p } → Lists games list
    → IfOk r (λ v. IsTextOf draft (items v)) → IfOk r (λ v. IsGroupText p games (items v))
group_found items (Ok v) p games list draft is lists text = record {
  list = list;
  lists = lists;
  is_text = subst (λ (d : Drafted). IsTextOf d (items v)) is text;
}
group_found items (Err e) p games list draft is lists text = tt

-- a tag of this name is refused for want of memory alone
pub games_taken : (list : List ℕ) (e : TagRefusal) → tag_fault (codes "Games") list ≡ Some e → ⊥
games_taken list e h = let s : ◌≡◌ {A = Option TagRefusal} None (Some e) = h in absurd (cc)
