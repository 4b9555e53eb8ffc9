-- Games whose openings stand at a position, and one opening more.
use Rattle.std.proofs.Common.{◌≡◌, ◌<◌, ◌+◌, ℕ, List, [], ◌∷◌, ◌++◌, refl, ◌∙◌, ap, subst, length, take, map, if◌then◌else◌}
use Rattle.std.specs.Prelude.{Bool, true, false, filter, get_or}
use Rattle.std.proofs.lemmas.List.{map-append}
use Rattle.std.proofs.lemmas.List.Elements.{filter_more}
use Rattle.draughts_board.specs.Board.{Board, same_board}
use Rattle.pdn_openings.specs.declared.opening.Opening.{Opening}
use Rattle.opened_games.specs.Opened.{games_at, number_if}

numbers_if : (b : Bool) (o : Opening) → map (λ (x : Opening). x.game) (if b then o ∷ [] else []) ≡ (if b then o.game ∷ [] else [])
numbers_if true o = refl
numbers_if false o = refl

pub games_more : (openings : List Opening) (i : ℕ) (o : Opening) (p : Board) → i < length openings → o ≡ get_or openings i o
    → games_at (take (i + 1) openings) p ≡ games_at (take i openings) p ++ number_if o p
games_more openings i o p within is =
    let test : Opening → Bool = λ (x : Opening). same_board x.position p in
    ap (map (λ (x : Opening). x.game)) (filter_more test openings i o within)
    ∙ map-append (λ (x : Opening). x.game) (filter test (take i openings)) (if test (get_or openings i o) then get_or openings i o ∷ [] else [])
    ∙ ap (λ (x : List ℕ). map (λ (y : Opening). y.game) (filter test (take i openings)) ++ x)
    (subst (λ (x : Opening). map (λ (y : Opening). y.game) (if test x then x ∷ [] else []) ≡ number_if o p) is (numbers_if (test o) o))
