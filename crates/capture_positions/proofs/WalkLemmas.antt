-- Which indices a walk meets, and how its first positions stand among those of more steps.
use Rattle.std.proofs.Common.{◌≡◌, ℕ, ◌+◌, ◌-◌, ◌*◌, ◌%◌, ◌<◌, ◌≤◌, cond, List, [], ◌∷◌, ◌++◌, length, take, drop, map, get_or, ap, sym, ◌∙◌, subst, append_assoc, append-nil, arith}
use Rattle.std.proofs.lemmas.Grind.{common_steps}
use Rattle.std.specs.List.{list_any, range_with_len}
use Rattle.std.proofs.lemmas.List.{take-append-drop, take_more}
use Rattle.std.proofs.lemmas.List.Elements.{Contains-get_or}
use Rattle.std.specs.Prelude.{Contains}
use Rattle.std.proofs.lemmas.List.FromFn.{length-map-range_with_len, take-map-range_with_len, get_or-map-range_with_len}
use Rattle.draughts_board.specs.Board.{Board, same_board}
use Rattle.draughts_board.specs.Rules.{first_places}
use Rattle.draughts_board.proofs.FirstPlaces.{first_places-push}
use Rattle.capture_positions.specs.Walk.{index_of_step, numbered_position, walk}

-- ---- indices

-- the step at which the walk meets the index: 3101 * 101 is one more than a multiple of 4176
abbrev pub step_to : ℕ → ℕ → ℕ
step_to seed i = (i + 4176 - seed * 7919 % 4176) * 3101 % 4176

pub step_within : (seed i : ℕ) → step_to seed i < 4176
step_within seed i = omega arith

pub step_meets : (seed i : ℕ) → i < 4176 → index_of_step seed (step_to seed i) ≡ i
step_meets seed i l = omega arith

pub met_once : (seed k other : ℕ) → k < 4176 → other < 4176 → index_of_step seed k ≡ index_of_step seed other → k ≡ other
met_once seed k other l m same = omega arith

-- ---- positions

-- one step more
pub walk-more : (seed n : ℕ) → walk seed (n + 1) ≡ walk seed n ++ numbered_position (index_of_step seed n) ∷ []
walk-more seed n = go
  where
    f : ℕ → Board
    f k = numbered_position (index_of_step seed k)

    go : map f (range_with_len 0 (n + 1)) ≡ map f (range_with_len 0 n) ++ f n ∷ []
    go =
        let all = map f (range_with_len 0 (n + 1)) in
        let long = length-map-range_with_len f 0 (n + 1) in
        let whole : take (n + 1) all ≡ all = grind (arith, common_steps) in
        sym whole ∙ take_more all n (f n) (omega arith)
        ∙ ap (λ l. l ++ get_or all n (f n) ∷ []) (take-map-range_with_len f 0 (n + 1) n (omega arith))
        ∙ ap (λ p. map f (range_with_len 0 n) ++ p ∷ []) (get_or-map-range_with_len f 0 (n + 1) n n (f n) (omega arith) (omega arith))

-- different positions of more steps begin with those of fewer
pub record Begins (front all : List Board) : Type 0 where
  pub rest : List Board
  pub split : all ≡ front ++ rest

first_places-begins : (ps qs : List Board) → Begins (first_places ps) (first_places (ps ++ qs))
first_places-begins ps [] = record { rest = []; split = ap first_places (append-nil ps) ∙ sym (append-nil (first_places ps)) }
first_places-begins ps (q ∷ qs) =
    let more : List Board = cond (list_any (λ y. same_board y q) (first_places ps)) [] (q ∷ []) in
    let r = first_places-begins (ps ++ q ∷ []) qs in
    record {
      rest = more ++ r.rest;
      split = ap first_places (sym (append_assoc ps (q ∷ []) qs)) ∙ r.split ∙ ap (λ l. l ++ r.rest) (first_places-push ps q) ∙ append_assoc (first_places ps) more r.rest;
    }

pub walk-begins : (seed n : ℕ) → n ≤ 4176 → Begins (first_places (walk seed n)) (first_places (walk seed 4176))
walk-begins seed n l =
    let f : ℕ → Board = λ k. numbered_position (index_of_step seed k) in
    let all = walk seed 4176 in
    let front : take n all ≡ walk seed n = take-map-range_with_len f 0 4176 n l in
    let r = first_places-begins (take n all) (drop n all) in
    record {
      rest = r.rest;
      split = ap first_places (sym (take-append-drop n all)) ∙ r.split ∙ ap (λ ps. first_places ps ++ r.rest) front;
    }

-- each position stands in the walk
pub position-met : (seed i : ℕ) → i < 4176 → Contains (walk seed 4176) (numbered_position i)
position-met seed i l =
    let f : ℕ → Board = λ k. numbered_position (index_of_step seed k) in
    let k = step_to seed i in
    let within = step_within seed i in
    let long : length (walk seed 4176) ≡ 4176 = length-map-range_with_len f 0 4176 in
    let there = Contains-get_or (walk seed 4176) k (f k) (omega (arith, within, long)) in
    let at : get_or (walk seed 4176) k (f k) ≡ f k = get_or-map-range_with_len f 0 4176 k k (f k) within (omega arith) in
    subst (Contains (walk seed 4176)) (at ∙ ap numbered_position (step_meets seed i l)) there
