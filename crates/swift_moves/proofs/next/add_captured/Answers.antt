use Rattle.std.proofs.Common.{◌≡◌, ◌∙◌, ◌++◌, List, ℕ, map, ap, subst}
use Rattle.std.specs.Prelude.{Contains}
use Rattle.draughts_board.specs.Board.{Board}
use Rattle.draughts_board.specs.Rules.{after, first_places}
use Rattle.draughts_board.specs.Play.{captures, legal_paths}
use Rattle.draughts_board.proofs.Turns.{if_ok_map}
use Rattle.swift_moves.proofs.LegalLists.{captures-legal, legal_of, successors-of_captures}
use Rattle.swift_moves.proofs.next.add_captured.Goals as goal

pub add_distinct-requires : goal.add_distinct-requires
add_distinct-requires c =
    let p : Board = c.args.p.now in
    let found : List (List ℕ) = c.add_captures.new.found.items in
    let all : found ≡ legal_paths p = captures-legal p c.new-moves.result.items found c.new-moves.ensures.items c.requires.jump c.in_ok-add_captures.ensures in
    record {
      legal = λ path h. legal_of p found c.requires.lawful all path (subst (λ (l : List (List ℕ)). Contains l path) c.deref.ensures.value h);
      empty = c.requires.empty;
    }

pub returns : goal.returns
returns c =
    let p : Board = c.args.p.now in
    let all : c.deref.result.now ≡ captures p = c.deref.ensures.value ∙ c.in_ok-add_captures.ensures ∙ ap (λ (l : List (List ℕ)). l ++ captures p) c.new-moves.ensures.items in
    if_ok_map _ _ c.add_distinct.result (λ _ e. e ∙ ap (λ (l : List (List ℕ)). first_places (map (after p) l)) all ∙ successors-of_captures p c.requires.jump) c.add_distinct.ensures
