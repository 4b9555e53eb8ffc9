-- The successors are what the legal paths leave, and draughts is a game of two players who move in turn.
use Rattle.std.proofs.Common.{◌≡◌, ℕ, ◌≤◌, true, not, List, [], ◌∷◌, length, refl, sym, ap, subst, inl, inr, map}
use Rattle.std.specs.Prelude.{filter, Contains}
use Rattle.std.specs.Cmp.{first_so, second_so}
use Rattle.std.specs.Cmp.Derive.{both_true}
use Rattle.std.proofs.lemmas.Bool.{cases_Bool, not_from_false, leb-true, le-leb, eqb-true, eq-eqb}
use Rattle.draughts_board.specs.declared.pieces.Side.TheVariants.{Black, White}
use Rattle.draughts_board.specs.Board.{Board, IsLawful, is_lawful, same_board, pieces, piece_count}
use Rattle.draughts_board.specs.Same.{same_board-Decides}
use Rattle.draughts_board.specs.Rules.{IsLegal, after, first_places, AreSuccessors}
use Rattle.draughts_board.specs.Play.{legal_paths, successors_of}
use Rattle.draughts_board.specs.Game.{TakesTurns}
use Rattle.draughts_board.specs.Draughts.{draughts}
use Rattle.draughts_board.specs.Laws.{LostWithoutMove}
use Rattle.draughts_board.proofs.Members.{Contains-nil, Contains-cons_cases, Contains-head, Contains-tail, Contains-filter, Contains-from_filter, Contains-map, Contains-from_map}
use Rattle.draughts_board.proofs.Truth.{empty_from_none}
use Rattle.draughts_board.proofs.Legal.{legal_paths_are_legal}
use Rattle.draughts_board.proofs.After.{after_is_lawful, after-fewer}

-- ---- each at its first place

pub Contains-from_first_places : (ps : List Board) (q : Board) → Contains (first_places ps) q → Contains ps q
Contains-from_first_places [] q h = h
Contains-from_first_places (p ∷ ps) q h =
    elim (Contains-cons_cases p (filter (λ r. not (same_board p r)) (first_places ps)) q h) [
      | inl e ↦ subst (Contains (p ∷ ps)) e (Contains-head p ps)
      | inr t ↦ Contains-tail p q ps (Contains-from_first_places ps q (Contains-from_filter (λ r. not (same_board p r)) (first_places ps) q t))
    ]

pub Contains-first_places : (ps : List Board) (q : Board) → Contains ps q → Contains (first_places ps) q
Contains-first_places [] q h = h
Contains-first_places (p ∷ ps) q h =
    elim (Contains-cons_cases p ps q h) [
      | inl e ↦ subst (Contains (first_places (p ∷ ps))) e (Contains-head p (filter (λ r. not (same_board p r)) (first_places ps)))
      | inr t ↦ elim (cases_Bool (same_board p q)) [
        | inl s ↦ subst (Contains (first_places (p ∷ ps))) ((same_board-Decides p q).0 s) (Contains-head p (filter (λ r. not (same_board p r)) (first_places ps)))
        | inr d ↦ Contains-tail p q (filter (λ r. not (same_board p r)) (first_places ps)) (Contains-filter (λ r. not (same_board p r)) (first_places ps) q (Contains-first_places ps q t) (not_from_false _ d))
      ]
    ]

-- ---- successors

-- the function gives the successors
pub successors_are : (p : Board) → IsLawful p → AreSuccessors p (successors_of p)
unfolding successors_of
successors_are p lawful = (legal_paths p, (legal_paths_are_legal p lawful, refl))

-- each successor is what some path of the list leaves
pub successor-from_list : (p q : Board) → Contains (successors_of p) q → (path : List ℕ) × (Contains (legal_paths p) path × (after p path ≡ q))
unfolding successors_of
successor-from_list p q h = Contains-from_map (after p) (legal_paths p) q (Contains-from_first_places (map (after p) (legal_paths p)) q h)

pub successor-of_listed : (p : Board) (path : List ℕ) → Contains (legal_paths p) path → Contains (successors_of p) (after p path)
unfolding successors_of
successor-of_listed p path h = Contains-first_places (map (after p) (legal_paths p)) (after p path) (Contains-map (after p) (legal_paths p) path h)

-- what a legal path leaves is a successor
pub successor-of_path : (p : Board) (path : List ℕ) → IsLawful p → IsLegal p path → Contains (successors_of p) (after p path)
successor-of_path p path lawful legal = successor-of_listed p path ((legal_paths_are_legal p lawful).complete path legal)

-- a successor is what some legal path leaves
pub path-to_successor : (p q : Board) → IsLawful p → Contains (successors_of p) q → (path : List ℕ) × (IsLegal p path × (after p path ≡ q))
path-to_successor p q lawful h = let r = successor-from_list p q h in (r.0, ((legal_paths_are_legal p lawful).sound r.0 r.1.0, r.1.1))

-- ---- no move

no_legal_path : (p : Board) → IsLawful p → successors_of p ≡ [] → (path : List ℕ) → ¬ IsLegal p path
no_legal_path p lawful none path legal = Contains-nil (after p path) (subst (λ qs. Contains qs (after p path)) none (successor-of_path p path lawful legal))

no_successor : (p : Board) → IsLawful p → ((path : List ℕ) → ¬ IsLegal p path) → successors_of p ≡ []
no_successor p lawful none = empty_from_none (successors_of p) (λ q h. let r = path-to_successor p q lawful h in none r.0 r.1.0)

-- the side that cannot move has lost, and only that side has lost in 0 plies
pub lost_without_move : LostWithoutMove
lost_without_move s p lawful = (λ w. (w.0, no_legal_path p lawful w.1), λ h. (h.0, no_successor p lawful h.1))

-- ---- positions

pub is_lawful-true : (p : Board) → IsLawful p → is_lawful p ≡ true
is_lawful-true p h = both_true (both_true (both_true (eq-eqb (length p.cells) 32 h.squares) (le-leb (pieces Black p.cells) 12 h.black)) (le-leb (pieces White p.cells) 12 h.white)) h.men

pub lawful-from_test : (p : Board) → is_lawful p ≡ true → IsLawful p
lawful-from_test p h = record {
  squares = eqb-true _ _ (first_so _ _ (first_so _ _ (first_so _ _ h)));
  black = leb-true _ _ (second_so _ _ (first_so _ _ (first_so _ _ h)));
  white = leb-true _ _ (second_so _ _ (first_so _ _ h));
  men = second_so _ _ h;
}

-- ---- draughts

pub draughts_takes_turns : TakesTurns draughts
draughts_takes_turns = record {
  alternates = λ p q h. (let r = successor-from_list p q h in ap (λ (b : Board). b.to_move) (sym r.1.1));
  stays_position = λ p q lawful h. (let l = lawful-from_test p lawful in let r = path-to_successor p q l h in subst (λ b. is_lawful b ≡ true) r.1.1 (is_lawful-true (after p r.0) (after_is_lawful p r.0 l r.1.0)));
  pieces_fall = λ p q lawful h. (let l = lawful-from_test p lawful in let r = path-to_successor p q l h in subst (λ b. piece_count b ≤ piece_count p) r.1.1 (after-fewer p r.0 l r.1.0));
}
