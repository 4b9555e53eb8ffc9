-- Openings keep the rule on pieces.
use Rattle.std.proofs.Common.{ℕ, suc, List, [], ◌∷◌, take, Bool, Option, Some, None, refl, sym, subst}
use Rattle.std.specs.Prelude.{All, IfOk, codes}
use Rattle.std.proofs.lemmas.List.Elements.{All-nil, All-cons}
use Rattle.draughts_board.specs.Board.{Board, IsLawful, start_board}
use Rattle.draughts_board.specs.Play.{legal_paths}
use Rattle.draughts_board.specs.Rules.{IsLegal, after, first_square, last_square}
use Rattle.draughts_board.proofs.After.{after_is_lawful}
use Rattle.draughts_board.proofs.Legal.{legal_paths_are_legal}
use Rattle.draughts_board.proofs.Members.{Contains-from_filter}
use Rattle.draughts_board.proofs.Successors.{lawful-from_test}
use Rattle.draughts_board.proofs.Written.{meaning-among}
use Rattle.draughts_board.specs.Resolution.{is_written, matches}
use Rattle.pdn_openings.specs.Beginning.{SetsUp, BeginsFrom, first_value}
use Rattle.pdn_openings.specs.Laws.{OpeningsAreLawful}
use Rattle.pdn_openings.specs.Openings.{IsOpening, AreOpeningsFrom}
use Rattle.pdn_openings.specs.Playing.{squares_between, meaning_of, LeadTo}
use Rattle.pdn_openings.specs.declared.opening.Opening.{Opening}
use Rattle.pdn_text.specs.declared.game.Game.{Game}
use Rattle.pdn_text.specs.declared.game.MoveText.{MoveText}

-- what is written for a legal move means a legal path
meaning-legal : (p : Board) (written : MoveText) → IsLawful p → IfOk (meaning_of p written) (IsLegal p)
unfolding meaning_of matches
meaning-legal p written lawful =
    let squares = written.squares in
    let test : List ℕ → Bool = is_written (first_square squares) (squares_between squares) (last_square squares) in
    meaning-among p (matches p (first_square squares) (squares_between squares) (last_square squares)) (IsLegal p)
    (λ path h. (legal_paths_are_legal p lawful).sound path (Contains-from_filter test (legal_paths p) path h))

lawful_end : (p q : Board) (moves : List MoveText) → IsLawful p → LeadTo p moves q → IsLawful q
lawful_end p q [] lawful led = subst IsLawful led lawful
lawful_end p q (written ∷ moves) lawful led =
    let legal : IsLegal p led.0 = subst (λ r. IfOk r (IsLegal p)) led.1.0 (meaning-legal p written lawful) in
    lawful_end (after p led.0) q moves (after_is_lawful p led.0 lawful legal) led.1.1

lawful_setup : (o : Option (List ℕ)) (p : Board) → SetsUp o p → IsLawful p
lawful_setup None p e = subst IsLawful (sym e) (lawful-from_test start_board refl)
lawful_setup (Some text) p spells = spells.lawful

pub lawful_beginning : (game : Game) (p : Board) → BeginsFrom game p → IsLawful p
lawful_beginning game p h = lawful_setup (first_value (codes "FEN") game.tags) p h

pub lawful_opening : (plies number : ℕ) (game : Game) (opening : Opening) → IsOpening plies number game opening → IsLawful opening.position
lawful_opening plies number game opening h =
    lawful_end h.start opening.position (take plies game.moves) (lawful_beginning game h.start h.begins) h.led

lawful_from : (plies number : ℕ) (games : List Game) (openings : List Opening) → AreOpeningsFrom plies number games openings
    → All (λ opening. IsLawful opening.position) openings
lawful_from plies number [] [] h = All-nil (λ opening. IsLawful opening.position)
lawful_from plies number [] (x ∷ openings) h = absurd h
lawful_from plies number (game ∷ games) [] h = absurd h
lawful_from plies number (game ∷ games) (x ∷ openings) h =
    All-cons (λ opening. IsLawful opening.position) x openings (lawful_opening plies number game x h.0) (lawful_from plies (suc number) games openings h.1)

pub lawful_openings : OpeningsAreLawful
lawful_openings plies games openings = lawful_from plies 1 games openings
