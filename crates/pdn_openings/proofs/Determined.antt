-- A list of games has one list of openings at most, with one opening of each.
use Rattle.std.proofs.Common.{◌≡◌, ◌∙◌, ℕ, suc, List, [], ◌∷◌, length, Option, Some, None, refl, sym, ap, subst}
use Rattle.draughts_board.specs.Board.{Board}
use Rattle.fen_text.proofs.Verdict.{one_position}
use Rattle.pdn_openings.specs.Beginning.{SetsUp, BeginsFrom, first_value}
use Rattle.pdn_openings.specs.Laws.{OpeningsAreDetermined, EachGameHasOne}
use Rattle.pdn_openings.specs.Openings.{IsOpening, AreOpeningsFrom}
use Rattle.pdn_openings.specs.Playing.{LeadTo}
use Rattle.pdn_openings.specs.declared.opening.Opening.{Opening}
use Rattle.pdn_openings.proofs.Outcome.{one_end}
use Rattle.pdn_text.specs.declared.game.Game.{Game}
use Rattle.std.specs.Prelude.{take, codes}

one_setup : (o : Option (List ℕ)) (p q : Board) → SetsUp o p → SetsUp o q → p ≡ q
one_setup None p q a b = a ∙ sym b
one_setup (Some text) p q a b = one_position text p q a b

-- a game begins from one position
pub one_beginning : (game : Game) (p q : Board) → BeginsFrom game p → BeginsFrom game q → p ≡ q
one_beginning game p q a b = one_setup (first_value (codes "FEN") game.tags) p q a b

-- a game has one opening
pub one_opening : (plies number : ℕ) (game : Game) (a b : Opening) → IsOpening plies number game a → IsOpening plies number game b → a ≡ b
one_opening plies number game a b h k =
    let moves = take plies game.moves in
    let start = one_beginning game k.start h.start k.begins h.begins in
    let led : LeadTo h.start moves b.position = subst (λ p. LeadTo p moves b.position) start k.led in
    let position = one_end h.start a.position b.position moves h.led led in
    let numbered = h.numbered ∙ sym k.numbered in
    λ i. record { game = numbered i; position = position i }

one_list_from : (plies number : ℕ) (games : List Game) (a b : List Opening) → AreOpeningsFrom plies number games a → AreOpeningsFrom plies number games b → a ≡ b
one_list_from plies number [] [] [] h k = refl
one_list_from plies number [] [] (y ∷ b) h k = absurd k
one_list_from plies number [] (x ∷ a) b h k = absurd h
one_list_from plies number (game ∷ games) [] b h k = absurd h
one_list_from plies number (game ∷ games) (x ∷ a) [] h k = absurd k
one_list_from plies number (game ∷ games) (x ∷ a) (y ∷ b) h k =
    let head = one_opening plies number game x y h.0 k.0 in let tail = one_list_from plies (suc number) games a b h.1 k.1 in λ i. head i ∷ tail i

pub one_list : OpeningsAreDetermined
one_list plies games a b = one_list_from plies 1 games a b

as_many_from : (plies number : ℕ) (games : List Game) (openings : List Opening) → AreOpeningsFrom plies number games openings → length openings ≡ length games
as_many_from plies number [] [] h = refl
as_many_from plies number [] (x ∷ openings) h = absurd h
as_many_from plies number (game ∷ games) [] h = absurd h
as_many_from plies number (game ∷ games) (x ∷ openings) h = ap suc (as_many_from plies (suc number) games openings h.1)

pub as_many : EachGameHasOne
as_many plies games openings = as_many_from plies 1 games openings
