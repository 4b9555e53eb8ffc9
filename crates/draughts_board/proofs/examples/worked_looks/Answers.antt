use Rattle.std.proofs.Common.{◌≡◌, [], ◌∷◌, refl, inl, inr, subst, arith, true, false}
use Rattle.std.specs.Prelude.{Contains}
use Rattle.std.proofs.lemmas.Bool.{false≢true}
use Rattle.draughts_board.specs.Board.{start_board}
use Rattle.draughts_board.specs.Geometry.{squares}
use Rattle.draughts_board.specs.Play.{grown, captures, steps, legal_paths, successors_of}
use Rattle.draughts_board.specs.Draughts.{draughts}
use Rattle.draughts_board.specs.Game.{WinsIn, by_move, by_every_reply, is_at_sight, ShowsHold}
use Rattle.draughts_board.specs.declared.pieces.Side.{Side}
use Rattle.draughts_board.specs.declared.pieces.Side.TheVariants.{Black, White}
use Rattle.draughts_board.specs.Examples.{man_blocked, man_to_block, shuttle}
use Rattle.draughts_board.proofs.Members.{Contains-nil, Contains-head, only_one}
use Rattle.draughts_board.proofs.Truth.{Wins-holds, ShowsHold-holds}
use Rattle.draughts_board.proofs.examples.worked_looks.Goals as goal

lost : WinsIn draughts White 0 man_blocked
unfolding squares grown captures steps legal_paths successors_of
lost = (refl, refl)

blocks : Contains (successors_of man_to_block) man_blocked
unfolding squares grown captures steps legal_paths successors_of
blocks = (2, omega arith, refl)

has_moves : is_at_sight draughts 0 man_to_block ≡ false
unfolding squares grown captures steps legal_paths successors_of
has_moves = refl

has_none : is_at_sight draughts 0 man_blocked ≡ true
unfolding squares grown captures steps legal_paths successors_of
has_none = refl

start_has_moves : is_at_sight draughts 0 start_board ≡ false
unfolding squares grown captures steps legal_paths successors_of
start_has_moves = refl

unseen : ¬ ShowsHold draughts 0 White 0 [] start_board
unseen (inl h) = Contains-nil start_board h
unseen (inr h) = (let e = h.0 in let f = start_has_moves in (cc))

starts_at_24 : is_at_sight draughts 24 start_board ≡ true
unfolding squares grown captures steps legal_paths successors_of
starts_at_24 = refl

starts_at_23 : is_at_sight draughts 23 start_board ≡ false
unfolding squares grown captures steps legal_paths successors_of
starts_at_23 = refl

black_again : Contains (White ∷ Black ∷ []) Black
black_again = (1, omega arith, refl)

held : (s : Side) → ShowsHold shuttle 0 s 2 [] Black
held Black = inr (refl, by_move White refl (Contains-head White []) (inr (refl, by_every_reply refl (λ q h. subst (λ r. ShowsHold shuttle 0 Black 0 (White ∷ Black ∷ []) r) (only_one Black q h) (inl black_again)))))
held White = inr (refl, by_every_reply refl (λ q h. subst (λ r. ShowsHold shuttle 0 White 1 (Black ∷ []) r) (only_one White q h) (inr (refl, by_move Black refl (Contains-head Black []) (inl black_again)))))

white_unseen : (q : Side) → q ≡ White → ¬ ShowsHold shuttle 0 White 0 (Black ∷ []) q
white_unseen q e (inl h) = (let f = only_one Black q h in (cc))
white_unseen q e (inr h) = false≢true h.0

unseen_shuttle : ¬ ShowsHold shuttle 0 White 1 [] Black
unseen_shuttle (inl (inl h)) = Contains-nil Black h
unseen_shuttle (inl (inr h)) = false≢true h.0
unseen_shuttle (inr (e, by_move q mine next here)) = cc
unseen_shuttle (inr (e, by_every_reply theirs all)) = white_unseen White refl (all White (Contains-head White []))

pub returns : goal.returns
returns c = record {
  blocked_at_sight = has_none;
  start_at_24 = starts_at_24;
  start_at_23 = starts_at_23;
  blocking_shown = inr (has_moves, by_move man_blocked refl blocks (has_none, (0, lost)));
  blocking_unseen = λ h. (let e = h.0 in let f = has_moves in (cc));
  blocked_held = inr (has_none, Wins-holds draughts White man_blocked (0, lost));
  start_again = inl (0, omega arith, refl);
  start_unseen = unseen;
  shuttle_held = held;
  shuttle_unseen = unseen_shuttle;
  shuttle_value = (ShowsHold-holds shuttle 0 Black 2 Black (held Black), ShowsHold-holds shuttle 0 White 2 Black (held White));
}
