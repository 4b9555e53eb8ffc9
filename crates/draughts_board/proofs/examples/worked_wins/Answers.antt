use Rattle.std.proofs.Common.{◌≡◌, [], ◌∷◌, refl, inr, subst, arith}
use Rattle.std.specs.Prelude.{Contains}
use Rattle.draughts_board.specs.Geometry.{squares}
use Rattle.draughts_board.specs.Play.{grown, captures, steps, legal_paths, successors_of}
use Rattle.draughts_board.specs.Draughts.{draughts}
use Rattle.draughts_board.specs.Game.{WinsIn, by_move, by_every_reply}
use Rattle.draughts_board.specs.declared.pieces.Side.TheVariants.{Black, White}
use Rattle.draughts_board.specs.Examples.{king_at_four, man_blocked, man_to_block, man_to_lose, men, men_and_kings}
use Rattle.draughts_board.proofs.Members.{only_one}
use Rattle.draughts_board.proofs.Truth.{Wins-holds}
use Rattle.draughts_board.proofs.examples.worked_wins.Goals as goal

lost : WinsIn draughts White 0 man_blocked
unfolding squares grown captures steps legal_paths successors_of
lost = (refl, refl)

-- 23-19 is the last of White's three moves
blocks : Contains (successors_of man_to_block) man_blocked
unfolding squares grown captures steps legal_paths successors_of
blocks = (2, omega arith, refl)

round : Contains (successors_of king_at_four) (men_and_kings White [] (2 ∷ []))
unfolding squares grown captures steps legal_paths successors_of
round = (0, omega arith, refl)

empty : WinsIn draughts Black 0 (men_and_kings White [] (2 ∷ []))
unfolding squares grown captures steps legal_paths successors_of
empty = (refl, refl)

-- 28x19 takes Black's last man
takes : WinsIn draughts White 1 (men White (28 ∷ []) (24 ∷ []))
unfolding squares grown captures steps legal_paths successors_of
takes = inr (by_move (men Black (19 ∷ []) []) refl (0, omega arith, refl) (refl, refl))

one_step : successors_of man_to_lose ≡ men White (28 ∷ []) (24 ∷ []) ∷ []
unfolding squares grown captures steps legal_paths successors_of
one_step = refl

pub returns : goal.returns
returns c = record {
  blocked_lost = lost;
  blocked_value = (0, lost);
  blocked_not_won = λ w. Wins-holds draughts White man_blocked (0, lost) w;
  blocking_wins = inr (by_move man_blocked refl blocks lost);
  blocking_takes_one = λ w. (let e = w.0 in (cc));
  round_wins = inr (by_move (men_and_kings White [] (2 ∷ [])) refl round empty);
  round_value = (1, inr (by_move (men_and_kings White [] (2 ∷ [])) refl round empty));
  losing_step = inr (by_every_reply refl (λ q h. subst (WinsIn draughts White 1) (only_one (men White (28 ∷ []) (24 ∷ [])) q (subst (λ qs. Contains qs q) one_step h)) takes));
}
