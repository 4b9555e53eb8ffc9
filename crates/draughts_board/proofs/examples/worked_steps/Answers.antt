use Rattle.std.proofs.Common.{[], ◌∷◌, refl, inl, inr}
use Rattle.std.proofs.lemmas.Bool.{false≢true}
use Rattle.draughts_board.specs.Geometry.{squares}
use Rattle.draughts_board.specs.Rules.{IsLegal}
use Rattle.draughts_board.specs.Play.{grown, captures, steps, legal_paths}
use Rattle.draughts_board.specs.Examples.{man_past_one, white_man_past_one}
use Rattle.draughts_board.proofs.examples.worked_steps.Goals as goal

black_back : ¬ IsLegal man_past_one (10 ∷ 7 ∷ [])
black_back (inl c) = false≢true c.jumps
black_back (inr s) = false≢true s.step

white_back : ¬ IsLegal white_man_past_one (19 ∷ 23 ∷ [])
white_back (inl c) = false≢true c.jumps
white_back (inr s) = false≢true s.step

pub returns : goal.returns
unfolding squares grown captures steps legal_paths
returns c = record {
  first_moves = refl;
  first_move = inr (record { two = refl; own = refl; step = refl; no_jump = refl });
  black_steps = refl;
  black_steps_back = black_back;
  white_steps = refl;
  white_steps_back = white_back;
  king_steps = refl;
  no_steps = refl;
}
