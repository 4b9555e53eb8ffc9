use Rattle.std.proofs.Common.{[], ◌∷◌, refl, inl, inr, lit≤, arith}
use Rattle.std.proofs.lemmas.Bool.{false≢true, true≢false}
use Rattle.draughts_board.specs.Geometry.{squares}
use Rattle.draughts_board.specs.Rules.{IsLegal}
use Rattle.draughts_board.specs.Play.{grown, captures, steps, legal_paths}
use Rattle.draughts_board.specs.Examples.{king_at_four, man_at_two, king_at_one, man_past_one, white_man_past_one, third_ply}
use Rattle.draughts_board.proofs.examples.worked_captures.Goals as goal

half : ¬ IsLegal king_at_four (2 ∷ 9 ∷ 18 ∷ [])
unfolding squares
half (inl c) = elim c.complete [ inl h ↦ false≢true h | inr h ↦ cc ]
half (inr s) = let h = s.two in absurd (omega arith)

most : ¬ IsLegal king_at_four (2 ∷ 9 ∷ 18 ∷ 11 ∷ [])
unfolding squares
most (inl c) = elim c.complete [ inl h ↦ false≢true h | inr h ↦ cc ]
most (inr s) = let h = s.two in absurd (omega arith)

goes_on : ¬ IsLegal man_at_two (22 ∷ 31 ∷ 24 ∷ [])
goes_on (inl c) = false≢true c.jumps
goes_on (inr s) = let h = s.two in absurd (omega arith)

back : ¬ IsLegal king_at_one (2 ∷ 9 ∷ 2 ∷ [])
back (inl c) = false≢true c.once
back (inr s) = let h = s.two in absurd (omega arith)

black_back : ¬ IsLegal man_past_one (10 ∷ 1 ∷ [])
black_back (inl c) = false≢true c.jumps
black_back (inr s) = false≢true s.step

white_back : ¬ IsLegal white_man_past_one (19 ∷ 28 ∷ [])
white_back (inl c) = false≢true c.jumps
white_back (inr s) = false≢true s.step

no_step : ¬ IsLegal third_ply (8 ∷ 11 ∷ [])
unfolding squares
no_step (inl c) = false≢true c.jumps
no_step (inr s) = true≢false s.no_jump

pub returns : goal.returns
unfolding squares grown captures steps legal_paths
returns c = record {
  round_one_way = inl (record { long = lit≤ tt; own = refl; jumps = refl; once = refl; crowned_last = refl; complete = inr refl });
  round_other_way = inl (record { long = lit≤ tt; own = refl; jumps = refl; once = refl; crowned_last = refl; complete = inr refl });
  round_all = refl;
  round_half = half;
  round_most = most;
  forward_left = inl (record { long = lit≤ tt; own = refl; jumps = refl; once = refl; crowned_last = refl; complete = inr refl });
  forward_right = inl (record { long = lit≤ tt; own = refl; jumps = refl; once = refl; crowned_last = refl; complete = inr refl });
  forward_all = refl;
  crowning_ends = inl (record { long = lit≤ tt; own = refl; jumps = refl; once = refl; crowned_last = refl; complete = inl refl });
  crowning_goes_on = goes_on;
  crowning_all = refl;
  once_over = inl (record { long = lit≤ tt; own = refl; jumps = refl; once = refl; crowned_last = refl; complete = inr refl });
  over_and_back = back;
  black_jumps_back = black_back;
  white_jumps_back = white_back;
  must_capture = inl (record { long = lit≤ tt; own = refl; jumps = refl; once = refl; crowned_last = refl; complete = inr refl });
  may_not_step = no_step;
  must_capture_all = refl;
}
