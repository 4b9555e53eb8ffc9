-- Worked examples, one a field.
use Rattle.std.specs.Prelude.{◌≡◌, true, false, Some, None, [], ◌∷◌}
use Rattle.draughts_board.specs.Board.{start_board}
use Rattle.draughts_board.specs.Examples.{man_blocked}
use Rattle.draughts_board.specs.declared.pieces.Side.TheVariants.{Black, White}
use Rattle.draughts_board.specs.declared.pieces.Value.TheVariants as value
use Rattle.proof_numbers.specs.Known.{nothing_known, win_known, hold_known, value_known, known_value, joined, includes, is_decided, IsConsistent}
use Rattle.proof_numbers.specs.declared.numbers.Number.TheVariants.{Finite, Infinite}
use Rattle.proof_numbers.specs.Numbers.{least, total, least_of, total_of, proved, refuted, is_resolved, counted_moves, mobility, leaf_numbers}

pub record WorkedFacts : Type 0 where
  -- Both holds are a draw, one hold is no value, and a win is one.
  pub both_holds : known_value (joined (hold_known Black) (hold_known White)) ≡ Some value.Draw
  pub one_hold : known_value (hold_known White) ≡ None
  pub a_win : known_value (win_known White) ≡ Some value.WhiteWins
  pub nothing : known_value nothing_known ≡ None
  -- A hold decides whether the other side wins, and not whether the side does.
  pub refutes_black : is_decided Black (hold_known White) ≡ true
  pub leaves_white : is_decided White (hold_known White) ≡ false
  pub draw_decides : is_decided White (value_known value.Draw) ≡ true
  -- A win knows the hold of its side.
  pub more_than_hold : includes (win_known Black) (hold_known Black) ≡ true
  pub less_than_win : includes (hold_known Black) (win_known Black) ≡ false
  -- The win of one side and the hold of the other contradict each other, two holds do not.
  pub against : ¬ IsConsistent (joined (win_known Black) (hold_known White))
  pub together : IsConsistent (joined (hold_known Black) (hold_known White))

pub record WorkedNumbers : Type 0 where
  pub lesser : least (Finite 3) (Finite 2) ≡ Finite 2
  pub finite_is_less : least Infinite (Finite 7) ≡ Finite 7
  pub sum : total (Finite 3) (Finite 2) ≡ Finite 5
  pub no_finite_sum : total (Finite 3) Infinite ≡ Infinite
  pub least_of_three : least_of (Finite 4 ∷ Infinite ∷ Finite 1 ∷ []) ≡ Finite 1
  pub least_of_none : least_of [] ≡ Infinite
  pub sum_of_three : total_of (Finite 4 ∷ Finite 0 ∷ Finite 1 ∷ []) ≡ Finite 5
  pub sum_of_none : total_of [] ≡ Finite 0
  pub shown : is_resolved proved ≡ true
  pub not_shown : is_resolved refuted ≡ true
  pub still_open : is_resolved (record { proof = Finite 1; disproof = Infinite }) ≡ false

pub record WorkedLeaves : Type 0 where
  -- The start has seven moves; a blocked player counts one.
  pub seven_moves : mobility start_board ≡ 7
  pub blocked : mobility man_blocked ≡ 1
  pub sixty_five : counted_moves 65 ≡ 64
  -- Nothing known: one move of the goal's, or all of the other side's.
  pub goal_moves : leaf_numbers Black nothing_known false Black 7
      ≡ record { proof = Finite 1; disproof = Finite 7 }
  pub other_moves : leaf_numbers White nothing_known false Black 7
      ≡ record { proof = Finite 7; disproof = Finite 1 }
  -- Facts come before a repetition, and a repetition before the moves.
  pub won : leaf_numbers Black (win_known Black) true Black 7 ≡ proved
  pub lost : leaf_numbers Black (win_known White) false Black 7 ≡ refuted
  pub held : leaf_numbers White (hold_known Black) false Black 7 ≡ refuted
  pub own_hold : leaf_numbers White (hold_known White) false White 3
      ≡ record { proof = Finite 1; disproof = Finite 3 }
  pub repeated : leaf_numbers White nothing_known true White 3 ≡ refuted
