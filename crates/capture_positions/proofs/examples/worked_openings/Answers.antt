use Rattle.std.proofs.Common.{◌≡◌, [], ◌∷◌, replicate, refl, sym, arith}
use Rattle.draughts_board.specs.Rules.{put}
use Rattle.draughts_board.specs.declared.pieces.Side.TheVariants.{Black, White}
use Rattle.draughts_board.specs.declared.pieces.Cell.TheVariants.{Empty, King}
use Rattle.capture_positions.specs.Walk.{openings_from}
use Rattle.capture_positions.proofs.LoopLemmas.{kept-all}
use Rattle.draughts_board.specs.Geometry.{squares}
use Rattle.capture_positions.specs.Jumps.{jumps}
use Rattle.capture_positions.proofs.examples.worked_openings.Goals as goal

first_opening : openings_from 1 1 ≡ record { cells = put (put (put (replicate 32 Empty) 27 (King White)) 24 (King Black)) 32 (King Black); to_move = Black } ∷ []
unfolding jumps squares
first_opening = sym (kept-all 1 1 1 _ refl (omega arith) refl)

pub returns : goal.returns
unfolding jumps squares
returns c = record { all_jumps = refl; from_8 = refl; from_18 = refl; last_jump = refl; first_index = refl; second_index = refl; place_22 = refl; first_opening = first_opening }
