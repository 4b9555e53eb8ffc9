use Rattle.std.proofs.Common.{refl}
use Rattle.draughts_board.specs.Geometry.{squares}
use Rattle.draughts_board.specs.Masks.{squares_of}
use Rattle.table_index.specs.Order.{choices}
use Rattle.table_index.proofs.walking.PositionWalk.new.Goals as goal

pub invariant_of-result : goal.invariant_of-result
unfolding choices squares_of squares
invariant_of-result c = record { kept = refl }
