use Rattle.std.proofs.Common.{◌+◌, rules}
use Rattle.std.proofs.lemmas.List.FromFn.{fill_by_all}
use Rattle.draughts_board.specs.Geometry.{squares}
use Rattle.draughts_board.proofs.squares.Square.all.Goals as goal

pub returns : goal.returns
unfolding squares
returns c = fill_by_all (λ k. k + 1) c.loop-i.all 32 0 c.loop-i.invariant.0 (search rules)
