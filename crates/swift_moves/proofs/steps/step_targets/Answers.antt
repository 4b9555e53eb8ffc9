use Rattle.std.proofs.Common.{◌∙◌, ◌&&◌, ap, ℕ}
use Rattle.draughts_board.specs.Board.{cell_at}
use Rattle.draughts_board.specs.declared.pieces.Cell.{Cell}
use Rattle.draughts_board.proofs.Bits.{stands_in-and}
use Rattle.swift_moves.proofs.Reach.{lies_near}
use Rattle.swift_moves.proofs.steps.step_targets.Goals as goal

pub returns : goal.returns
returns c n h =
    let x : ℕ = c.args.«from» in
    stands_in-and c.near.result c.args.f.now.free n
    ∙ (λ i. (c.near.ensures n h ∙ ap (λ (piece : Cell). lies_near piece x n) c.piece_at.ensures) i && c.requires.free n h i)
