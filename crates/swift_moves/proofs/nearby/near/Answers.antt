use Rattle.std.proofs.Common.{◌∙◌, ap, sym, ℕ}
use Rattle.draughts_board.specs.declared.pieces.Side.TheVariants.{Black}
use Rattle.draughts_board.specs.declared.pieces.Cell.{Cell}
use Rattle.swift_moves.proofs.Reach.{lies_near}
use Rattle.swift_moves.proofs.NearSquares.{both_near}
use Rattle.swift_moves.proofs.nearby.near.Goals as goal

pub returns-in-King : goal.returns-in-King
returns-in-King c n h =
    let x : ℕ = c.args.square in
    both_near Black x c.near_up-up.result c.near_down-down.result c.near_up-up.ensures.square c.near_up-up.ensures.near c.near_down-down.ensures.near n h
    ∙ ap (λ (piece : Cell). lies_near piece x n) (sym c.in-King.is)
