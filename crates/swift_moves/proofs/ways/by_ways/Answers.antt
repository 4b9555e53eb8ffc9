use Rattle.std.proofs.Common.{◌∙◌, ap, sym, ℕ}
use Rattle.std.specs.List.{list_any}
use Rattle.draughts_board.specs.declared.pieces.Cell.{Cell}
use Rattle.draughts_board.specs.Masks.{stands_in}
use Rattle.swift_moves.specs.Ways.{of_way, ways_of}
use Rattle.swift_moves.proofs.Reach.{man_ways, four_ways}
use Rattle.swift_moves.proofs.ways.by_ways.Goals as goal

pub returns-in-Man : goal.returns-in-Man
returns-in-Man c n h =
    ap (λ (m : ℕ). stands_in m n) c.forward.ensures
    ∙ man_ways c.in-Man.side c.args.up_left c.args.up_right c.args.down_left c.args.down_right n
    ∙ ap (λ (piece : Cell). list_any (λ w. stands_in (of_way c.args.up_left c.args.up_right c.args.down_left c.args.down_right w) n) (ways_of piece)) (sym c.in-Man.is)

pub returns-in-King : goal.returns-in-King
returns-in-King c n h =
    four_ways c.args.up_left c.args.up_right c.args.down_left c.args.down_right n
    ∙ ap (λ (piece : Cell). list_any (λ w. stands_in (of_way c.args.up_left c.args.up_right c.args.down_left c.args.down_right w) n) (ways_of piece)) (sym c.in-King.is)
