use Rattle.std.proofs.Common.{◌∙◌, ◌&&◌, ap, sym}
use Rattle.std.specs.Int.Bits.{bit_or}
use Rattle.draughts_board.specs.Rules.{is_own}
use Rattle.swift_moves.specs.declared.ways.Way.TheVariants.{UpLeft, UpRight, DownLeft, DownRight}
use Rattle.swift_moves.specs.Forces.{leaps}
use Rattle.swift_moves.proofs.WayRules.{jumps_by_ways}
use Rattle.swift_moves.proofs.Going.{going_pieces, either_mask}
use Rattle.swift_moves.proofs.movers.jumpers.Goals as goal

pub returns : goal.returns
returns c p forces n h =
    going_pieces p c.args.f.now (leaps p) (bit_or c.leaping.result c.leaping-2.result) (bit_or c.leaping-3.result c.leaping-4.result) c.going.result forces
    (either_mask (leaps p UpLeft) (leaps p UpRight) c.leaping.result c.leaping-2.result (c.leaping.ensures p forces) (c.leaping-2.ensures p forces))
    (either_mask (leaps p DownLeft) (leaps p DownRight) c.leaping-3.result c.leaping-4.result (c.leaping-3.ensures p forces) (c.leaping-4.ensures p forces))
    c.going.ensures n h
    ∙ ap (λ b. is_own p n && b) (sym (jumps_by_ways p n h))
