use Rattle.std.proofs.Common.{◌∙◌, ◌&&◌}
use Rattle.std.specs.Int.Bits.{bit_and}
use Rattle.draughts_board.specs.Masks.{stands_in}
use Rattle.swift_moves.specs.Ways.{next_is}
use Rattle.swift_moves.specs.Forces.{is_free, is_enemy}
use Rattle.swift_moves.proofs.Shifts.{next_is-same}
use Rattle.swift_moves.proofs.Going.{both_mask}
use Rattle.swift_moves.proofs.movers.leaping.Goals as goal

pub returns : goal.returns
returns c p forces n h =
    let w = c.args.way in
    let f = c.args.f.now in
    c.before-3.ensures n h
    ∙ next_is-same w (stands_in (bit_and c.before-2.result f.enemies)) (λ y. next_is w (is_free p) y && is_enemy p y) n
    (both_mask (next_is w (is_free p)) (is_enemy p) c.before-2.result f.enemies
    (λ y s. c.before-2.ensures y s ∙ next_is-same w (stands_in f.free) (is_free p) y forces.free) forces.enemies)
