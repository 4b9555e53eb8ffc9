use Rattle.std.proofs.Common.{◌∙◌, ◌&&◌, ap, sym, ℕ}
use Rattle.std.specs.Int.Bits.{bit_or}
use Rattle.draughts_board.specs.Rules.{is_own}
use Rattle.swift_moves.specs.declared.ways.Way.{Way}
use Rattle.swift_moves.specs.declared.ways.Way.TheVariants.{UpLeft, UpRight, DownLeft, DownRight}
use Rattle.draughts_board.specs.Masks.{IsMaskOf, stands_in}
use Rattle.swift_moves.specs.Ways.{next_is}
use Rattle.swift_moves.specs.Forces.{is_free}
use Rattle.swift_moves.proofs.Shifts.{next_is-same}
use Rattle.swift_moves.proofs.WayRules.{steps_by_ways}
use Rattle.swift_moves.proofs.Going.{going_pieces, either_mask}
use Rattle.swift_moves.proofs.movers.steppers.Goals as goal

pub returns : goal.returns
returns c p forces n h =
    let f = c.args.f.now in
    let opens = λ (w : Way) (x : ℕ). next_is w (is_free p) x in
    let from_free : (w : Way) (r : ℕ) → IsMaskOf (next_is w (stands_in f.free)) r → IsMaskOf (next_is w (is_free p)) r = λ w r e y s. e y s ∙ next_is-same w (stands_in f.free) (is_free p) y forces.free in
    going_pieces p f opens (bit_or c.before-2.result c.before-3.result) (bit_or c.before-4.result c.before-5.result) c.going.result forces
    (either_mask (opens UpLeft) (opens UpRight) c.before-2.result c.before-3.result (from_free UpLeft c.before-2.result c.before-2.ensures) (from_free UpRight c.before-3.result c.before-3.ensures))
    (either_mask (opens DownLeft) (opens DownRight) c.before-4.result c.before-5.result (from_free DownLeft c.before-4.result c.before-4.ensures) (from_free DownRight c.before-5.result c.before-5.ensures))
    c.going.ensures n h
    ∙ ap (λ b. is_own p n && b) (sym (steps_by_ways p n h))
