use Rattle.std.proofs.Common.{◌∙◌, ap, sym}
use Rattle.draughts_board.specs.Masks.{stands_in}
use Rattle.swift_moves.specs.Ways.{next_is}
use Rattle.swift_moves.specs.declared.ways.Way.{Way}
use Rattle.swift_moves.proofs.Shifts.{up_left, up_right, down_left, down_right}
use Rattle.swift_moves.proofs.ways.before.Goals as goal

pub returns-in-UpLeft : goal.returns-in-UpLeft
returns-in-UpLeft c n h = up_left c.args.mask n h ∙ ap (λ (w : Way). next_is w (stands_in c.args.mask) n) (sym c.in-UpLeft.is)

pub returns-in-UpRight : goal.returns-in-UpRight
returns-in-UpRight c n h = up_right c.args.mask n h ∙ ap (λ (w : Way). next_is w (stands_in c.args.mask) n) (sym c.in-UpRight.is)

pub returns-in-DownLeft : goal.returns-in-DownLeft
returns-in-DownLeft c n h = down_left c.args.mask c.ranges.mask.fits n h ∙ ap (λ (w : Way). next_is w (stands_in c.args.mask) n) (sym c.in-DownLeft.is)

pub returns-in-DownRight : goal.returns-in-DownRight
returns-in-DownRight c n h = down_right c.args.mask c.ranges.mask.fits n h ∙ ap (λ (w : Way). next_is w (stands_in c.args.mask) n) (sym c.in-DownRight.is)
