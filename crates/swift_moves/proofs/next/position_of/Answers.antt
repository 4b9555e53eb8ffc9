use Rattle.std.proofs.Common.{◌∙◌, ap}
use Rattle.draughts_board.specs.Board.{other}
use Rattle.swift_moves.proofs.MovedMasks.{made_after}
use Rattle.swift_moves.proofs.next.position_of.Goals as goal

pub of_lawful_masks-requires : goal.of_lawful_masks-requires
of_lawful_masks-requires c =
    let made = made_after c.args.p.now c.requires.0 c.other.result c.args.black_men c.args.black_kings c.args.white_men c.args.white_kings
    c.to_move-mover.ensures.lawful c.requires.1.0 (c.other.ensures ∙ ap other c.to_move-mover.ensures.value)
    c.ranges.black_men.fits c.ranges.black_kings.fits c.ranges.white_men.fits c.ranges.white_kings.fits c.requires.1.1 in
    record { apart = made.0; lawful = made.1 }

pub returns : goal.returns
returns c path legal masks =
    let made = made_after c.args.p.now path c.other.result c.args.black_men c.args.black_kings c.args.white_men c.args.white_kings
    c.to_move-mover.ensures.lawful legal (c.other.ensures ∙ ap other c.to_move-mover.ensures.value)
    c.ranges.black_men.fits c.ranges.black_kings.fits c.ranges.white_men.fits c.ranges.white_kings.fits masks in
    c.of_lawful_masks.ensures ∙ made.2
