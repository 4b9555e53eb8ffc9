use Rattle.draughts_board.proofs.PutInMasks.{put-square, take-square}
use Rattle.draughts_board.proofs.masks.with_square.Goals as goal

pub returns-then-keep-clause-kept : goal.returns-then-keep-clause-kept
returns-then-keep-clause-kept c = put-square c.args.mask c.bit.result c.args.square c.args.keep c.if-keep.true c.bit.ensures.value

pub returns-else-keep-clause-kept : goal.returns-else-keep-clause-kept
returns-else-keep-clause-kept c = take-square c.args.mask _ c.args.square c.args.keep c.if-keep.false c.bit-else-keep.type_inv c.bit-else-keep.ensures.value
