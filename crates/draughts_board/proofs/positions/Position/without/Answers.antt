use Rattle.draughts_board.proofs.After.{lifted_is_lawful}
use Rattle.draughts_board.proofs.positions.Position.without.Goals as goal

pub with-requires : goal.with-requires
with-requires c = lifted_is_lawful c.args.self.now c.args.square _ c.to_move.ensures.lawful
