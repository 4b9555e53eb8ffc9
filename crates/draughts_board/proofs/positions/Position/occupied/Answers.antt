use Rattle.draughts_board.proofs.Occupied.{occupied-mask}
use Rattle.draughts_board.proofs.positions.Position.occupied.Goals as goal

pub returns-clause-squares : goal.returns-clause-squares
returns-clause-squares c = occupied-mask c.args.self.now c.masks.result c.masks.ensures.squares
