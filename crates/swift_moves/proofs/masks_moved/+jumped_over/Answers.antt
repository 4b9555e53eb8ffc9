use Rattle.swift_moves.proofs.JumpedOver.{jumped_over-nothing}
use Rattle.swift_moves.proofs.masks_moved.+jumped_over.Goals as goal

pub returns-in_default : goal.returns-in_default
returns-in_default t c = jumped_over-nothing c.args.path.now c.in_default.len_below
