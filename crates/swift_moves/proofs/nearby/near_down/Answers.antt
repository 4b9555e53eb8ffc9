use Rattle.std.proofs.Common.{◌∙◌}
use Rattle.swift_moves.proofs.NearSquares.{down_near}
use Rattle.swift_moves.proofs.nearby.near_down.Goals as goal

pub returns-clause-near : goal.returns-clause-near
returns-clause-near c n h = down_near c.from.result c.args.square n (c.from.ensures ∙ c.number.ensures.value) c.number.ensures.range h
