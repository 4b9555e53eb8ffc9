use Rattle.std.proofs.Common.{◌∙◌}
use Rattle.swift_moves.proofs.NearSquares.{up_near}
use Rattle.swift_moves.proofs.nearby.near_up.Goals as goal

pub returns-clause-near : goal.returns-clause-near
returns-clause-near c n h = up_near c.from.result c.args.square n (c.from.ensures ∙ c.number.ensures.value) c.number.ensures.range h
