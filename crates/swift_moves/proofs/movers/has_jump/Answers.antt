use Rattle.std.proofs.Common.{◌∙◌}
use Rattle.swift_moves.proofs.LegalLists.{any-jumper}
use Rattle.swift_moves.proofs.movers.has_jump.Goals as goal

pub returns : goal.returns
returns c = c.is_any.ensures ∙ any-jumper c.args.p.now c.jumpers.result (c.jumpers.ensures c.args.p.now c.of.ensures.masks)
