use Rattle.std.proofs.Common.{ℕ, subst}
use Rattle.position_rows.specs.declared.index.Look.{Look}
use Rattle.position_rows.specs.Walks.{IsHung}
use Rattle.position_rows.specs.Looks.{IsPlaceFor}
use Rattle.position_rows.proofs.LookLemmas.{entered_behind}
use Rattle.position_rows.proofs.index.enter.Goals as goal

pub returns-in-Behind-clause-entered : goal.returns-in-Behind-clause-entered
returns-in-Behind-clause-entered c r number =
    entered_behind c.args.slots.now.items c.args.nodes.now.items c.args.p.now r c.hang.new.nodes.items c.in-Behind.i c.in-Behind.digit
    (subst (λ (x : Look). IsPlaceFor c.args.slots.now.items c.args.nodes.now.items c.args.p.now x) c.in-Behind.is c.requires.place)
    (subst (λ (n : ℕ). IsHung c.args.nodes.now.items c.hang.new.nodes.items c.in-Behind.i c.in-Behind.digit n) number c.hang.ensures.hung)
