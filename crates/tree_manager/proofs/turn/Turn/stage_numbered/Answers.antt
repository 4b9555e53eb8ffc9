use Rattle.std.proofs.Common.{refl}
use Rattle.tree_manager.specs.Turns.{StagesNumbered}
use Rattle.tree_manager.proofs.TakenLemmas.{at_session, session_grows, turn_grows}
use Rattle.tree_manager.proofs.turn.Turn.stage_numbered.Goals as goal

pub invariant_of-self : goal.invariant_of-self
invariant_of-self g c =
    (c.self.invariant.0, session_grows g.D.Disk _ _ _ _ c.self.invariant.1 c.deref_mut.ensures.value c.stage_numbered.ensures.grows c.stage_numbered.ensures.disk)

pub returns-clause-goes_on : goal.returns-clause-goes_on
returns-clause-goes_on g c = turn_grows _ _ _ _ c.self.view_is c.deref_mut.ensures.value refl c.stage_numbered.ensures.grows

pub returns-clause-turn : goal.returns-clause-turn
returns-clause-turn g c =
    at_session (λ s. StagesNumbered s.line c.stage_numbered.new.self.line c.args.found.lease c.args.found.outcome c.stage_numbered.result) _ _ _ c.self.view_is c.deref_mut.ensures.value c.stage_numbered.ensures.turn
