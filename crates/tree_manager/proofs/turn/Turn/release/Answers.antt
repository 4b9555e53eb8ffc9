use Rattle.std.proofs.Common.{refl}
use Rattle.tree_manager.specs.Turns.{Releases}
use Rattle.tree_manager.proofs.TakenLemmas.{at_session, session_grows, turn_grows}
use Rattle.tree_manager.proofs.turn.Turn.release.Goals as goal

pub invariant_of-self : goal.invariant_of-self
invariant_of-self g c =
    (c.self.invariant.0, session_grows g.D.Disk _ _ _ _ c.self.invariant.1 c.deref_mut.ensures.value c.release.ensures.grows c.release.ensures.disk)

pub returns-clause-goes_on : goal.returns-clause-goes_on
returns-clause-goes_on g c = turn_grows _ _ _ _ c.self.view_is c.deref_mut.ensures.value refl c.release.ensures.grows

pub returns-clause-turn : goal.returns-clause-turn
returns-clause-turn g c =
    at_session (λ s. Releases s.line c.release.new.self.line c.args.id c.release.result) _ _ _ c.self.view_is c.deref_mut.ensures.value c.release.ensures.turn
