use Rattle.std.proofs.Common.{refl}
use Rattle.tree_manager.specs.Turns.{Commits}
use Rattle.tree_manager.proofs.TakenLemmas.{at_session, session_commits, turn_grows}
use Rattle.tree_manager.proofs.turn.Turn.commit.Goals as goal

pub invariant_of-self : goal.invariant_of-self
invariant_of-self g c =
    (c.self.invariant.0, session_commits g.D.Disk g.met.D.Disk.earlier_counts _ _ _ _ c.self.invariant.1 c.deref_mut.ensures.value c.commit.ensures.grows c.commit.ensures.later c.commit.ensures.onward c.commit.ensures.since)

pub returns-clause-goes_on : goal.returns-clause-goes_on
returns-clause-goes_on g c = turn_grows _ _ _ _ c.self.view_is c.deref_mut.ensures.value refl c.commit.ensures.grows

pub returns-clause-turn : goal.returns-clause-turn
returns-clause-turn g c =
    at_session (λ s. Commits s.line c.commit.new.self.line c.commit.result) _ _ _ c.self.view_is c.deref_mut.ensures.value c.commit.ensures.turn
