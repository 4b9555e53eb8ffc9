use Rattle.std.proofs.Common.{ap, ◌∙◌, subst}
use Rattle.tree_manager.specs.Taken.{TurnState, IsSameSession}
use Rattle.tree_manager.proofs.turn.Turn.session.Goals as goal

pub returns-clause-session : goal.returns-clause-session
returns-clause-session g c = c.deref.ensures ∙ ap (λ (t : TurnState g.row.D.Denot). t.session) c.self.view_is

pub returns-clause-same : goal.returns-clause-same
returns-clause-same g c = subst (λ (t : TurnState g.row.D.Denot). IsSameSession g.D.Disk t.start.found t.session) c.self.view_is c.self.invariant.1
