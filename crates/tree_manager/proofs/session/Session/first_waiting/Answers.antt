use Rattle.std.proofs.Common.{subst}
use Rattle.std.specs.Prelude.{IfSome}
use Rattle.tree_manager.specs.Sessions.{SessionState}
use Rattle.tree_manager.proofs.IdLemmas.{IsLeast, history_numbered, least_number}
use Rattle.tree_manager.proofs.session.Session.first_waiting.Goals as goal

pub returns-clause-least : goal.returns-clause-least
returns-clause-least g c =
    let core = c.self.inside.bench in
    subst (λ (s : SessionState g.row.D.Denot). IfSome c.first_waiting.result (IsLeast s.core.state.leases.rows)) c.self.view_is
    (least_number core.state.leases.rows c.first_waiting.result c.first_waiting.ensures (history_numbered _ core c.self.invariant.within.history).order)
