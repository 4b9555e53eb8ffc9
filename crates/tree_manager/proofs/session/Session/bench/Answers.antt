use Rattle.std.proofs.Common.{subst}
use Rattle.tree_manager.specs.Histories.{IsCoreOf}
use Rattle.tree_manager.specs.Receipts.{KeepsReceipts}
use Rattle.tree_manager.specs.Sessions.{SessionState}
use Rattle.tree_manager.specs.Keeping.{most_entries}
use Rattle.tree_manager.proofs.HistoryLaws.{history_stands}
use Rattle.tree_manager.proofs.CallLemmas.{receipts_of}
use Rattle.tree_manager.proofs.session.Session.bench.Goals as goal

pub returns-clause-stands : goal.returns-clause-stands
returns-clause-stands g c =
    subst (λ (s : SessionState g.row.D.Denot). IsCoreOf s.line s.core) c.self.view_is (history_stands _ _ c.self.invariant.within.history).0

pub returns-clause-receipts : goal.returns-clause-receipts
returns-clause-receipts g c honest =
    subst (λ (s : SessionState g.row.D.Denot). KeepsReceipts s.core.state.settings.pieces g.D.Disk s.line s.disk) c.self.view_is
    (receipts_of g.D.Disk
    c.self.inside.marks most_entries c.self.inside.due c.self.inside.bench c.self.inside.journal c.self.invariant.within honest)
