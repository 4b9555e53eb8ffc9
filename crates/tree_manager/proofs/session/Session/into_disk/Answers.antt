use Rattle.std.proofs.Common.{◌≡◌, ℕ, List, sym, subst}
use Rattle.std.specs.Prelude.{true, IfSome}
use Rattle.bench_disk.specs.declared.disk.Disk.{Ghosts}
use Rattle.shared_words.specs.Counts.{Rose}
use Rattle.bench_core.specs.States.{SessionSettings}
use Rattle.bench_core.specs.Cores.{Core}
use Rattle.tree_manager.specs.declared.entries.Attachment.{Attachment}
use Rattle.tree_manager.specs.declared.entries.Entry.{Entry}
use Rattle.tree_manager.specs.Lines.{attachment_of, is_failed}
use Rattle.tree_manager.specs.Histories.{IsCoreOf}
use Rattle.tree_manager.specs.Receipts.{KeepsReceipts}
use Rattle.tree_manager.specs.Sessions.{SessionState}
use Rattle.tree_manager.specs.Keeping.{most_entries}
use Rattle.tree_manager.proofs.HistoryLaws.{history_stands}
use Rattle.tree_manager.proofs.CallLemmas.{receipts_of}
use Rattle.tree_manager.proofs.session.Session.into_disk.Goals as goal

-- receipts, by the pieces of the Attached
receipts_attached : {D : Type 0} (g : Ghosts D) (line : List Entry) (core : Core) (disk : D) → IsCoreOf line core
    → KeepsReceipts core.state.settings.pieces g line disk → IfSome (attachment_of line) (λ a. KeepsReceipts a.pieces g line disk)
receipts_attached g line core disk stands receipts =
    subst (λ found. IfSome found (λ (a : Attachment). KeepsReceipts a.pieces g line disk)) (sym stands.state.attached)
    (subst (λ (s : SessionSettings). KeepsReceipts s.pieces g line disk) stands.state.settings receipts)

pub returns-clause-receipts : goal.returns-clause-receipts
returns-clause-receipts g c honest =
    subst (λ (s : SessionState g.row.D.Denot). IfSome (attachment_of s.line) (λ a. KeepsReceipts a.pieces g.D.Disk s.line c.into_disk.result)) c.self.view_is
    (rw (c.into_disk.ensures)
    (receipts_attached g.D.Disk _ _ _ (history_stands _ _ c.self.invariant.within.history).0
    (receipts_of g.D.Disk
    c.self.inside.marks most_entries c.self.inside.due c.self.inside.bench c.self.inside.journal c.self.invariant.within honest)))

pub returns-clause-broken : goal.returns-clause-broken
returns-clause-broken g c =
    subst (λ (s : SessionState g.row.D.Denot). is_failed s.line ≡ true → IfSome (attachment_of s.line) (λ a. Rose a.faults (g.D.Disk.faults c.into_disk.result))) c.self.view_is
    (rw (c.into_disk.ensures) c.self.invariant.within.broken)
