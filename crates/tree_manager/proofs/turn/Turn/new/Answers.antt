use Rattle.std.proofs.Common.{length, ap, sym, ◌∙◌}
use Rattle.tree_manager.specs.Sessions.{SessionState}
use Rattle.tree_manager.proofs.TakenLemmas.{session_begins}
use Rattle.tree_manager.proofs.turn.Turn.new.Goals as goal

pub invariant_of-result : goal.invariant_of-result
invariant_of-result g c = (
  c.count-entered.ensures ∙ ap (λ (s : SessionState g.row.D.Denot). length s.line) (sym c.of-found.ensures),
  session_begins g.D.Disk _ _ _ c.of-found.ensures c.held.view_is,
)
