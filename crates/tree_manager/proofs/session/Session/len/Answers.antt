use Rattle.std.proofs.Common.{length, sym, ap, ◌∙◌}
use Rattle.tree_manager.specs.Sessions.{SessionState}
use Rattle.tree_manager.proofs.CallLemmas.{line_length}
use Rattle.tree_manager.proofs.session.Session.len.Goals as goal

pub returns : goal.returns
returns g c =
    c.len.ensures
    ∙ (sym (line_length c.self.inside.marks c.self.inside.bench c.self.invariant.within.filled) ∙ ap (λ (s : SessionState g.row.D.Denot). length s.line) c.self.view_is)
