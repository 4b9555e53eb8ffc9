use Rattle.std.proofs.Common.{◌≡◌, length, ap, ◌∙◌, arith, false}
use Rattle.tree_manager.specs.Lines.{recorded, is_failed}
use Rattle.tree_manager.specs.Sessions.{SessionState}
use Rattle.tree_manager.proofs.NumberLemmas.{puts_few, recorded_length}
use Rattle.tree_manager.proofs.session.Session.recorded.Goals as goal

pub returns : goal.returns
returns g c unfailed =
    let whole : c.self.inside.journal.failed ≡ false = c.self.invariant.within.failed ∙ (ap (λ (s : SessionState g.row.D.Denot). is_failed s.line) c.self.view_is ∙ unfailed) in
    omega (
      arith,
      c.saturating_add.ensures,
      c.count.ensures,
      c.staged-staged.ensures,
      c.self.invariant.within.counted whole,
      c.self.invariant.within.as_many whole,
      c.self.invariant.within.filled,
      puts_few c.self.inside.marks,
      c.self.invariant.within.room whole,
      recorded_length _ _ c.self.invariant.within.history,
    )
    ∙ ap (λ (s : SessionState g.row.D.Denot). length (recorded s.line)) c.self.view_is
