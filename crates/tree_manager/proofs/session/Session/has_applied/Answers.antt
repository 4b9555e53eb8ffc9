use Rattle.std.proofs.Common.{◌≡◌, length, ap, arith, false}
use Rattle.std.proofs.lemmas.Bool.{leb-true, leb-false}
use Rattle.tree_manager.specs.Lines.{applied_in}
use Rattle.tree_manager.specs.Sessions.{SessionState}
use Rattle.tree_manager.proofs.NumberLemmas.{applied_length}
use Rattle.tree_manager.proofs.session.Session.has_applied.Goals as goal

pub returns-then-not-is_failed-clause-yes : goal.returns-then-not-is_failed-clause-yes
returns-then-not-is_failed-clause-yes g c is =
    let whole : c.self.inside.journal.failed ≡ false = cc (c.if-not-is_failed.true, c.is_failed.ensures) in
    omega (arith, leb-true _ _ is, c.count.ensures, c.self.invariant.within.counted whole, applied_length _ _ c.self.invariant.within.history, ap (λ (s : SessionState g.row.D.Denot). length (applied_in s.line)) c.self.view_is)

pub returns-then-not-is_failed-clause-no : goal.returns-then-not-is_failed-clause-no
returns-then-not-is_failed-clause-no g c is unfailed =
    let whole : c.self.inside.journal.failed ≡ false = cc (c.if-not-is_failed.true, c.is_failed.ensures) in
    omega (arith, leb-false _ _ is, c.count.ensures, c.self.invariant.within.counted whole, applied_length _ _ c.self.invariant.within.history, ap (λ (s : SessionState g.row.D.Denot). length (applied_in s.line)) c.self.view_is)
