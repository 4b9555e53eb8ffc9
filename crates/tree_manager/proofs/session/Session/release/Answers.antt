use Rattle.std.proofs.Common.{rules, ◌≡◌, ◌≤◌, ◌++◌, ◌∙◌, refl, sym, subst, arith, true, false}
use Rattle.tree_manager.specs.declared.entries.Entry.TheVariants as entry
use Rattle.tree_manager.specs.declared.marks.Mark.TheVariants as mark
use Rattle.tree_manager.specs.Keeping.{most_entries}
use Rattle.tree_manager.proofs.KeptLemmas.{line_other}
use Rattle.tree_manager.proofs.CallLemmas.{appends_from, kept_released}
use Rattle.tree_manager.specs.Histories.{IsHistory}
use Rattle.tree_manager.specs.Lines.{is_failed, EndsBroken}
use Rattle.tree_manager.specs.Sessions.{SessionState}
use Rattle.std.specs.Prelude.{Ok}
use Rattle.tree_manager.specs.Weaving.{woven}
use Rattle.tree_manager.proofs.TurnLemmas.{release_turn, releases_grow}
use Rattle.tree_manager.proofs.session.Session.release.Goals as goal

pub invariant_of-self-2 : goal.invariant_of-self-2
invariant_of-self-2 g c =
    let unfailed : c.self.inside.journal.failed ≡ false = cc (c.if-is_failed.false, c.is_failed.ensures) in
    let more : most_entries ≤ most_entries = omega arith in
    record {
      within = kept_released g.D.Disk c.self.inside.marks c.push.new.self most_entries most_entries c.self.inside.due c.self.inside.bench c.release.new.self c.self.inside.journal c.args.id c.self.invariant.within unfailed c.push.ensures c.in_ok-release.ensures.row c.in_ok-release.ensures.event more;
      rootless = λ whole. rw c.in_ok-release.ensures.event (c.self.invariant.rootless (sym c.self.invariant.within.failed ∙ unfailed));
    }

pub returns-clause-appends : goal.returns-clause-appends
returns-clause-appends g c =
    appends_from _ _ _ _ c.self.view_is (record {
      line = line_other c.self.inside.marks c.push.new.self c.self.inside.bench c.release.new.self (mark.Released c.args.id) (entry.Released c.args.id) c.self.invariant.within.filled c.push.ensures refl refl
          (rw c.in_ok-release.ensures.event refl);
      enters = (c.in_ok-release.ensures.row, c.in_ok-release.ensures.event);
    })

pub returns-clause-turn : goal.returns-clause-turn
returns-clause-turn g c =
    release_turn c.args.self.now _ (subst (λ (s : SessionState g.row.D.Denot). IsHistory s.line s.core) c.self.view_is c.self.invariant.within.history)
    (subst (λ (s : SessionState g.row.D.Denot). is_failed s.line ≡ true → EndsBroken s.line) c.self.view_is c.self.invariant.within.ended)
    c.args.id (Ok tt) (returns-clause-appends g c) tt tt

pub returns-clause-grows : goal.returns-clause-grows
returns-clause-grows g c = releases_grow _ _ c.args.id (Ok tt) (returns-clause-turn g c)

pub returns-in_err-release-clause-turn : goal.returns-in_err-release-clause-turn
returns-in_err-release-clause-turn g c =
    release_turn c.args.self.now (record { line = woven c.self.inside.marks (c.release.new.self.records ++ c.release.new.self.staged); core = c.release.new.self; disk = c.self.inside.journal.disk })
    (subst (λ (s : SessionState g.row.D.Denot). IsHistory s.line s.core) c.self.view_is c.self.invariant.within.history)
    (subst (λ (s : SessionState g.row.D.Denot). is_failed s.line ≡ true → EndsBroken s.line) c.self.view_is c.self.invariant.within.ended)
    c.args.id c.from_residual.result (search rules) (search rules) (search rules)

pub returns-in_err-release-clause-grows : goal.returns-in_err-release-clause-grows
returns-in_err-release-clause-grows g c = releases_grow _ _ c.args.id c.from_residual.result (returns-in_err-release-clause-turn g c)
