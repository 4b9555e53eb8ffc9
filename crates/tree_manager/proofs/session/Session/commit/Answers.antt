use Rattle.std.proofs.Common.{◌≡◌, ◌∙◌, sym, subst, false}
use Rattle.std.specs.Prelude.{Result, Ok, Err, OnOk}
use Rattle.tree_manager.specs.Sessions.{SessionState}
use Rattle.tree_manager.specs.Turns.{Commits}
use Rattle.tree_manager.proofs.TurnLemmas.{commit_turn, commits_grow}
use Rattle.tree_manager.proofs.WorksLemmas.{commit_works}
use Rattle.tree_manager.specs.Keeping.{parts_of, state_of}
use Rattle.tree_manager.proofs.HistoryLaws.{history_stands}
use Rattle.tree_manager.proofs.RootlessLemmas.{commit_rootless}
use Rattle.tree_manager.proofs.session.Session.commit.Goals as goal

pub invariant_of-self : goal.invariant_of-self
invariant_of-self g c =
    let unfailed : c.self.inside.journal.failed ≡ false = cc (c.if-is_failed.false, c.is_failed.ensures) in
    record {
      within = c.commit_parts.ensures.within;
      rootless = commit_rootless g.D.Disk.faults (state_of (parts_of c.self.inside.marks c.self.inside.due c.self.inside.bench c.self.inside.journal))
          (state_of (parts_of c.commit_parts.new.marks c.commit_parts.new.due c.commit_parts.new.bench c.commit_parts.new.journal)) c.commit_parts.result
          c.commit_parts.ensures.none_staged c.commit_parts.ensures.refused (sym c.self.invariant.within.failed ∙ unfailed);
    }

-- it had not failed, whatever the answer
whole_before : {T E : Type 0} (r : Result T E) (P : Type 0) → P → OnOk r P
whole_before (Ok x) P h = h
whole_before (Err e) P h = tt

pub returns-clause-turn : goal.returns-clause-turn
returns-clause-turn g c =
    let unfailed : c.self.inside.journal.failed ≡ false = cc (c.if-is_failed.false, c.is_failed.ensures) in
    subst (λ (s : SessionState g.row.D.Denot). Commits s.line (state_of (parts_of c.commit_parts.new.marks c.commit_parts.new.due c.commit_parts.new.bench c.commit_parts.new.journal)).line c.commit_parts.result) c.self.view_is
    (commit_turn (state_of (parts_of c.self.inside.marks c.self.inside.due c.self.inside.bench c.self.inside.journal)) (state_of (parts_of c.commit_parts.new.marks c.commit_parts.new.due c.commit_parts.new.bench c.commit_parts.new.journal)) c.self.invariant.within.history c.self.invariant.within.ended g.D.Disk.faults c.commit_parts.result
    (whole_before c.commit_parts.result _ (sym c.self.invariant.within.failed ∙ unfailed)) (λ whole. c.commit_parts.ensures.idle) c.commit_parts.ensures.appends c.commit_parts.ensures.number c.commit_parts.ensures.refused)

pub returns-clause-grows : goal.returns-clause-grows
returns-clause-grows g c = commits_grow _ _ _ (returns-clause-turn g c)

pub returns-clause-works : goal.returns-clause-works
returns-clause-works g c =
    let unfailed : c.self.inside.journal.failed ≡ false = cc (c.if-is_failed.false, c.is_failed.ensures) in
    commit_works (state_of (parts_of c.self.inside.marks c.self.inside.due c.self.inside.bench c.self.inside.journal)) (state_of (parts_of c.commit_parts.new.marks c.commit_parts.new.due c.commit_parts.new.bench c.commit_parts.new.journal)) c.commit_parts.result
    (whole_before c.commit_parts.result _ (sym c.self.invariant.within.failed ∙ unfailed)) (λ whole. c.commit_parts.ensures.idle) c.commit_parts.ensures.appends

pub returns-clause-stands : goal.returns-clause-stands
returns-clause-stands g c = whole_before c.commit_parts.result _ (history_stands _ _ c.commit_parts.ensures.within.history).0
