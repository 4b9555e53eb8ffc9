use Rattle.std.proofs.Common.{rules, ◌≡◌, ◌≤◌, ◌+◌, ◌++◌, ◌∷◌, [], List, length, refl, sym, ap, ◌∙◌, subst, arith, length-append, true, false}
use Rattle.std.specs.Prelude.{Ok}
use Rattle.bench_core.specs.States.{lease_answer}
use Rattle.tree_manager.specs.declared.entries.Entry.TheVariants as entry
use Rattle.tree_manager.specs.declared.marks.Mark.{Mark}
use Rattle.tree_manager.specs.declared.marks.Mark.TheVariants as mark
use Rattle.tree_manager.specs.Keeping.{most_entries}
use Rattle.tree_manager.proofs.PickLemmas.{lease_worker}
use Rattle.tree_manager.proofs.KeptLemmas.{line_other}
use Rattle.tree_manager.proofs.CallLemmas.{appends_from, given_few, kept_leased}
use Rattle.tree_manager.specs.Histories.{IsHistory}
use Rattle.tree_manager.specs.Lines.{is_failed, EndsBroken}
use Rattle.tree_manager.specs.Sessions.{SessionState}
use Rattle.tree_manager.specs.Weaving.{woven}
use Rattle.tree_manager.proofs.TurnLemmas.{lease_turn, leases_grow}
use Rattle.tree_manager.proofs.session.Session.lease.Goals as goal

pub lease-requires : goal.lease-requires
lease-requires g c =
    let unfailed : c.self.inside.journal.failed ≡ false = cc (c.if-is_failed.false, c.is_failed.ensures) in
    omega (arith, given_few c.self.inside.marks c.self.inside.bench c.self.invariant.within.filled c.self.invariant.within.history, c.self.invariant.within.room unfailed)

pub invariant_of-self-2 : goal.invariant_of-self-2
invariant_of-self-2 g c =
    let unfailed : c.self.inside.journal.failed ≡ false = cc (c.if-is_failed.false, c.is_failed.ensures) in
    let marks : c.push.new.self ≡ c.self.inside.marks ++ mark.Leased c.in_ok-lease.lease ∷ [] = c.push.ensures in
    let room : length c.push.new.self + (c.self.inside.due + 2) ≤ most_entries =
    omega (arith, ap length marks, length-append c.self.inside.marks (mark.Leased c.in_ok-lease.lease ∷ []), c.in_ok-reserve.ensures.ok) in
    record {
      within = kept_leased g.D.Disk c.self.inside.marks c.push.new.self most_entries most_entries c.self.inside.due c.self.inside.bench c.lease.new.self c.self.inside.journal c.args.worker c.in_ok-lease.lease c.self.invariant.within unfailed marks c.in_ok-lease.ensures.answer c.in_ok-lease.ensures.event room;
      rootless = λ whole. rw c.in_ok-lease.ensures.event (c.self.invariant.rootless (sym c.self.invariant.within.failed ∙ unfailed));
    }

pub returns-clause-appends : goal.returns-clause-appends
returns-clause-appends g c =
    let lease = c.in_ok-lease.lease in
    let marks : c.push.new.self ≡ c.self.inside.marks ++ mark.Leased lease ∷ [] = c.push.ensures in
    appends_from _ _ _ _ c.self.view_is (record {
      line = line_other c.self.inside.marks c.push.new.self c.self.inside.bench c.lease.new.self (mark.Leased lease) (entry.Leased lease) c.self.invariant.within.filled marks refl refl
          (rw c.in_ok-lease.ensures.event refl);
      enters = (subst (λ w. lease_answer c.self.inside.bench.state w ≡ Ok lease) (sym (lease_worker c.self.inside.bench.state c.args.worker lease c.in_ok-lease.ensures.answer)) c.in_ok-lease.ensures.answer, c.in_ok-lease.ensures.event);
    })

pub returns-clause-turn : goal.returns-clause-turn
returns-clause-turn g c =
    lease_turn c.args.self.now _ (subst (λ (s : SessionState g.row.D.Denot). IsHistory s.line s.core) c.self.view_is c.self.invariant.within.history)
    (subst (λ (s : SessionState g.row.D.Denot). is_failed s.line ≡ true → EndsBroken s.line) c.self.view_is c.self.invariant.within.ended)
    c.args.worker (Ok c.in_ok-lease.lease) (subst (λ (s : SessionState g.row.D.Denot). lease_answer s.core.state c.args.worker ≡ Ok c.in_ok-lease.lease) c.self.view_is c.in_ok-lease.ensures.answer)
    (returns-clause-appends g c) tt tt

pub returns-clause-grows : goal.returns-clause-grows
returns-clause-grows g c = leases_grow _ _ c.args.worker (Ok c.in_ok-lease.lease) (returns-clause-turn g c)

pub returns-in_err-lease-clause-turn : goal.returns-in_err-lease-clause-turn
returns-in_err-lease-clause-turn g c =
    lease_turn c.args.self.now (record { line = woven c.self.inside.marks (c.lease.new.self.records ++ c.lease.new.self.staged); core = c.lease.new.self; disk = c.self.inside.journal.disk })
    (subst (λ (s : SessionState g.row.D.Denot). IsHistory s.line s.core) c.self.view_is c.self.invariant.within.history)
    (subst (λ (s : SessionState g.row.D.Denot). is_failed s.line ≡ true → EndsBroken s.line) c.self.view_is c.self.invariant.within.ended)
    c.args.worker c.from_residual-in_err-lease.result (search rules) (search rules) (search rules) (search rules)
