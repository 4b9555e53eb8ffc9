use Rattle.std.proofs.Common.{◌≡◌, ◌≤◌, ◌∙◌, inl, inr, refl, subst, sym}
use Rattle.std.specs.Prelude.{true}
use Rattle.certificate_checker.specs.declared.outcomes.TheConstants.{MOST_DEPTH}
use Rattle.endgame_table.specs.Entries.{answers}
use Rattle.disk_journal.specs.declared.refusal.JournalRefusal.TheVariants as journal
use Rattle.tree_manager.specs.Lines.{is_failed}
use Rattle.journal_runs.specs.Ends.{HasWorked, IsWorkRefusal}
use Rattle.journal_runs.specs.Journals.{account_of}
use Rattle.journal_runs.specs.declared.refusals.RunRefusal.TheVariants as refusal
use Rattle.journal_runs.proofs.RunLemmas.{caused_begun, caused_memory, caused_refused, first_depth, first_idle, first_stands, if_err, if_ok, is_fault, keeps_begun, keeps_refused, memory_is_no_fault, resumes_begun, rose_begun}
use Rattle.journal_runs.proofs.runs.solve.Goals as goal

pub returns-in-Err : goal.returns-in-Err
returns-in-Err g c = record {
  leaves = inl refl;
  does = λ honest. tt;
  shows = tt;
  fault = λ is. absurd (memory_is_no_fault _ _ c.from.ensures is);
  refused = λ honest. caused_memory _ c.args.positions.now _ _ _ c.from.ensures;
}

pub run_session-session-requires-clause-tables : goal.run_session-session-requires-clause-tables
run_session-session-requires-clause-tables g c κs within = c.in-Ok.ensures.pieces ∙ sym c.in-Ok-attach.ensures.pieces

pub run_session-session-requires-clause-size : goal.run_session-session-requires-clause-size
run_session-session-requires-clause-size g c κs within = c.in-Ok.ensures.table.size

pub run_session-session-requires-clause-sound : goal.run_session-session-requires-clause-sound
run_session-session-requires-clause-sound g c κs within = (answers c.in-Ok.table.pieces c.in-Ok.table.numbers, c.in-Ok.ensures.table.sound)

pub run_session-session-requires-clause-depth : goal.run_session-session-requires-clause-depth
run_session-session-requires-clause-depth g c κs within =
    subst (λ n. n ≤ MOST_DEPTH) (sym (first_depth g.D.Disk _ c.args.disk _ c.in-Ok-attach.ensures.attached)) c.args.plan.now.settings.shallow

pub run_session-session-requires-clause-idle : goal.run_session-session-requires-clause-idle
run_session-session-requires-clause-idle g c κs within =
    first_idle g.D.Disk _ c.args.disk _ c.in-Ok-attach.ensures.attached

pub run_session-session-requires-clause-stands : goal.run_session-session-requires-clause-stands
run_session-session-requires-clause-stands g c κs within =
    first_stands g.D.Disk _ c.args.disk _ c.in-Ok-attach.ensures.attached

pub returns-in-Ok-attach-clause-leaves : goal.returns-in-Ok-attach-clause-leaves
returns-in-Ok-attach-clause-leaves g c = inr (λ honest none_pending.
    let laws = g.met.D.Disk g.world.𝓛 g.world.𝓜 g.world.𝓡 ((λ s x. x), (λ x. x), (λ x. x), λ x. x) in
    keeps_begun g.D.Disk _ c.args.disk _ c.in-Ok-attach.ensures.attached
    _ c.run_session-session.ensures.goes_on c.into_disk.result honest c.in-Ok-attach.ensures.cause (c.into_disk.ensures.receipts honest) c.into_disk.ensures.broken
    (λ t image le now. laws.now_counts _ t image honest le now))

pub returns-in-Ok-attach-clause-does : goal.returns-in-Ok-attach-clause-does
returns-in-Ok-attach-clause-does g c = λ honest.
    let laws = g.met.D.Disk g.world.𝓛 g.world.𝓜 g.world.𝓡 ((λ s x. x), (λ x. x), (λ x. x), λ x. x) in
    let last = c.run_session-session.result.0 in
    let account = account_of c.args.plan.now.account in
    if_ok (λ ran. HasWorked account c.args.plan.now.settings.lease c.in-Ok-attach.session c.args.positions.now last ran.text.items ran.is_settled) _ c.run_session-session.result.1
    (λ ran worked.
    resumes_begun g.D.Disk _ c.args.disk _ c.in-Ok-attach.ensures.attached
    account c.args.positions.now last c.into_disk.result _ _ c.run_session-session.ensures.goes_on honest worked (c.into_disk.ensures.receipts honest)
    (laws.reads_is_image _ honest) (λ t image le now. laws.now_counts _ t image honest le now))
    c.run_session-session.ensures.worked

pub returns-in-Ok-attach-clause-fault : goal.returns-in-Ok-attach-clause-fault
returns-in-Ok-attach-clause-fault g c =
    let last = c.run_session-session.result.0 in
    if_err (λ r. r ≡ refusal.Journal journal.DiskFault → is_failed last.line ≡ true) _ c.run_session-session.result.1
    (λ r failed is.
    rose_begun g.D.Disk _ c.args.disk _ c.in-Ok-attach.ensures.attached
    last.line c.run_session-session.ensures.goes_on c.into_disk.result c.in-Ok-attach.ensures.cause (c.into_disk.ensures.broken (failed is)))
    c.run_session-session.ensures.fault

pub returns-in-Ok-attach-clause-refused : goal.returns-in-Ok-attach-clause-refused
returns-in-Ok-attach-clause-refused g c = λ honest.
    if_err (IsWorkRefusal c.in-Ok-attach.session c.args.positions.now) _ c.run_session-session.result.1
    (λ r h. caused_begun g.D.Disk _ c.args.disk _ c.in-Ok-attach.ensures.attached c.args.positions.now r honest h)
    c.run_session-session.ensures.refused

pub returns : goal.returns
returns g c = record {
  leaves = inr (λ honest none_pending.
      let new = c.in-Err-attach.disk in
      let laws = g.met.D.Disk g.world.𝓛 g.world.𝓜 g.world.𝓡 ((λ s x. x), (λ x. x), (λ x. x), λ x. x) in
      keeps_refused g.D.Disk _ c.args.disk new none_pending
      (c.in-Err-attach.ensures.crash honest) (c.in-Err-attach.ensures.unwritten honest) (c.in-Err-attach.ensures.settled honest none_pending)
      (laws.reads_is_image new honest) (λ t image le now. laws.now_counts new t image honest le now) (λ s t image le since. laws.earlier_counts new s t image honest le since));
  does = λ honest. tt;
  shows = tt;
  fault = λ is. c.in-Err-attach.ensures.cause.1 (is_fault _ _ c.from-in-Err-attach.ensures is);
  refused = λ honest. caused_refused _ c.args.positions.now _ _ _ c.from-in-Err-attach.ensures (c.in-Err-attach.ensures.refused honest);
}
