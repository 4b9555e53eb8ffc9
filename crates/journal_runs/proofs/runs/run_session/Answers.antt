use Rattle.std.proofs.Common.{◌≡◌, ◌≤◌, length, refl, subst, sym}
use Rattle.std.specs.Prelude.{true}
use Rattle.disk_journal.specs.declared.refusal.JournalRefusal.TheVariants as journal
use Rattle.opening_report.specs.Report.{report_of, summary_line, forest_roots, AreTrueRoots}
use Rattle.tree_manager.specs.Lines.{is_failed}
use Rattle.journal_runs.specs.Ends.{HasRun, IsWorkRefusal, out_of_memory}
use Rattle.journal_runs.specs.declared.refusals.RunRefusal.{RunRefusal}
use Rattle.journal_runs.specs.declared.refusals.RunRefusal.TheVariants as refusal
use Rattle.journal_runs.specs.Journals.{account_of}
use Rattle.journal_runs.specs.declared.runs.Account.TheVariants.{Report, Summary}
use Rattle.journal_runs.proofs.AloneLemmas.{searches_on, tables_there}
use Rattle.journal_runs.proofs.RunLemmas.{at_ok, if_err, if_ok_both, if_ok_on_both, memory_is_no_fault}
use Rattle.journal_runs.proofs.WorkLemmas.{count_run, truth_run, worked_run}
use Rattle.journal_runs.proofs.runs.run_session.Goals as goal
use Rattle.journal_runs.proofs.runs.run_session.Goals.{in-Report, in-Summary}

pub report_on-answer-requires : goal.report_on-answer-requires
report_on-answer-requires g c = searches_on _ c.args.session.line _ c.args.session.core c.requires.stands c.requires.tables c.requires.depth c.work_on-session.ensures.goes_on

pub returns-after-account-clause-worked : goal.returns-after-account-clause-worked
returns-after-account-clause-worked g c =
    let last = c.work_on-session.result.0 in
    let run = at_ok (HasRun c.args.plan.now.settings.lease c.args.session c.args.positions.now last) c.work_on-session.result.1 c.in-Ok.is_settled c.in-Ok.is c.work_on-session.ensures.worked in
    elim c.match-account.branch [
      | in-Report w ↦ rw (w.in-Report.is, w.answer-is)
          (if_ok_both (λ ran. ran.text.items ≡ report_of (forest_roots last.core.state.forest)) (λ ran. ran.is_settled ≡ c.in-Ok.is_settled) _ w.report_on-answer.result
          (λ ran text told. worked_run _ _ _ _ _ run c.requires.idle c.requires.stands w.report_on-answer.ensures.stands (account_of Report) ran.text.items ran.is_settled text told w.report_on-answer.ensures.history)
          w.report_on-answer.ensures.text w.report_on-answer.ensures.settled)
      | in-Summary w ↦ rw (w.in-Summary.is, w.answer-is)
          (if_ok_both (λ ran. ran.text.items ≡ summary_line (forest_roots last.core.state.forest)) (λ ran. ran.is_settled ≡ c.in-Ok.is_settled) _ w.count_on-answer.result
          (λ ran text told. worked_run _ _ _ _ _ run c.requires.idle c.requires.stands w.count_on-answer.ensures.stands (account_of Summary) ran.text.items ran.is_settled text told w.count_on-answer.ensures.history)
          w.count_on-answer.ensures.text w.count_on-answer.ensures.settled)
    ]

pub returns-after-account-clause-shows : goal.returns-after-account-clause-shows
returns-after-account-clause-shows g c =
    let last = c.work_on-session.result.0 in
    let run = at_ok (HasRun c.args.plan.now.settings.lease c.args.session c.args.positions.now last) c.work_on-session.result.1 c.in-Ok.is_settled c.in-Ok.is c.work_on-session.ensures.worked in
    elim c.match-account.branch [
      | in-Report w ↦ rw (w.in-Report.is, w.answer-is)
          (if_ok_on_both (AreTrueRoots (forest_roots last.core.state.forest)) (length (forest_roots last.core.state.forest) ≤ 65536) (λ ran. ran.text.items ≡ report_of (forest_roots last.core.state.forest))
          (λ ran. ran.is_settled ≡ c.in-Ok.is_settled) _ w.report_on-answer.result
          (λ ran values few text told. truth_run _ _ _ _ _ run c.requires.idle c.requires.stands w.report_on-answer.ensures.stands ran.text.items ran.is_settled told values few text)
          w.report_on-answer.ensures.values w.report_on-answer.ensures.few w.report_on-answer.ensures.text w.report_on-answer.ensures.settled)
      | in-Summary w ↦
          let same = tables_there _ _ _ (searches_on _ c.args.session.line _ c.args.session.core c.requires.stands c.requires.tables c.requires.depth c.work_on-session.ensures.goes_on) w.count_on-answer.ensures.stands in
          rw (w.in-Summary.is, w.answer-is)
          (if_ok_both (λ ran. ran.text.items ≡ summary_line (forest_roots last.core.state.forest)) (λ ran. ran.is_settled ≡ c.in-Ok.is_settled) _ w.count_on-answer.result
          (λ ran text told. count_run _ _ _ _ _ run c.requires.idle c.requires.stands w.count_on-answer.ensures.stands _ c.requires.sound.0 ran.text.items ran.is_settled same c.requires.sound.1 c.requires.size told w.count_on-answer.ensures.line text)
          w.count_on-answer.ensures.text w.count_on-answer.ensures.settled)
    ]

pub returns-after-account-clause-fault : goal.returns-after-account-clause-fault
returns-after-account-clause-fault g c =
    let silent : (e : RunRefusal) → e ≡ out_of_memory → e ≡ refusal.Journal journal.DiskFault → is_failed c.work_on-session.result.0.line ≡ true =
    λ e is fault. absurd (memory_is_no_fault (record {}) e is fault) in
    elim c.match-account.branch [
      | in-Report w ↦ rw w.answer-is (if_err (λ e. e ≡ out_of_memory) _ w.report_on-answer.result silent w.report_on-answer.ensures.refused)
      | in-Summary w ↦ rw w.answer-is (if_err (λ e. e ≡ out_of_memory) _ w.count_on-answer.result silent w.count_on-answer.ensures.refused)
    ]

pub returns-after-account-clause-refused : goal.returns-after-account-clause-refused
returns-after-account-clause-refused g c =
    let refuses : (e : RunRefusal) → e ≡ out_of_memory → IsWorkRefusal c.args.session c.args.positions.now e =
    λ e is. subst (IsWorkRefusal c.args.session c.args.positions.now) (sym is) refl in
    elim c.match-account.branch [
      | in-Report w ↦ rw w.answer-is (if_err (λ e. e ≡ out_of_memory) _ w.report_on-answer.result refuses w.report_on-answer.ensures.refused)
      | in-Summary w ↦ rw w.answer-is (if_err (λ e. e ≡ out_of_memory) _ w.count_on-answer.result refuses w.count_on-answer.ensures.refused)
    ]
