use Rattle.std.proofs.Common.{rules, ◌≡◌, ◌≤◌, ◌++◌, ◌∷◌, [], ◌+◌, ◌-◌, ℕ, List, min, length, map, refl, ap, sym, ◌∙◌, subst, arith, length-append}
use Rattle.std.specs.Prelude.{count_by}
use Rattle.disk_journal.specs.declared.payload.Payload.{Payload}
use Rattle.bench_core.specs.Records.{begun, is_work}
use Rattle.bench_core.specs.Cores.{Core}
use Rattle.bench_records.specs.declared.records.BenchRecord.{BenchRecord}
use Rattle.tree_manager.specs.declared.entries.Attachment.{Attachment}
use Rattle.tree_manager.specs.declared.marks.Mark.{Mark}
use Rattle.tree_manager.specs.declared.marks.Mark.TheVariants as mark
use Rattle.std.specs.Bool.{OnFalse}
use Rattle.disk_journal.specs.Format.{HasPayloads, HasPlaces}
use Rattle.disk_journal.specs.Contents.{contents_of}
use Rattle.disk_journal.specs.Refusals.{Explains, says_nothing_of_file}
use Rattle.disk_journal.specs.declared.refusal.JournalRefusal.{JournalRefusal}
use Rattle.tree_manager.specs.Receipts.{SpellsRecords}
use Rattle.tree_manager.specs.Sessions.{session_budget}
use Rattle.tree_manager.specs.Replaying.{RefusesPayloads, payload_texts}
use Rattle.tree_manager.specs.Keeping.{most_entries}
use Rattle.tree_manager.proofs.ReplayLemmas.{cause_first, journal_explained, kept_begun, length_texts, line_begun, new_begun, none_attached, replayed_budget, replayed_pieces, replayed_staged, replay_explained, same_attachment}
use Rattle.tree_manager.proofs.ExactLemmas.{refused_unlawful, unlawful_unread}
use Rattle.tree_manager.proofs.session.Session.attach.Goals as goal

pub invariant_of-result : goal.invariant_of-result
invariant_of-result g c =
    let core : Core = c.in-Ok-replay_all.replayed.0 in
    let rs : List BenchRecord = core.records in
    let log = c.in-Ok.attached.0 in
    let payloads : List (List ℕ) = payload_texts c.in-Ok.attached.1.items in
    let k : c.pieces-pieces.result ≡ c.args.s.pieces = c.pieces-pieces.ensures.value ∙ c.requires.tables in
    let a : Attachment = record { opened = c.opened.result; faults = c.faults.result; budget = c.budget.result; depth = c.args.s.depth; pieces = c.pieces-pieces.result; limit = c.args.s.lease } in
    let marks : c.push.new.self ≡ map (λ _. mark.Put) rs ++ mark.Attached a ∷ [] =
    c.push.ensures ∙ ap (λ (l : List Mark). l ++ mark.Attached a ∷ []) c.in-Ok-replay_all.ensures.marks in
    let budget : c.budget.result ≡ min core.state.settings.budget (1000000 - count_by is_work rs) = c.budget.ensures ∙ ap (λ (x : Core). x.state.settings.budget) c.start_session.ensures in
    let given : c.deref.result.now ≡ c.in-Ok.attached.1.items = c.deref.ensures.value in
    let pieces : log.pieces ≡ c.pieces-pieces.result = c.in-Ok.ensures.state.0 in
    let spelled : SpellsRecords log.pieces [] rs payloads =
    subst (λ n. SpellsRecords n [] rs payloads) (sym (pieces ∙ k)) (subst (λ (l : List Payload). SpellsRecords c.args.s.pieces [] rs (payload_texts l)) given c.in-Ok-replay_all.ensures.spelled) in
    let opened : c.opened.result ≡ log.opened = c.opened.ensures in
    let faults : c.faults.result ≡ g.D.Disk.faults log.disk = search rules in
    let number : log.count ≡ length payloads = c.in-Ok.ensures.state.2 ∙ sym (length_texts c.in-Ok.attached.1.items) in
    let room : length c.push.new.self ≤ most_entries = omega (arith, ap length c.push.ensures, length-append c.in-Ok-replay_all.replayed.1 (mark.Attached a ∷ []), c.in_default.ensures.ok) in
    record {
      within =
          kept_begun g.D.Disk
          rs c.push.new.self most_entries c.start_session.new.self log a payloads
          marks (new_begun c.args.s core c.start_session.new.self (min core.state.settings.budget (1000000 - count_by is_work rs)) a c.in-Ok-replay_all.ensures.replayed c.start_session.ensures c.args.s.lasts budget refl k refl)
          spelled pieces c.in-Ok.ensures.state.1 c.in-Ok.ensures.state.3 number faults room
          (λ tells. (
            subst (λ n. n ≤ g.D.Disk.moment log.disk) (sym opened) c.in-Ok.ensures.reached,
            (
              rw pieces (c.in-Ok.ensures.same tells),
              (c.in-Ok.ensures.durable tells, rw (opened, pieces) (c.in-Ok.ensures.since_opened tells payloads (subst (λ n. HasPayloads n (g.D.Disk.reads c.args.disk) payloads) pieces (c.in-Ok.ensures.exact tells).good.0.payloads))),
            ),
          ));
      rootless = λ whole.
          ap begun (ap (λ (x : Core). x.staged) c.start_session.ensures ∙ replayed_staged c.args.s core c.in-Ok-replay_all.ensures.replayed);
    }

pub returns-clause-pieces : goal.returns-clause-pieces
returns-clause-pieces g c =
    ap (λ (x : Core). x.state.settings.pieces) c.start_session.ensures ∙ replayed_pieces c.args.s c.in-Ok-replay_all.replayed.0 c.in-Ok-replay_all.ensures.replayed

pub returns-clause-attached : goal.returns-clause-attached
returns-clause-attached g c =
    let core : Core = c.in-Ok-replay_all.replayed.0 in
    let rs : List BenchRecord = core.records in
    let log = c.in-Ok.attached.0 in
    let payloads : List (List ℕ) = payload_texts c.in-Ok.attached.1.items in
    let k : c.pieces-pieces.result ≡ c.args.s.pieces = c.pieces-pieces.ensures.value ∙ c.requires.tables in
    let a : Attachment = record { opened = c.opened.result; faults = c.faults.result; budget = c.budget.result; depth = c.args.s.depth; pieces = c.pieces-pieces.result; limit = c.args.s.lease } in
    let marks : c.push.new.self ≡ map (λ _. mark.Put) rs ++ mark.Attached a ∷ [] =
    c.push.ensures ∙ ap (λ (l : List Mark). l ++ mark.Attached a ∷ []) c.in-Ok-replay_all.ensures.marks in
    let budget : c.budget.result ≡ session_budget c.args.s.budget rs =
    c.budget.ensures ∙ (ap (λ (x : Core). x.state.settings.budget) c.start_session.ensures ∙ ap (λ n. session_budget n rs) (replayed_budget c.args.s core c.in-Ok-replay_all.ensures.replayed)) in
    let began : c.budget.result ≡ min core.state.settings.budget (1000000 - count_by is_work rs) = c.budget.ensures ∙ ap (λ (x : Core). x.state.settings.budget) c.start_session.ensures in
    let given : c.deref.result.now ≡ c.in-Ok.attached.1.items = c.deref.ensures.value in
    let spelled : SpellsRecords c.args.s.pieces [] rs payloads = subst (λ (l : List Payload). SpellsRecords c.args.s.pieces [] rs (payload_texts l)) given c.in-Ok-replay_all.ensures.spelled in
    let opened : c.opened.result ≡ g.D.Disk.moment c.args.disk + 1 = c.opened.ensures ∙ c.in-Ok.ensures.opened in
    let faults : c.faults.result ≡ g.D.Disk.faults log.disk = search rules in
    record {
      replayed = rs;
      attachment = a;
      line = line_begun rs c.push.new.self c.start_session.new.self a marks (ap (λ (x : Core). x.records) c.start_session.ensures)
          (ap (λ (x : Core). x.staged) c.start_session.ensures ∙ replayed_staged c.args.s core c.in-Ok-replay_all.ensures.replayed);
      read = λ honest. record {
        payloads = payloads;
        stands = subst (λ n. HasPayloads n (g.D.Disk.reads c.args.disk) payloads) (c.in-Ok.ensures.state.0 ∙ k) (c.in-Ok.ensures.exact honest).good.0.payloads;
        spelled = spelled;
        lawful = (core.state.forest, c.in-Ok-replay_all.ensures.replayed.forest);
      };
      is = same_attachment _ _ _ _ _ _ c.args.s.depth _ _ c.args.s.lease opened faults budget k;
      core = new_begun c.args.s core c.start_session.new.self (min core.state.settings.budget (1000000 - count_by is_work rs)) a c.in-Ok-replay_all.ensures.replayed c.start_session.ensures c.args.s.lasts began refl k refl;
    }

pub returns-in-Err-replay_all-clause-refused : goal.returns-in-Err-replay_all-clause-refused
returns-in-Err-replay_all-clause-refused g c honest =
    let k : c.pieces-pieces.result ≡ c.args.s.pieces = c.pieces-pieces.ensures.value ∙ c.requires.tables in
    let file : List ℕ = g.D.Disk.reads c.args.disk in
    let items : List Payload = c.in-Ok.attached.1.items in
    let given : c.deref.result.now ≡ items = c.deref.ensures.value in
    replay_explained c.args.s.pieces file items c.in-Err-replay_all.refusal
    (subst (λ n. HasPayloads n file (payload_texts items)) (c.in-Ok.ensures.state.0 ∙ k) (c.in-Ok.ensures.exact honest).good.0.payloads)
    (subst (λ n. HasPlaces n file (map (λ (p : Payload). p.at) items)) (c.in-Ok.ensures.state.0 ∙ k) (c.in-Ok.ensures.exact honest).good.0.places)
    (subst (λ (l : List Payload). RefusesPayloads c.args.s.pieces l c.in-Err-replay_all.refusal) given c.in-Err-replay_all.ensures.refused)

pub returns-in-Err-clause-refused : goal.returns-in-Err-clause-refused
returns-in-Err-clause-refused g c honest =
    let k : c.pieces-pieces.result ≡ c.args.s.pieces = c.pieces-pieces.ensures.value ∙ c.requires.tables in
    let file : List ℕ = g.D.Disk.reads c.args.disk in
    let refusal : JournalRefusal = c.in-Err.refused.1 in
    journal_explained c.args.s.pieces file refusal (subst (λ n. OnFalse (says_nothing_of_file refusal) (Explains file n refusal)) k (c.in-Err.ensures.exact honest).fault)

pub returns-in-Err-clause-first : goal.returns-in-Err-clause-first
returns-in-Err-clause-first g c honest e stands =
    let k : c.pieces-pieces.result ≡ c.args.s.pieces = c.pieces-pieces.ensures.value ∙ c.requires.tables in
    let file : List ℕ = g.D.Disk.reads c.args.disk in
    let at : Explains file c.pieces-pieces.result e = subst (λ n. Explains file n e) (sym k) stands in
    cause_first file c.pieces-pieces.result c.in-Err.refused.1 e (c.in-Err.ensures.exact honest) at

pub returns-clause-first : goal.returns-clause-first
returns-clause-first g c honest e stands =
    let k : c.pieces-pieces.result ≡ c.args.s.pieces = c.pieces-pieces.ensures.value ∙ c.requires.tables in
    let file : List ℕ = g.D.Disk.reads c.args.disk in
    let at : Explains file c.pieces-pieces.result e = subst (λ n. Explains file n e) (sym k) stands in
    none_attached file c.pieces-pieces.result (contents_of c.in-Ok.attached.0.pieces c.in-Ok.attached.1.items) e (c.in-Ok.ensures.exact honest) at

pub returns-in-Err-replay_all-clause-first : goal.returns-in-Err-replay_all-clause-first
returns-in-Err-replay_all-clause-first g c honest e stands =
    let k : c.pieces-pieces.result ≡ c.args.s.pieces = c.pieces-pieces.ensures.value ∙ c.requires.tables in
    let file : List ℕ = g.D.Disk.reads c.args.disk in
    let at : Explains file c.pieces-pieces.result e = subst (λ n. Explains file n e) (sym k) stands in
    absurd (none_attached file c.pieces-pieces.result (contents_of c.in-Ok.attached.0.pieces c.in-Ok.attached.1.items) e (c.in-Ok.ensures.exact honest) at)

pub returns-clause-unlawful : goal.returns-clause-unlawful
returns-clause-unlawful g c honest at h =
    let attached = returns-clause-attached g c in unlawful_unread c.args.s.pieces (g.D.Disk.reads c.args.disk) at attached.replayed h (attached.read honest)

pub returns-in-Err-replay_all-clause-unlawful : goal.returns-in-Err-replay_all-clause-unlawful
returns-in-Err-replay_all-clause-unlawful g c honest at h =
    refused_unlawful c.args.s.pieces (g.D.Disk.reads c.args.disk) at c.in-Err-replay_all.refusal h (returns-in-Err-replay_all-clause-refused g c honest)

pub returns-in-Err-clause-unlawful : goal.returns-in-Err-clause-unlawful
returns-in-Err-clause-unlawful g c honest at h =
    refused_unlawful c.args.s.pieces (g.D.Disk.reads c.args.disk) at c.in-Err.refused.1 h (returns-in-Err-clause-refused g c honest)
