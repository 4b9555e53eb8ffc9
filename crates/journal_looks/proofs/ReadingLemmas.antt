-- What is read of a journal.
use Rattle.std.proofs.Common.{◌≡◌, ℕ, List, [], map, sym, subst, inl, inr, ⊎_elim}
use Rattle.std.specs.Bool.{OnFalse}
use Rattle.shared_words.proofs.Exactness.{on_false}
use Rattle.disk_journal.specs.declared.payload.Payload.{Payload}
use Rattle.disk_journal.specs.declared.refusal.JournalRefusal.{JournalRefusal}
use Rattle.disk_journal.specs.declared.refusal.JournalRefusal.TheVariants.{DiskFault, NotAJournal, OtherTable, Damaged, Memory}
use Rattle.disk_journal.specs.Format.{HasPayloads, HasPlaces}
use Rattle.disk_journal.specs.Refusals.{ExplainsAny, says_nothing_of_file}
use Rattle.bench_core.specs.Growing.{IsForestOf}
use Rattle.proof_tree.specs.Forest.{Forest}
use Rattle.bench_records.specs.declared.records.BenchRecord.{BenchRecord}
use Rattle.tree_manager.specs.Receipts.{ReadsRecords, SpellsRecords}
use Rattle.tree_manager.specs.Replaying.{RefusesPayloads, payload_texts}
use Rattle.tree_manager.proofs.ReplayLemmas.{replay_explained}
use Rattle.journal_looks.specs.Looks.{ExplainsUnread}

-- ---- why it is not read

pub unread_journal : (file : List ℕ) (refusal : JournalRefusal) → OnFalse (says_nothing_of_file refusal) (ExplainsAny file refusal) → ExplainsUnread file refusal
unread_journal file refusal = on_false (says_nothing_of_file refusal) (ExplainsAny file refusal) _ (λ e. inl e)

pub unread_payload : (k : ℕ) (file : List ℕ) (payloads : List Payload) (refusal : JournalRefusal) → HasPayloads k file (payload_texts payloads)
    → HasPlaces k file (map (λ p. p.at) payloads) → RefusesPayloads k payloads refusal → ExplainsUnread file refusal
unread_payload k file payloads DiskFault has places refused = tt
unread_payload k file payloads NotAJournal has places refused = absurd refused
unread_payload k file payloads (OtherTable found asked) has places refused = absurd refused
unread_payload k file payloads (Damaged at) has places refused =
    ⊎_elim (λ own. inl (k, own)) (λ stops. inr (k, stops)) (replay_explained k file payloads (Damaged at) has places refused)
unread_payload k file payloads (Memory error) has places refused = tt

-- ---- the records that were read

pub records_read : (k j : ℕ) (file : List ℕ) (payloads given : List Payload) (records : List BenchRecord) (roots : Forest) → given ≡ payloads → HasPayloads k file (payload_texts payloads) → j ≡ k
    → IsForestOf k records roots → SpellsRecords k [] records (payload_texts given) → ReadsRecords j file records
records_read k j file payloads given records roots is has same forest spelled =
    subst (λ n. ReadsRecords n file records) (sym same) (record {
      payloads = payload_texts payloads;
      stands = has;
      spelled = subst (λ (l : List Payload). SpellsRecords k [] records (payload_texts l)) is spelled;
      lawful = (roots, forest);
    })

pub given_unread : (k : ℕ) (file : List ℕ) (payloads given : List Payload) (refusal : JournalRefusal) → given ≡ payloads → HasPayloads k file (payload_texts payloads)
    → HasPlaces k file (map (λ p. p.at) payloads) → RefusesPayloads k given refusal → ExplainsUnread file refusal
given_unread k file payloads given refusal is has places refused =
    unread_payload k file payloads refusal has places (subst (λ (l : List Payload). RefusesPayloads k l refusal) is refused)
