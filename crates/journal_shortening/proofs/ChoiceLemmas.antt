-- What a file reads as by which the new journal is chosen, or the old one.
use Rattle.std.proofs.Common.{◌≡◌, inl, inr, ℕ, List, [], ◌∷◌, refl, ◌∙◌, subst}
use Rattle.disk_journal.specs.FormatLaws.{payloads_once}
use Rattle.bench_records.specs.declared.records.BenchRecord.{BenchRecord}
use Rattle.tree_manager.specs.Receipts.{ReadsRecords, SpellsRecords}
use Rattle.journal_shortening.specs.Choices.{IsChosenBy}
use Rattle.journal_shortening.specs.Laws.{ChosenIsWhole}
use Rattle.journal_shortening.specs.Outcomes.{ReadsNone, StandsForFile}
use Rattle.journal_shortening.specs.declared.choosing.Chosen.TheVariants.{Old, New}

no_payload : (k : ℕ) (payloads : List (List ℕ)) → SpellsRecords k [] [] payloads → payloads ≡ []
no_payload k [] spelled = refl
no_payload k (payload ∷ payloads) spelled = absurd spelled

no_record : (k : ℕ) (records : List BenchRecord) (payloads : List (List ℕ)) → payloads ≡ [] → SpellsRecords k [] records payloads → records ≡ []
no_record k [] payloads none spelled = refl
no_record k (r ∷ records) [] none spelled = absurd spelled
no_record k (r ∷ records) (payload ∷ payloads) none spelled = cc

-- a file without a record is not chosen
not_new : (image : List ℕ) → ReadsNone image → IsChosenBy image New → ⊥
not_new image none chosen =
    let reads = none.1 in
    chosen.1.1.1 (payloads_once chosen.0 none.0 image chosen.1.0 reads.payloads chosen.1.1.0 reads.stands ∙ no_payload none.0 reads.payloads reads.spelled)

-- one for which the old one is chosen has none
reads_none_of : (old_file image : List ℕ) (new : List BenchRecord) → StandsForFile old_file image new → IsChosenBy image Old → ReadsNone image
reads_none_of old_file image new whole chosen =
    let reads = whole.new_reads in
    let empty = payloads_once whole.pieces chosen.0 image reads.payloads [] reads.stands chosen.1 in
    (whole.pieces, subst (λ (records : List BenchRecord). ReadsRecords whole.pieces image records) (no_record whole.pieces new reads.payloads empty reads.spelled) reads)

pub chosen_is_whole : ChosenIsWhole
chosen_is_whole old_file image new (inl none) = record { whole = λ chosen. absurd (not_new image none chosen); none = λ chosen. none }
chosen_is_whole old_file image new (inr whole) = record { whole = λ chosen. whole; none = λ chosen. reads_none_of old_file image new whole chosen }
