-- What the journal that is chosen reads as, whatever a crash left of the new one.
use Rattle.std.specs.Prelude.{◌⊎◌, ℕ, List}
use Rattle.bench_records.specs.declared.records.BenchRecord.{BenchRecord}
use Rattle.journal_shortening.specs.Choices.{IsChosenBy}
use Rattle.journal_shortening.specs.Outcomes.{ReadsNone, StandsForFile}
use Rattle.journal_shortening.specs.declared.choosing.Chosen.TheVariants.{Old, New}

-- Where the new one is chosen it stands for the old one, and where the old one is chosen the new one has no record.
pub record IsRightlyChosen (old_file image : List ℕ) (new : List BenchRecord) : Type 0 where
  pub whole : IsChosenBy image New → StandsForFile old_file image new
  pub none : IsChosenBy image Old → ReadsNone image

abbrev pub ChosenIsWhole : Type 0
ChosenIsWhole = (old_file image : List ℕ) (new : List BenchRecord) → ReadsNone image ⊎ StandsForFile old_file image new
    → IsRightlyChosen old_file image new
