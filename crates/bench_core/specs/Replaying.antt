-- A record that is read back.
use Rattle.std.specs.Prelude.{◌≡◌, ℕ, [], ◌∷◌, ◌++◌}
use Rattle.bench_records.specs.declared.records.BenchRecord.{BenchRecord}
use Rattle.bench_records.specs.declared.refusal.RecordRefusal.{RecordRefusal}
use Rattle.bench_records.specs.declared.refusal.RecordRefusal.TheVariants as text
use Rattle.bench_core.specs.declared.refusals.ApplyRefusal.{ApplyRefusal}
use Rattle.bench_core.specs.declared.refusals.ApplyRefusal.TheVariants.{Unlawful, Memory}
use Rattle.bench_core.specs.declared.refusals.ReplayRefusal.{ReplayRefusal}
use Rattle.bench_core.specs.declared.refusals.ReplayRefusal.TheVariants as replay
use Rattle.bench_core.specs.Growing.{IsLawfulRecord, GrowsWith}
use Rattle.bench_core.specs.Grown.{GrownState}

-- the forest grew by it, and it stands last among the records
pub record IsReplayed (k : ℕ) (old : GrownState) (r : BenchRecord) (new : GrownState) : Type 0 where
  pub grown : GrowsWith k old.forest r new.forest
  pub added : new.records ≡ old.records ++ r ∷ []

-- the record is not lawful; want of memory may come with any
abbrev pub RefusesRecord : ℕ → GrownState → BenchRecord → ApplyRefusal → Type 0
RefusesRecord k old r Unlawful = ¬ IsLawfulRecord k old.forest r
RefusesRecord k old r (Memory error) = Unit {0}

-- ---- refusals of a payload

-- of bytes that are no record's text, unless memory ran out
abbrev pub of_text : RecordRefusal → ReplayRefusal
of_text text.BadKind = replay.Unread text.BadKind
of_text (text.BadField at) = replay.Unread (text.BadField at)
of_text (text.Trailing at) = replay.Unread (text.Trailing at)
of_text (text.Memory error) = replay.Memory error

-- of its record
abbrev pub of_record : ApplyRefusal → ReplayRefusal
of_record Unlawful = replay.Unlawful
of_record (Memory error) = replay.Memory error
