-- What is to be recorded behind a journal's payloads. Nobody has to believe it.
use Rattle.std.specs.Prelude.{◌≡◌, ℕ, List, []}
use Rattle.std.specs.declared.alloc.AllocError.{AllocError}
use Rattle.disk_journal.specs.declared.payload.Payload.{Payload}
use Rattle.disk_journal.specs.declared.refusal.JournalRefusal.TheVariants as journal
use Rattle.strategy_certificate.specs.declared.certificates.Certificate.{Certificate}
use Rattle.proof_tree.specs.Forest.{Forest}
use Rattle.bench_records.specs.declared.records.BenchRecord.{BenchRecord}
use Rattle.bench_core.specs.Growing.{GrowsWithAll, IsForestOf}
use Rattle.tree_manager.specs.Receipts.{SpellsRecords}
use Rattle.tree_manager.specs.Replaying.{RefusesPayloads, payload_texts}
use Rattle.journal_lessons.specs.declared.refusals.LearnRefusal.{LearnRefusal}
use Rattle.journal_lessons.specs.declared.refusals.LearnRefusal.TheVariants as refusal
use Rattle.journal_lessons.specs.Lessons.{AreAdded, lesson_of}
use Rattle.journal_lessons.specs.Laws.{IsCoveredAt}
use Rattle.journal_lessons.specs.Learnt.{RefusesLesson}

-- Behind these records, whose forest this is, the texts are those of what the lesson adds. Then this
-- root covers the claim.
pub record IsTaught (c : Certificate) (before : List BenchRecord) (roots : Forest) (root : ℕ)
    (texts : List (List ℕ)) : Type 0 where
  pub added : List BenchRecord
  pub lesson : AreAdded c (lesson_of c.pieces roots c) added
  pub spelled : SpellsRecords c.pieces before added texts
  pub now : Forest
  pub grown : GrowsWithAll c.pieces roots added now
  pub covered : IsCoveredAt root now c

-- the lesson is this refusal, or memory ran out
abbrev pub RefusesTeaching : Certificate → Forest → LearnRefusal → Type 0
RefusesTeaching c roots (refusal.Journal cause) =
    (error : AllocError) × (cause ≡ journal.Memory error)
RefusesTeaching c roots (refusal.RootExpanded n) =
    RefusesLesson (lesson_of c.pieces roots c) (refusal.RootExpanded n)
RefusesTeaching c roots refusal.TooManyRoots =
    RefusesLesson (lesson_of c.pieces roots c) refusal.TooManyRoots

-- These payloads spell records, which have this forest.
pub record SpellsForest (k : ℕ) (payloads : List Payload) : Type 0 where
  pub before : List BenchRecord
  pub spelled : SpellsRecords k [] before (payload_texts payloads)
  pub roots : Forest
  pub forest : IsForestOf k before roots

-- .. behind which these texts are to be recorded
abbrev pub IsTaughtBehind : Certificate → List Payload → ℕ → List (List ℕ) → Type 0
IsTaughtBehind c payloads root texts = (spells : SpellsForest c.pieces payloads)
    × IsTaught c spells.before spells.roots root texts

-- .. behind which the lesson is this refusal; or the payloads are not replayed
abbrev pub RefusesBehind : Certificate → List Payload → LearnRefusal → Type 0
RefusesBehind c payloads (refusal.Journal cause) = RefusesPayloads c.pieces payloads cause
RefusesBehind c payloads (refusal.RootExpanded n) = (spells : SpellsForest c.pieces payloads)
    × RefusesLesson (lesson_of c.pieces spells.roots c) (refusal.RootExpanded n)
RefusesBehind c payloads refusal.TooManyRoots = (spells : SpellsForest c.pieces payloads)
    × RefusesLesson (lesson_of c.pieces spells.roots c) refusal.TooManyRoots
