-- What a lesson adds may be added, and behind it the position is a root that covers the claim.
use Rattle.std.specs.Prelude.{◌≡◌, ◌≤◌, ◌-◌, ℕ, true, List, [], ◌∷◌, Some, slice_get}
use Rattle.draughts_board.specs.Board.{IsLawful}
use Rattle.strategy_certificate.specs.declared.certificates.Certificate.{Certificate}
use Rattle.strategy_certificate.specs.Certificates.{IsGood, IsTrueOf}
use Rattle.strategy_certificate.specs.Tables.{IsTableSize}
use Rattle.proof_tree.specs.Forest.{Forest, Node, nodes}
use Rattle.proof_tree.specs.Sound.{IsSoundForest}
use Rattle.bench_records.specs.declared.records.BenchRecord.{BenchRecord}
use Rattle.bench_core.specs.Growing.{IsLawfulRecord, IsApplied, GrowsWithAll}
use Rattle.journal_lessons.specs.declared.lessons.Lesson.{Lesson}
use Rattle.journal_lessons.specs.declared.lessons.Lesson.TheVariants.{Known, Solves, Begins, BeginsAndSolves, RootExpanded, TooManyRoots}
use Rattle.journal_lessons.specs.Lessons.{AreAdded, covers, lesson_of}

-- each record is lawful when its turn comes, whatever those before it make of the forest
abbrev pub AreLawfulFrom : ℕ → Forest → List BenchRecord → Type 0
AreLawfulFrom k roots [] = Unit {0}
AreLawfulFrom k roots (r ∷ records) =
    IsLawfulRecord k roots r
    × ((next : Forest) → IsApplied k roots r next → AreLawfulFrom k next records)

-- Of a good certificate of a lawful position: what its lesson adds is lawful.
abbrev pub LessonsAreLawful : Type 0
LessonsAreLawful =
    (roots : Forest) (c : Certificate) (added : List BenchRecord) → IsSoundForest roots
    → IsLawful c.position → IsTableSize c.pieces → IsGood c
    → AreAdded c (lesson_of c.pieces roots c) added → AreLawfulFrom c.pieces roots added

-- the nth root, counted from 1
abbrev pub IsNthRoot : ℕ → Forest → Node → Type 0
IsNthRoot n roots root = (1 ≤ n) × (slice_get (nodes roots) (n - 1) ≡ Some root)

-- The nth root has the certificate's position, and is settled or has all facts of its claim.
pub record IsCoveredAt (n : ℕ) (roots : Forest) (c : Certificate) : Type 0 where
  pub root : Node
  pub there : IsNthRoot n roots root
  pub position : root.own.position ≡ c.position
  pub covered : covers root c.claim ≡ true

-- the number of the root that the lesson is about, counted from 1; 0 for no root
abbrev pub root_of : Lesson → ℕ
root_of (Known root) = root
root_of (Solves root n) = root
root_of (Begins root) = root
root_of (BeginsAndSolves root n) = root
root_of (RootExpanded root) = root
root_of TooManyRoots = 0

-- Behind what the lesson adds the position is that root, and it covers the claim.
abbrev pub LessonsCover : Type 0
LessonsCover =
    (roots new : Forest) (c : Certificate) (added : List BenchRecord) → IsSoundForest roots
    → IsGood c → IsTrueOf c.claim c.position
    → AreAdded c (lesson_of c.pieces roots c) added → GrowsWithAll c.pieces roots added new
    → IsCoveredAt (root_of (lesson_of c.pieces roots c)) new c
