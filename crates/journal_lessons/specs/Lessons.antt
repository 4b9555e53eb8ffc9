-- What a certificate teaches a journal: the records that are added for it, or why none may be.
use Rattle.std.specs.Prelude.{◌≡◌, ℕ, suc, Bool, true, false, ◌||◌, List, [], ◌∷◌, length, nat_lt, is_some, if◌then◌else◌, Option, Some, None}
use Rattle.draughts_board.specs.Board.{Board, same_board}
use Rattle.draughts_board.specs.Draughts.{draughts}
use Rattle.draughts_board.specs.Game.{is_at_sight}
use Rattle.strategy_certificate.specs.declared.claims.Claim.{Claim}
use Rattle.strategy_certificate.specs.declared.certificates.Part.{Part}
use Rattle.strategy_certificate.specs.declared.certificates.Part.TheVariants as part
use Rattle.strategy_certificate.specs.declared.certificates.Certificate.{Certificate}
use Rattle.strategy_certificate.specs.Claims.{HasShortRanks}
use Rattle.strategy_certificate.specs.Parts.{WinList}
use Rattle.certificate_checker.specs.Told.{facts_claimed}
use Rattle.proved_book.specs.Books.{IsKeptAs}
use Rattle.certificate_checker.specs.OneParts.{with_part}
use Rattle.proof_numbers.specs.Known.{includes}
use Rattle.proof_tree.specs.declared.rows.Mark.{Mark}
use Rattle.proof_tree.specs.declared.rows.Mark.TheVariants.{Expanded, Repeats, Unexpanded}
use Rattle.proof_tree.specs.declared.tree.TheConstants.{MOST_ROOTS}
use Rattle.proof_tree.specs.Forest.{Forest, Node, nodes, size, value_of}
use Rattle.bench_records.specs.declared.records.BenchRecord.{BenchRecord}
use Rattle.bench_records.specs.declared.records.BenchRecord.TheVariants.{Begin, Solve}
use Rattle.journal_lessons.specs.declared.lessons.Lesson.{Lesson}
use Rattle.journal_lessons.specs.declared.lessons.Lesson.TheVariants.{Known, Solves, Begins, BeginsAndSolves, RootExpanded, TooManyRoots}

-- ---- the table

-- the first of the roots with the position, and its number; the first root has number n
abbrev pub root_from : ℕ → Board → List Node → Option (ℕ × Node)
root_from n p [] = None
root_from n p (root ∷ more) =
    (if same_board root.own.position p then Some (n, root) else root_from (suc n) p more)

-- .. counted from 1
abbrev pub root_with : Board → Forest → Option (ℕ × Node)
root_with p roots = root_from 1 p (nodes roots)

-- the root is settled, or has all facts of the claim as its own
abbrev pub covers : Node → Claim → Bool
covers root claim = is_some (value_of root) || includes root.own.facts (facts_claimed claim)

abbrev pub is_expanded : Mark → Bool
is_expanded Expanded = true
is_expanded Unexpanded = false
is_expanded Repeats = false

-- What is to be done where the position is this root, of number n. The first that fits counts: the
-- root covers the claim; it is expanded; it is solved.
abbrev pub taught_by : ℕ → Node → Claim → Lesson
taught_by n root claim =
    (if covers root claim then Known n
    else (if is_expanded root.own.mark then RootExpanded n else Solves n root.own.number))

-- What is to be done for a certificate, with tables of k pieces. If no root has its position, the
-- first that fits counts: no room for a root is left; the position is decided at sight, and its
-- root begins, with the next number of a root; it begins, with the next number of a node, and is
-- solved.
abbrev pub lesson_at : ℕ → Forest → Certificate → Option (ℕ × Node) → Lesson
lesson_at k roots c (Some (n, root)) = taught_by n root c.claim
lesson_at k roots c None =
    (if nat_lt (length (nodes roots)) MOST_ROOTS
    then (if is_at_sight draughts k c.position then Begins (suc (length (nodes roots)))
    else BeginsAndSolves (suc (length (nodes roots))) (size roots))
    else TooManyRoots)

abbrev pub lesson_of : ℕ → Forest → Certificate → Lesson
lesson_of k roots c = lesson_at k roots c (root_with c.position roots)

-- ---- what is recorded

-- a part as it is recorded: a win part that is not short by its short ranks, where those are short
abbrev pub IsRecordedPart : Part → Part → Type 0
IsRecordedPart (part.Win w) kept =
    (short : WinList) × (IsKeptAs w short
    × (HasShortRanks (part.Win short) × (kept ≡ part.Win short)))
IsRecordedPart (part.Hold h) kept = kept ≡ part.Hold h

-- of each part a certificate of its own, in order: of a draw one for each hold
abbrev pub AreRecordedParts : ℕ → Board → List Part → List Certificate → Type 0
AreRecordedParts k p [] shown = shown ≡ []
AreRecordedParts k p (one ∷ more) shown =
    (kept : Part) × (IsRecordedPart one kept
    × ((rest : List Certificate)
    × ((shown ≡ with_part k p kept ∷ rest) × AreRecordedParts k p more rest)))

abbrev pub IsRecordedAs : Certificate → List Certificate → Type 0
IsRecordedAs c shown = AreRecordedParts c.pieces c.position c.parts shown

-- the one record that solves node n
abbrev pub IsSolveBy : ℕ → Certificate → BenchRecord → Type 0
IsSolveBy n c r =
    (shown : List Certificate) × (IsRecordedAs c shown × (r ≡ Solve n c.position shown))

-- the records that the lesson adds; a refusal adds none
abbrev pub AreAdded : Certificate → Lesson → List BenchRecord → Type 0
AreAdded c (Known root) added = added ≡ []
AreAdded c (Solves root n) added = (r : BenchRecord) × (IsSolveBy n c r × (added ≡ r ∷ []))
AreAdded c (Begins root) added = added ≡ Begin c.position ∷ []
AreAdded c (BeginsAndSolves root n) added =
    (r : BenchRecord) × (IsSolveBy n c r × (added ≡ Begin c.position ∷ r ∷ []))
AreAdded c (RootExpanded root) added = ⊥
AreAdded c TooManyRoots added = ⊥
