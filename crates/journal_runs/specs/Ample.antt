-- A budget that is enough to settle every root: looking ahead decides each root that has no value yet,
-- and there is a work record for each of them. And one that is enough for a search of each root.
use Rattle.std.specs.Prelude.{◌≡◌, ◌≤◌, ◌⊎◌, ℕ, not, List, [], ◌++◌, map, count_by, is_some, IsSome}
use Rattle.std.specs.List.{AllByRecursion as Each}
use Rattle.draughts_board.specs.Board.{Board}
use Rattle.draughts_board.specs.Draughts.{draughts}
use Rattle.draughts_board.specs.Game.{ShowsWin, ShowsHold}
use Rattle.draughts_board.specs.declared.pieces.Side.TheVariants.{Black, White}
use Rattle.proof_tree.specs.declared.rows.Mark.TheVariants.{Unexpanded}
use Rattle.proof_tree.specs.Forest.{Forest, Node, nodes, value_of}
use Rattle.bench_records.specs.declared.records.BenchRecord.{BenchRecord}
use Rattle.bench_records.specs.declared.records.BenchRecord.TheVariants.{Begin}
use Rattle.bench_core.specs.Records.{begun}
use Rattle.bench_core.specs.Growing.{IsForestOf}
use Rattle.tree_manager.specs.Sessions.{session_budget, with_roots}
use Rattle.journal_runs.specs.declared.first_pass.TheConstants.{MOST_FIRST}

-- with tables of k pieces, looking so far ahead shows a win of one side, or that both hold
abbrev pub ShowsValue : ℕ → ℕ → Board → Type 0
ShowsValue k depth p =
    ShowsWin draughts k Black depth p
    ⊎ (ShowsWin draughts k White depth p
    ⊎ (ShowsHold draughts k Black depth [] p × ShowsHold draughts k White depth [] p))

-- the root has its value, or it is unexpanded and looking ahead shows one
abbrev pub IsWithinReach : ℕ → ℕ → Node → Type 0
IsWithinReach k depth root =
    IsSome (value_of root)
    ⊎ ((root.own.mark ≡ Unexpanded) × ShowsValue k depth root.own.position)

-- the root has its value, or it is unexpanded
abbrev pub IsSettledOrFresh : Node → Type 0
IsSettledOrFresh root = IsSome (value_of root) ⊎ (root.own.mark ≡ Unexpanded)

-- where looking so far ahead shows a value of the root, it has its value
abbrev pub IsReached : ℕ → ℕ → Node → Type 0
IsReached k depth root = ShowsValue k depth root.own.position → IsSome (value_of root)

-- how many roots have no value
abbrev pub unsettled_roots : Forest → ℕ
unsettled_roots roots = count_by (λ root. not (is_some (value_of root))) (nodes roots)

-- Of the records as which a journal reads, and of the positions at which roots are begun: each root of
-- their forest is within reach, and the session's budget is no lower than the number of those that
-- have no value.
pub record IsAmple (k depth budget : ℕ) (positions : List Board) (before : List BenchRecord)
    : Type 0 where
  pub added : List Board
  pub all : begun before ++ added ≡ with_roots (begun before) positions
  pub roots : Forest
  pub begins : IsForestOf k (before ++ map Begin added) roots
  pub within : Each (IsWithinReach k depth) (nodes roots)
  pub enough : unsettled_roots roots ≤ session_budget budget before

-- Of the records as which a journal reads, and of the positions at which roots are begun: each root of
-- their forest that has no value is unexpanded. The session's budget is no lower than the number of
-- these, and neither is the number of leases that live at one time, nor that of a first pass.
pub record IsRoomForEach (k budget lease : ℕ) (positions : List Board) (before : List BenchRecord)
    : Type 0 where
  pub added : List Board
  pub all : begun before ++ added ≡ with_roots (begun before) positions
  pub roots : Forest
  pub begins : IsForestOf k (before ++ map Begin added) roots
  pub fresh : Each IsSettledOrFresh (nodes roots)
  pub enough : unsettled_roots roots ≤ session_budget budget before
  pub together : unsettled_roots roots ≤ lease
  pub few : unsettled_roots roots ≤ MOST_FIRST
