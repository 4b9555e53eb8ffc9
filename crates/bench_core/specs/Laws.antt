-- Laws over every list of events, and over every list of records.
use Rattle.std.specs.Prelude.{◌≡◌, ◌≤◌, ℕ, List, All, Contains, IfSome, Option}
use Rattle.draughts_board.specs.Board.{Board}
use Rattle.draughts_board.specs.Draughts.{draughts}
use Rattle.draughts_board.specs.Game.{HasValue}
use Rattle.strategy_certificate.specs.declared.oracle.Answer.{Answer}
use Rattle.strategy_certificate.specs.Tables.{IsSoundTable}
use Rattle.proof_tree.specs.Forest.{Forest, nodes, value_of}
use Rattle.proof_tree.specs.Laws.{IsSettledWhereResolved}
use Rattle.proof_tree.specs.Sound.{root_positions}
use Rattle.lease_table.specs.declared.leases.Row.{Row}
use Rattle.bench_records.specs.declared.records.BenchRecord.{BenchRecord}
use Rattle.bench_core.specs.Records.{begun}
use Rattle.bench_core.specs.Growing.{IsForestOf}
use Rattle.bench_core.specs.States.{CoreState, Event, IsRun, IsSoundState}

-- Whatever workers do and whenever leases run out: events lead from a sound state to a sound one.
abbrev pub EventsKeepSound : Type 0
EventsKeepSound =
    (old new : CoreState) (events : List Event) → IsSoundState old → IsRun old events new
    → IsSoundState new

-- In a sound state the value of a settled root is that of its position.
abbrev pub SoundValuesAreTrue : Type 0
SoundValuesAreTrue =
    (answer : Board → Option Answer) (s : CoreState)
    → IsSoundTable draughts s.settings.pieces answer → s.settings.pieces ≤ 3 → IsSoundState s
    → All (λ root. IfSome (value_of root) (HasValue draughts root.own.position)) (nodes s.forest)

-- In a sound state no two leases are of one leaf.
abbrev pub LeavesAreLeasedOnce : Type 0
LeavesAreLeasedOnce =
    (s : CoreState) (one another : Row) → IsSoundState s → Contains s.leases.rows one
    → Contains s.leases.rows another → one.lease.node ≡ another.lease.node → one ≡ another

-- One list of records has one forest, with tables of k pieces.
abbrev pub RecordsHaveOneForest : Type 0
RecordsHaveOneForest =
    (k : ℕ) (records : List BenchRecord) (one another : Forest) → IsForestOf k records one
    → IsForestOf k records another → one ≡ another

-- The roots of that forest are those that the records begin, in order.
abbrev pub RootsAreThoseBegun : Type 0
RootsAreThoseBegun =
    (k : ℕ) (records : List BenchRecord) (roots : Forest) → IsForestOf k records roots
    → root_positions roots ≡ begun records

-- In that forest a root has a value exactly where it is resolved for both goals.
abbrev pub RecordsSettleWhatTheyResolve : Type 0
RecordsSettleWhatTheyResolve =
    (k : ℕ) (records : List BenchRecord) (roots : Forest) → IsForestOf k records roots
    → All IsSettledWhereResolved (nodes roots)
