-- How the fields of a bench are seen, and what ties them together. Nobody has to believe it.
use Rattle.std.specs.Prelude.{◌≡◌, ◌≤◌, ◌<◌, ◌+◌, ◌^◌, ℕ, true, cond, List, [], ◌∷◌, Contains, map, length, Option, Some, None, IfSome}
use Rattle.std.specs.List.{AllByRecursion as Each}
use Rattle.draughts_board.specs.Board.{Board}
use Rattle.draughts_board.specs.Draughts.{draughts}
use Rattle.strategy_certificate.specs.declared.oracle.Answer.{Answer}
use Rattle.strategy_certificate.specs.Tables.{IsSoundTable}
use Rattle.proof_numbers.specs.Facts.{known}
use Rattle.proof_tree.specs.Forest.{node_at}
use Rattle.certificate_checker.specs.Sight.{IsAtSight, AreChildren}
use Rattle.lease_table.specs.Rows.{LeaseRows}
use Rattle.lease_table.specs.Laws.{swept}
use Rattle.lease_table.specs.declared.leases.Row.{Row}
use Rattle.bench_records.specs.declared.records.BenchRecord.{BenchRecord}
use Rattle.bench_records.specs.declared.records.BenchRecord.TheVariants as records
use Rattle.bench_core.specs.declared.settings.Settings.{Settings}
use Rattle.bench_core.specs.declared.staged.Staged.{Staged}
use Rattle.bench_core.specs.declared.staged.Staged.TheVariants.{Begin, Solve, Expand}
use Rattle.bench_core.specs.Records.{is_work}
use Rattle.certificate_checker.specs.Told.{facts_shown}
use Rattle.bench_core.specs.Grown.{GrownState}
use Rattle.bench_core.specs.States.{CoreState, AreRowsApart}
use Rattle.bench_core.specs.Cores.{Core, IsSoundCore}
use Rattle.bench_core.specs.Naming.{NamingState, AreNamesOf}

-- the record that is staged
abbrev pub record_staged : Staged → BenchRecord
record_staged (Begin child) = records.Begin child.position
record_staged (Solve lease node position facts shown) = records.Solve node position shown
record_staged (Expand lease node children) = records.Expand node

-- the lease that is kept for it
abbrev pub lease_kept : Staged → Option ℕ
lease_kept (Begin child) = None
lease_kept (Solve lease node position facts shown) = Some lease
lease_kept (Expand lease node children) = Some lease

-- how many work records it is
abbrev pub work_made : Staged → ℕ
work_made item = cond (is_work (record_staged item)) 1 0

-- how many nodes it will make
abbrev pub nodes_made : Staged → ℕ
nodes_made (Begin child) = 1
nodes_made (Solve lease node position facts shown) = 0
nodes_made (Expand lease node children) = length children

abbrev pub all_nodes_made : List Staged → ℕ
all_nodes_made [] = 0
all_nodes_made (item ∷ waiting) = nodes_made item + all_nodes_made waiting

-- the core of these fields: of the table only the leases that live
abbrev pub seen : GrownState → LeaseRows → List Staged → ℕ → ℕ → Settings → Core
seen grown leases waiting given work settings =
    record {
      state = record {
        forest = grown.forest;
        leases = swept leases given;
        given = given;
        work = work;
        settings = record {
          budget = settings.budget;
          depth = settings.depth;
          pieces = settings.pieces;
        };
      };
      records = grown.records;
      staged = map record_staged waiting;
    }

-- the lease with this number is kept for the node
pub record IsKeptFor (rows : List Row) (id node : ℕ) : Type 0 where
  pub row : Row
  pub there : Contains rows row
  pub number : row.lease.id ≡ id
  pub own : row.lease.node ≡ node
  pub kept : row.kept ≡ true

-- what was stored with the record is what applying it needs
abbrev pub IsPrepared : CoreState → Staged → Type 0
IsPrepared s (Begin child) = IsAtSight s.settings.pieces child
IsPrepared s (Solve lease node position facts shown) = known facts ≡ facts_shown shown
IsPrepared s (Expand lease node children) =
    IfSome (node_at node s.forest) (λ x. AreChildren s.settings.pieces x.own.position children)

-- .. and its lease is kept
abbrev pub IsReady : CoreState → Staged → Type 0
IsReady s (Begin child) = IsPrepared s (Begin child)
IsReady s (Solve lease node position facts shown) =
    IsKeptFor s.leases.rows lease node × IsPrepared s (Solve lease node position facts shown)
IsReady s (Expand lease node children) =
    IsKeptFor s.leases.rows lease node × IsPrepared s (Expand lease node children)

-- What ties the fields of a bench, of which this is the core.
pub record IsBench (whole : Core) (grown : GrownState) (leases : LeaseRows) (waiting : List Staged)
    (due : ℕ) : Type 0 where
  pub table : (answer : Board → Option Answer)
      × IsSoundTable draughts whole.state.settings.pieces answer
  pub few : whole.state.settings.pieces ≤ 3
  pub core : IsSoundCore whole
  pub numbers : Each (λ row. row.lease.id ≤ whole.state.given) leases.rows
  pub apart : AreRowsApart leases.rows
  pub ready : Each (IsReady whole.state) waiting
  pub made : all_nodes_made waiting ≡ due
  pub nodes : due ≤ grown.nodes
  pub room : length waiting ≤ grown.room
  pub countable : whole.state.work + length waiting < 2 ^ 64

-- .. and its list of names is that of its records
pub record IsNamingBench (whole : Core) (grown : GrownState) (leases : LeaseRows)
    (waiting : List Staged) (due : ℕ) (list : NamingState) : Type 0 where
  pub bench : IsBench whole grown leases waiting due
  pub names : AreNamesOf grown.records (map record_staged waiting) list
